-- The fields of a row.
use Rattle.std.specs.Prelude.{ℕ, Bool, ◌==◌, List, [], ◌∷◌}
use Rattle.lock_report.specs.declared.reading.row.RowFields.{RowFields}

-- the texts of the seven fields, in the order of the row
abbrev pub texts_of : RowFields → List (List ℕ)
texts_of f = f.word.now ∷ f.session.now ∷ f.number.now ∷ f.victim.now ∷ f.resource.now ∷ f.mode.now ∷ f.other.now ∷ []

-- the byte is a plus
abbrev pub is_plus : ℕ → Bool
is_plus b = b == 43
