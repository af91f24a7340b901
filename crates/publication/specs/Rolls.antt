-- Which session numbers were called.
use Rattle.std.specs.Prelude.{ℕ, Bool, false, slice_index_or}
use Rattle.publication.specs.declared.roll.Roll.{Roll}

-- The number was called; false for a number that the roll has no mark for.
abbrev pub is_called : Roll → ℕ → Bool
is_called roll n = slice_index_or roll.called n false
