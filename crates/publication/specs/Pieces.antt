-- The pieces of the history that sessions take while the board is open.
use Rattle.std.specs.Prelude.{◌≡◌, ℕ, ◌+◌, ◌≤◌, ◌==◌, List, [], ◌∷◌, ◌++◌, filter, length, take, drop, All}
use Rattle.publication.specs.declared.piece.Piece.{Piece}

-- The pieces that session i took, in order.
abbrev pub pieces_of : ℕ → List Piece → List Piece
pieces_of i = filter (λ p. p.session == i)

-- The pieces follow one another: the first begins at place `from` or later, each other where the one before ends or later,
-- and the last ends at place `upto` or earlier.
abbrev pub AreInOrder : ℕ → List Piece → ℕ → Type 0
AreInOrder from [] upto = from ≤ upto
AreInOrder from (p ∷ ps) upto = (from ≤ p.first) × AreInOrder (p.first + p.count) ps upto

-- The pieces follow one another without a gap: the first begins at place `from`, each other where the one before ends, and
-- the last ends at place `upto`.
abbrev pub AreInARow : ℕ → List Piece → ℕ → Type 0
AreInARow from [] upto = from ≡ upto
AreInARow from (p ∷ ps) upto = (p.first ≡ from) × AreInARow (p.first + p.count) ps upto

module _ {L : Type 0} where
  -- The lines of the list that are in the piece.
  abbrev pub lines_in : List L → Piece → List L
  lines_in lines p = take p.count (drop p.first lines)

  -- The lines of the list that are in the pieces, one piece after another.
  abbrev pub put_together : List L → List Piece → List L
  put_together lines [] = []
  put_together lines (p ∷ ps) = lines_in lines p ++ put_together lines ps

-- After some pieces were taken, session `number` took more, and nobody else did.
pub record HasAdded (number : ℕ) (before after : List Piece) : Type 0 where
  pub more : List Piece
  pub after_is : after ≡ before ++ more
  pub own : All (λ p. p.session ≡ number) more

-- The pieces that were added.
abbrev pub added : List Piece → List Piece → List Piece
added before after = drop (length before) after
