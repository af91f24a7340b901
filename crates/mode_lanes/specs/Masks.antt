-- Masks over a column of bytes or a row of words.
use Rattle.std.specs.Prelude.{ℕ, Bool, not, ◌==◌, List, [], ◌∷◌, bit_and, bit_or}

-- The bits that are set in any item: the bitwise or of all items, 0 if there are none.
abbrev pub union_of : List ℕ → ℕ
union_of [] = 0
union_of (x ∷ xs) = bit_or x (union_of xs)

-- The item has a bit of the mask.
abbrev pub meets : ℕ → ℕ → Bool
meets mask item = not (bit_and item mask == 0)
