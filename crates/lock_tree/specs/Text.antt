-- The text of a resource. The format is this project's own choice.
use Rattle.std.specs.Prelude.{ℕ, Bool, ◌==◌, List, map, decimal}
use Rattle.std.specs.List.{join_with_byte, slice_split}

-- the byte is a `/`
abbrev pub is_slash : ℕ → Bool
is_slash b = b == 47

-- the numbers in decimal, separated by `/`
abbrev pub text_of : List ℕ → List ℕ
text_of r = join_with_byte 47 (map decimal r)

-- the pieces of a text, which is split at each `/`
abbrev pub pieces_of : List ℕ → List (List ℕ)
pieces_of t = slice_split is_slash t
