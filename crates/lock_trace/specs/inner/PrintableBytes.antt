-- The bytes of a line.
use Rattle.std.specs.Prelude.{ℕ, ◌≡◌, ◌⊎◌, List, codes, ◌||◌, nat_lt, if◌then◌else◌}

-- The byte, or a question mark if it isn't printable ASCII.
abbrev pub printable_byte : ℕ → ℕ
printable_byte byte = if nat_lt byte 32 || nat_lt 126 byte then 63 else byte

-- What a line begins with.
abbrev pub IsStart : List ℕ → Type 0
IsStart start = (start ≡ codes "  ") ⊎ (start ≡ codes "glm: ")
