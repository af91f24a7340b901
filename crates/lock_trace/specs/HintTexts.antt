-- Texts for a person's terminal.
use Rattle.std.specs.Prelude.{◌≡◌, ℕ, ◌<◌, ◌≤◌, ◌⊎◌, List, [], ◌∷◌, ◌++◌, codes}
use Rattle.std.specs.List.{All, flat_map}

-- The byte is printable ASCII.
abbrev pub IsPrintable : ℕ → Type 0
IsPrintable byte = (32 ≤ byte) × (byte < 127)

-- The line begins with these bytes.
abbrev pub BeginsWith : List ℕ → List ℕ → Type 0
BeginsWith start line = (rest : List ℕ) × (line ≡ start ++ rest)

-- A line of a hint, without its line feed.
abbrev pub IsHintLine : List ℕ → Type 0
IsHintLine line = (BeginsWith (codes "  ") line ⊎ BeginsWith (codes "glm: ") line) × All IsPrintable line

-- A line with its line feed.
abbrev pub with_line_feed : List ℕ → List ℕ
with_line_feed line = line ++ 10 ∷ []

-- The text is lines of a hint.
abbrev pub IsHintText : List ℕ → Type 0
IsHintText text = (lines : List (List ℕ)) × (text ≡ flat_map with_line_feed lines) × All IsHintLine lines
