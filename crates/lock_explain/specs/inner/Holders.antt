-- The holders of a resource, read by session number.
use Rattle.std.specs.Prelude.{ℕ, ◌==◌, if◌then◌else◌, List, [], ◌∷◌, Option, Some, None}
use Rattle.lock_modes.specs.declared.Mode.{Mode}

-- the mode of the first of these holders, if it is session s
abbrev pub mode_of_first : ℕ → List (ℕ × Mode) → Option Mode
mode_of_first s [] = None
mode_of_first s (h ∷ hs) = if h.0 == s then Some h.1 else None
