-- A mode is found by its name.
use Rattle.std.proofs.Common.{◌≡◌, ℕ, ◌+◌, ◌<◌, List, [], ◌∷◌, false, length, drop, drop-cons, get_or, add-one, Option, Some, None, refl, ap, ◌∙◌}
use Rattle.std.specs.Prelude.{if◌then◌else◌, bytes_eq}
use Rattle.lock_modes.specs.declared.Mode.{Mode}
use Rattle.lock_modes.specs.Codes.{name_of}

-- the first of these modes that has the name
abbrev pub mode_named : List Mode → List ℕ → Option Mode
mode_named [] text = None
mode_named (m ∷ ms) text = if bytes_eq text (name_of m) then Some m else mode_named ms text

-- a mode with another name is skipped
pub passed_over : (ms : List Mode) (i : ℕ) (d : Mode) (text name : List ℕ) (found : Option Mode) → i < length ms → name ≡ name_of (get_or ms i d) → bytes_eq text name ≡ false
    → found ≡ mode_named (drop i ms) text → found ≡ mode_named (drop (i + 1) ms) text
passed_over ms i d text name found lt is other so_far = so_far ∙ ap (λ (xs : List Mode). mode_named xs text) (drop-cons ms i d lt) ∙ rw (← is, other, add-one i) refl
