-- A refusal is found by its name.
use Rattle.std.proofs.Common.{◌≡◌, ℕ, ◌+◌, ◌<◌, List, [], ◌∷◌, false, length, drop, drop-cons, get_or, add-one, Option, Some, None, refl, ap, ◌∙◌}
use Rattle.std.specs.Prelude.{if◌then◌else◌, bytes_eq}
use Rattle.lock_rules.specs.declared.calls.Why.{Why}
use Rattle.lock_rules.specs.Names.{name_of_why}

-- the first of these refusals that has the name
abbrev pub refusal_named : List Why → List ℕ → Option Why
refusal_named [] text = None
refusal_named (w ∷ ws) text = if bytes_eq text (name_of_why w) then Some w else refusal_named ws text

-- a refusal with another name is skipped
pub passed_over : (ws : List Why) (i : ℕ) (d : Why) (text name : List ℕ) (found : Option Why) → i < length ws → name ≡ name_of_why (get_or ws i d) → bytes_eq text name ≡ false
    → found ≡ refusal_named (drop i ws) text → found ≡ refusal_named (drop (i + 1) ws) text
passed_over ws i d text name found lt is other so_far = so_far ∙ ap (λ (xs : List Why). refusal_named xs text) (drop-cons ws i d lt) ∙ rw (← is, other, add-one i) refl
