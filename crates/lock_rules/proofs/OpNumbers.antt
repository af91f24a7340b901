-- An operation is found by its number.
use Rattle.std.proofs.Common.{◌≡◌, ℕ, ◌+◌, ◌<◌, List, [], ◌∷◌, length, drop, drop-cons, get_or, add-one, ne_eqb, Option, Some, None, refl, ap, ◌∙◌}
use Rattle.std.specs.Prelude.{if◌then◌else◌, ◌==◌}
use Rattle.lock_rules.specs.declared.kinds.Op.{Op}
use Rattle.lock_rules.specs.Kinds.{number_of_op}

-- the first of these operations that has the number
abbrev pub op_numbered : List Op → ℕ → Option Op
op_numbered [] n = None
op_numbered (o ∷ os) n = if number_of_op o == n then Some o else op_numbered os n

-- an operation with another number is skipped
pub passed_over : (os : List Op) (i : ℕ) (d : Op) (n number : ℕ) (found : Option Op) → i < length os → number ≡ number_of_op (get_or os i d) → (number ≡ n → ⊥)
    → found ≡ op_numbered (drop i os) n → found ≡ op_numbered (drop (i + 1) os) n
passed_over os i d n number found lt is other so_far = so_far ∙ ap (λ (xs : List Op). op_numbered xs n) (drop-cons os i d lt) ∙ rw (ne_eqb (number_of_op (get_or os i d)) n (λ e. other (is ∙ e)), add-one i) refl
