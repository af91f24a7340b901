-- From one clause of a result to another.
use Rattle.std.proofs.Common.{◌≡◌, Bool, true, false, cond, List, [], ◌∷◌, ◌++◌, Some, None, refl, Result, Ok, Err, OnErr}
use Rattle.lock_rules.specs.declared.calls.Why.{Why}
use Rattle.lock_rules.specs.Step.{first_failing}

-- a fact that holds anyway holds on a failure
pub on-err-from : {T E P : Type 0} (r : Result T E) → P → OnErr r P
on-err-from (Ok x) p = tt
on-err-from (Err e) p = p

-- lists of tests

-- if a test of the first list fails, the first that fails is there
pub first-some : (xs ys : List (Bool × Why)) (why : Why) → Some why ≡ first_failing xs → Some why ≡ first_failing (xs ++ ys)
first-some [] ys why h = absurd (cc)
first-some (x ∷ xs) ys why h = go x.0 h (first-some xs ys why)
  where
    go : (b : Bool) → Some why ≡ cond b (Some x.1) (first_failing xs) → (Some why ≡ first_failing xs → Some why ≡ first_failing (xs ++ ys)) → Some why ≡ cond b (Some x.1) (first_failing (xs ++ ys))
    go true h next = h
    go false h next = next h

-- if none of the first list fails, the first that fails is that of the second list
pub first-none : (xs ys : List (Bool × Why)) → None ≡ first_failing xs → first_failing (xs ++ ys) ≡ first_failing ys
first-none [] ys h = refl
first-none (x ∷ xs) ys h = go x.0 h (first-none xs ys)
  where
    go : (b : Bool) → None ≡ cond b (Some x.1) (first_failing xs) → (None ≡ first_failing xs → first_failing (xs ++ ys) ≡ first_failing ys) → cond b (Some x.1) (first_failing (xs ++ ys)) ≡ first_failing ys
    go true h next = absurd (cc)
    go false h next = next h
