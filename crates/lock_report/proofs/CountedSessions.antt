-- How many sessions pass a test, counted one after another.
use Rattle.std.proofs.Common.{◌≡◌, ℕ, suc, ◌+◌, Bool, true, false, cond, [], ◌∷◌, ◌++◌, filter, length, length-append, refl, sym, ap, ◌∙◌, arith}
use Rattle.std.specs.List.{range_with_len}
use Rattle.std.proofs.lemmas.List.Elements.{filter-append}
use Rattle.lock_rules.proofs.Ranges.{one-behind}

-- how many of one number pass
of-one : (p : ℕ → Bool) (j : ℕ) (b : Bool) → b ≡ p j → length (filter p (j ∷ [])) ≡ cond b 1 0
of-one p j b is = ap (λ (c : Bool). length (cond c (j ∷ []) [])) (sym is) ∙ both b
  where
    both : (c : Bool) → length (cond c (j ∷ []) []) ≡ cond c 1 0
    both true = refl
    both false = refl

-- one session more is counted if it passes
pub counted : (p : ℕ → Bool) (n k r : ℕ) (b : Bool) → k ≡ length (filter p (range_with_len 1 n)) → r ≡ cond b 1 0 → b ≡ p (n + 1)
    → k + r ≡ length (filter p (range_with_len 1 (n + 1)))
counted p n k r b so_far adds is =
    let on : n + 1 ≡ suc n = omega arith in
    let more : filter p (range_with_len 1 (n + 1)) ≡ filter p (range_with_len 1 n) ++ filter p ((n + 1) ∷ []) =
    ap (λ (i : ℕ). filter p (range_with_len 1 i)) on ∙ (ap (filter p) (one-behind 1 n (n + 1) (omega arith)) ∙ filter-append p (range_with_len 1 n) ((n + 1) ∷ [])) in
    let long : length (filter p (range_with_len 1 (n + 1))) ≡ length (filter p (range_with_len 1 n) ++ filter p ((n + 1) ∷ [])) = ap length more in
    omega (arith, so_far, adds, long, length-append (filter p (range_with_len 1 n)) (filter p ((n + 1) ∷ [])), of-one p (n + 1) b is)
