-- The parent is all numbers but the last.
use Rattle.std.proofs.Common.{◌≡◌, ℕ, zero, suc, ◌<◌, take, set, List, [], ◌∷◌, length, refl, ap, arith}
use Rattle.lock_tree.specs.Paths.{parent_of}

-- with the number at n overwritten, the numbers before it are the parent of those up to it
pub parent_of-set : (n : ℕ) (xs : List ℕ) (v : ℕ) → n < length xs → take n (set xs n v) ≡ parent_of (take (suc n) xs)
parent_of-set n [] v lt = absurd (omega (arith, lt))
parent_of-set zero (x ∷ xs) v lt = refl
parent_of-set (suc n) (x ∷ []) v lt = absurd (omega (arith, lt))
parent_of-set (suc n) (x ∷ y ∷ ys) v lt = ap (λ (zs : List ℕ). x ∷ zs) (parent_of-set n (y ∷ ys) v (omega (arith, lt)))
