-- No age is beyond the number of passes, also once a pass has noted those that it served.
use Rattle.std.proofs.Common.{ℕ, zero, suc, ◌-◌, ◌≤◌, List, [], ◌∷◌, get_or, set, arith}
use Rattle.combining.specs.inner.Ages.{noted}

set-past : (l : List ℕ) (k x : ℕ) → ((i : ℕ) → get_or l i 0 ≤ x) → (i : ℕ) → get_or (set l k x) i 0 ≤ x
set-past [] k x past i = omega arith
set-past (y ∷ ys) zero x past zero = omega arith
set-past (y ∷ ys) zero x past (suc i) = past (suc i)
set-past (y ∷ ys) (suc k) x past zero = past zero
set-past (y ∷ ys) (suc k) x past (suc i) = set-past ys k x (λ n. past (suc n)) i

-- The pass is the age of those that it served, and no other age was beyond it.
pub noted-past : (ages js : List ℕ) (passes : ℕ) → ((i : ℕ) → get_or ages i 0 ≤ passes) → (i : ℕ) → get_or (noted ages js passes) i 0 ≤ passes
noted-past ages [] passes past = past
noted-past ages (j ∷ js) passes past = noted-past (set ages (j - 1) passes) js passes (set-past ages (j - 1) passes past)
