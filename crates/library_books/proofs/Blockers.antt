-- The sessions for which one waits, in an array that has room for all.
use Rattle.std.proofs.Common.{◌≡◌, ℕ, zero, suc, ◌+◌, ◌≤◌, Bool, true, false, cond, filter, List, ◌∷◌, ◌++◌, length, take, drop, ap, arith, ◌∙◌}
use Rattle.std.specs.List.{range_with_len}
use Rattle.std.proofs.lemmas.List.{take_all}
use Rattle.std.proofs.Math.Seq.{take-append_seam}

-- Of n numbers no more than n are listed.
pub few-listed : (p : ℕ → Bool) (a n : ℕ) → length (filter p (range_with_len a n)) ≤ n
few-listed p a zero = omega arith
few-listed p a (suc n) = go (p a) (few-listed p (a + 1) n)
  where
    go : (b : Bool) → length (filter p (range_with_len (a + 1) n)) ≤ n → length (cond b (a ∷ filter p (range_with_len (a + 1) n)) (filter p (range_with_len (a + 1) n))) ≤ suc n
    go true rest = omega (arith, rest)
    go false rest = omega (arith, rest)

-- What was written to the front of an array that has room for it.
pub front-written : (xs old : List ℕ) (n : ℕ) → length xs ≤ n → take (length xs) (take n xs ++ drop (length xs) old) ≡ xs
front-written xs old n room = ap (λ (l : List ℕ). take (length xs) (l ++ drop (length xs) old)) (take_all n xs room) ∙ take-append_seam xs (drop (length xs) old)
