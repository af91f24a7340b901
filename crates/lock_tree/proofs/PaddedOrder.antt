-- The order of padded numbers and then of their counts is the order of the numbers.
use Rattle.std.proofs.Common.{◌≡◌, ℕ, zero, suc, ◌+◌, List, [], ◌∷◌, ◌++◌, length, replicate, refl, sym, ap, ◌∙◌, arith}
use Rattle.std.specs.declared.cmp.Ordering.{Ordering}
use Rattle.std.specs.declared.cmp.Ordering.TheVariants.{Less, Equal, Greater}
use Rattle.std.specs.Ordering.{nat_cmp, ordering_then}
use Rattle.std.specs.Cmp.Lexicographic.{slice_cmp}
use Rattle.std.specs.Cmp.{nat_cmp_is}
use Rattle.std.proofs.lemmas.Bool.Decides.{nat_tests}
use Rattle.std.proofs.lemmas.Cmp.{tied_itself, nat_list_cmp_total}

-- 0 is less than any greater number
below_suc : (n : ℕ) → nat_cmp 0 (suc n) ≡ Less
below_suc n = sym (nat_cmp_is 0 (suc n) Less (omega arith))

-- a number above 0 is greater than 0
above_zero : (n : ℕ) → nat_cmp (suc n) 0 ≡ Greater
above_zero n = sym (nat_cmp_is (suc n) 0 Greater (omega arith))

-- the order of two numbers, each greater by one
both_suc : (m n : ℕ) → nat_cmp (suc m) (suc n) ≡ nat_cmp m n
both_suc m n = grind (arith, nat_tests)

-- equally many zeros are equal in order
same_zeros : (k m : ℕ) → k ≡ m → slice_cmp nat_cmp (replicate k 0) (replicate m 0) ≡ Equal
same_zeros k m e = ap (λ (n : ℕ). slice_cmp nat_cmp (replicate k 0) (replicate n 0)) (sym e) ∙ tied_itself nat_list_cmp_total (replicate k 0)

-- zeros are at most other numbers, so a shorter list comes first
zeros_first : (k m : ℕ) (ys : List ℕ) → k ≡ length ys + m → ordering_then (slice_cmp nat_cmp (replicate k 0) (ys ++ replicate m 0)) Less ≡ Less
zeros_first k m [] e = ap (λ (o : Ordering). ordering_then o Less) (same_zeros k m (e ∙ omega arith))
zeros_first zero m (y ∷ ys) e = absurd (omega (arith, e))
zeros_first (suc k) m (zero ∷ ys) e = zeros_first k m ys (omega (arith, e))
zeros_first (suc k) m (suc y ∷ ys) e = ap (λ (o : Ordering). ordering_then (ordering_then o (slice_cmp nat_cmp (replicate k 0) (ys ++ replicate m 0))) Less) (below_suc y)

-- other numbers are at least zeros, so a longer list comes second
zeros_second : (k m : ℕ) (xs : List ℕ) → length xs + k ≡ m → ordering_then (slice_cmp nat_cmp (xs ++ replicate k 0) (replicate m 0)) Greater ≡ Greater
zeros_second k m [] e = ap (λ (o : Ordering). ordering_then o Greater) (same_zeros k m (omega (arith, e)))
zeros_second k zero (x ∷ xs) e = absurd (omega (arith, e))
zeros_second k (suc m) (zero ∷ xs) e = zeros_second k m xs (omega (arith, e))
zeros_second k (suc m) (suc x ∷ xs) e = ap (λ (o : Ordering). ordering_then (ordering_then o (slice_cmp nat_cmp (xs ++ replicate k 0) (replicate m 0))) Greater) (above_zero x)

-- the order of the heads and then of the rests
then_again : (o p q r : Ordering) → ordering_then p q ≡ r → ordering_then (ordering_then o p) q ≡ ordering_then o r
then_again Less p q r e = refl
then_again Equal p q r e = e
then_again Greater p q r e = refl

-- padded lists and then their counts are ordered as the lists are
pub padded_order : (k m : ℕ) (xs ys : List ℕ) → length xs + k ≡ length ys + m → ordering_then (slice_cmp nat_cmp (xs ++ replicate k 0) (ys ++ replicate m 0)) (nat_cmp (length xs) (length ys)) ≡ slice_cmp nat_cmp xs ys
padded_order k m [] [] e = ap (λ (o : Ordering). ordering_then o Equal) (same_zeros k m (omega (arith, e)))
padded_order k m [] (y ∷ ys) e = ap (ordering_then (slice_cmp nat_cmp (replicate k 0) (y ∷ ys ++ replicate m 0))) (below_suc (length ys)) ∙ zeros_first k m (y ∷ ys) (omega (arith, e))
padded_order k m (x ∷ xs) [] e = ap (ordering_then (slice_cmp nat_cmp (x ∷ xs ++ replicate k 0) (replicate m 0))) (above_zero (length xs)) ∙ zeros_second k m (x ∷ xs) (omega (arith, e))
padded_order k m (x ∷ xs) (y ∷ ys) e = then_again (nat_cmp x y) (slice_cmp nat_cmp (xs ++ replicate k 0) (ys ++ replicate m 0)) (nat_cmp (suc (length xs)) (suc (length ys))) (slice_cmp nat_cmp xs ys) (ap (ordering_then (slice_cmp nat_cmp (xs ++ replicate k 0) (ys ++ replicate m 0))) (both_suc (length xs) (length ys)) ∙ padded_order k m xs ys (omega (arith, e)))
