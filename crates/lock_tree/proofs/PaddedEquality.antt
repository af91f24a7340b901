-- Equality of padded numbers and of their counts is equality of the numbers.
use Rattle.std.proofs.Common.{◌≡◌, ℕ, suc, Bool, true, false, List, [], ◌∷◌, ◌++◌, length, replicate, refl, sym, ap, ◌∙◌, arith, eqb, ne_eqb}
use Rattle.std.specs.Prelude.{◌&&◌}
use Rattle.std.specs.Cmp.Lexicographic.{pointwise}
use Rattle.std.proofs.lemmas.Bool.{and_right}
use Rattle.std.proofs.lemmas.Bool.Decides.{nat_tests}
use Rattle.std.proofs.lemmas.Cmp.{nat_list_eq_equiv}
use Rattle.lock_tree.specs.Paths.{same_path}

-- equality of two numbers, each greater by one
both_suc : (m n : ℕ) → eqb (suc m) (suc n) ≡ eqb m n
both_suc m n = grind (arith, nat_tests)

-- equally many zeros are equal
same_zeros : (k m : ℕ) → k ≡ m → pointwise eqb (replicate k 0) (replicate m 0) ≡ true
same_zeros k m e = ap (λ (n : ℕ). pointwise eqb (replicate k 0) (replicate n 0)) (sym e) ∙ nat_list_eq_equiv.refl (replicate k 0)

-- the equality of the heads and then of the rests
and_again : (p q r s : Bool) → (q && r) ≡ s → ((p && q) && r) ≡ (p && s)
and_again true q r s e = e
and_again false q r s e = refl

-- padded lists and their counts are equal exactly if the lists are
pub padded_equality : (k m : ℕ) (xs ys : List ℕ) → (length xs ≡ length ys → k ≡ m) → (pointwise eqb (xs ++ replicate k 0) (ys ++ replicate m 0) && eqb (length xs) (length ys)) ≡ same_path xs ys
padded_equality k m [] [] e = ap (λ (b : Bool). b && true) (same_zeros k m (e refl))
padded_equality k m [] (y ∷ ys) e = and_right (pointwise eqb (replicate k 0) (y ∷ ys ++ replicate m 0)) (eqb 0 (suc (length ys))) (ne_eqb 0 (suc (length ys)) (λ same. omega arith))
padded_equality k m (x ∷ xs) [] e = and_right (pointwise eqb (x ∷ xs ++ replicate k 0) (replicate m 0)) (eqb (suc (length xs)) 0) (ne_eqb (suc (length xs)) 0 (λ same. omega arith))
padded_equality k m (x ∷ xs) (y ∷ ys) e =
    let rest = padded_equality k m xs ys (λ same. e (ap suc same)) in
    and_again (eqb x y) (pointwise eqb (xs ++ replicate k 0) (ys ++ replicate m 0)) (eqb (suc (length xs)) (suc (length ys))) (same_path xs ys) (ap (λ (b : Bool). pointwise eqb (xs ++ replicate k 0) (ys ++ replicate m 0) && b) (both_suc (length xs) (length ys)) ∙ rest)
