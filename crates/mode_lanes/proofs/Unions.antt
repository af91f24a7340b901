-- The union of a list of numbers: the bitwise or of its items.
use Rattle.std.proofs.Common.{◌≡◌, ℕ, zero, suc, ◌+◌, ◌-◌, ◌<◌, ◌≤◌, ◌↔◌, ◌≢◌, Bool, true, not, ◌||◌, eqb, List, [], ◌∷◌, ◌++◌, length, get_or, take, drop, refl, sym, ◌∙◌, ap, arith}
use Rattle.std.specs.Prelude.{bit_and, bit_or, bit_xor, ◌==◌, SomeIndex}
use Rattle.std.specs.List.{list_any}
use Rattle.std.proofs.lemmas.Nat.{le_or_l, le_or_r}
use Rattle.std.proofs.lemmas.Nat.Bits.{bit_at_or, bit_at_and, same_from_bits}
use Rattle.std.proofs.lemmas.Bool.Decides.{nat_tests}
use lib.Lanes.{zip2, fold_l, chunk}
use Rattle.std.proofs.Math.Seq.{take-add, take-length}
use Rattle.std.proofs.lemmas.Grind.{take_at_read}
use Rattle.std.proofs.lemmas.List.{take-append-drop, length-drop}
use Rattle.std.proofs.lemmas.Simd.{length-chunk, length-zip2, get_or-zip2}
use lib.Bits.{or_zero_r, xor_assoc, xor_self, xor_zero_r, xor_zero_l}
use Rattle.mode_lanes.specs.Masks.{union_of, meets}

-- Bitwise or is associative.
pub or_assoc : (a b c : ℕ) → bit_or (bit_or a b) c ≡ bit_or a (bit_or b c)
or_assoc a b c = same_from_bits _ _ (λ i. omega (arith, bit_at_or (bit_or a b) c i, bit_at_or a b i, bit_at_or a (bit_or b c) i, bit_at_or b c i))

-- Bitwise and distributes over bitwise or.
pub and-or : (a b m : ℕ) → bit_and (bit_or a b) m ≡ bit_or (bit_and a m) (bit_and b m)
and-or a b m = same_from_bits _ _ (λ i. omega (arith, bit_at_and (bit_or a b) m i, bit_at_or a b i, bit_at_or (bit_and a m) (bit_and b m) i, bit_at_and a m i, bit_at_and b m i))

-- The or of two ors does not depend on how the four are paired.
pub or_swap : (a b c d : ℕ) → bit_or (bit_or a b) (bit_or c d) ≡ bit_or (bit_or a c) (bit_or b d)
or_swap a b c d = same_from_bits _ _ (λ i. omega (arith, bit_at_or (bit_or a b) (bit_or c d) i, bit_at_or a b i, bit_at_or c d i, bit_at_or (bit_or a c) (bit_or b d) i, bit_at_or a c i, bit_at_or b d i))

-- Folding or over a list gives the or of the start and the union of the list.
pub fold-or : (a : ℕ) (xs : List ℕ) → fold_l bit_or a xs ≡ bit_or a (union_of xs)
fold-or a [] = sym (or_zero_r a)
fold-or a (x ∷ xs) = fold-or (bit_or a x) xs ∙ or_assoc a x (union_of xs)

-- The union of two lists is the or of their unions.
pub union-append : (xs ys : List ℕ) → union_of (xs ++ ys) ≡ bit_or (union_of xs) (union_of ys)
union-append [] ys = refl
union-append (x ∷ xs) ys = ap (bit_or x) (union-append xs ys) ∙ sym (or_assoc x (union_of xs) (union_of ys))

-- The union of the ors of two lists, lane by lane, is the or of their unions.
pub union-zip2 : (xs ys : List ℕ) → length xs ≡ length ys → union_of (zip2 bit_or xs ys) ≡ bit_or (union_of xs) (union_of ys)
union-zip2 [] [] e = refl
union-zip2 [] (y ∷ ys) e = absurd (omega (arith, e))
union-zip2 (x ∷ xs) [] e = absurd (omega (arith, e))
union-zip2 (x ∷ xs) (y ∷ ys) e = ap (bit_or (bit_or x y)) (union-zip2 xs ys (omega (arith, e))) ∙ or_swap x y (union_of xs) (union_of ys)

-- If an or is 0, both parts are.
pub or-zero_parts : (a b : ℕ) → bit_or a b ≡ 0 → (a ≡ 0) × (b ≡ 0)
or-zero_parts a b e = (omega (arith, e, le_or_l a b), omega (arith, e, le_or_r a b))

-- The or of two zeros is 0.
pub or-zero : (a b : ℕ) → a ≡ 0 → b ≡ 0 → bit_or a b ≡ 0
or-zero a b e h = rw e (rw h refl)

-- If the union is 0, each item is.
pub zero-from_union : (xs : List ℕ) → union_of xs ≡ 0 → (k : ℕ) → get_or xs k 0 ≡ 0
zero-from_union [] e k = refl
zero-from_union (x ∷ xs) e zero = (or-zero_parts x (union_of xs) e).0
zero-from_union (x ∷ xs) e (suc k) = zero-from_union xs (or-zero_parts x (union_of xs) e).1 k

-- If each item is 0, the union is.
pub union-all_zero : (xs : List ℕ) → ((k : ℕ) → k < length xs → get_or xs k 0 ≡ 0) → union_of xs ≡ 0
union-all_zero [] h = refl
union-all_zero (x ∷ xs) h = or-zero x (union_of xs) (h 0 (omega arith)) (union-all_zero xs (λ k lt. h (suc k) (omega (arith, lt))))

-- If the union is not 0, some item is not.
pub some-from_union : (xs : List ℕ) → union_of xs ≢ 0 → SomeIndex xs (λ k. get_or xs k 0 ≢ 0)
some-from_union [] ne = absurd (ne refl)
some-from_union (zero ∷ xs) ne = let r = some-from_union xs ne in (suc r.0, omega (arith, r.1), r.2)
some-from_union (suc x ∷ xs) ne = (0, omega arith, λ e. omega (arith, e))

-- A number that passes the test for not 0 is not 0.
pub ne_from_not : (n : ℕ) → not (eqb n 0) ≡ true → n ≢ 0
ne_from_not n t e = absurd (grind (arith, nat_tests, t, e))

-- A number that is not 0 passes the test for not 0.
pub not_from_ne : (n : ℕ) → n ≢ 0 → not (eqb n 0) ≡ true
not_from_ne n ne = grind (arith, nat_tests, ne)

-- An or has a bit of the mask exactly if one of its parts has.
meets-or : (a b m : ℕ) → not (bit_and (bit_or a b) m == 0) ≡ (meets m a || not (bit_and b m == 0))
meets-or a b m = rw (and-or a b m) (tested (bit_and a m) (bit_and b m))
  where
    tested : (x y : ℕ) → not (eqb (bit_or x y) 0) ≡ (not (eqb x 0) || not (eqb y 0))
    tested x y = grind (arith, nat_tests, or-zero_parts x y, or-zero x y)

-- The union has a bit of the mask exactly if some item has.
pub meets-union : (m : ℕ) (xs : List ℕ) → not (bit_and (union_of xs) m == 0) ≡ list_any (meets m) xs
meets-union m [] = refl
meets-union m (x ∷ xs) = meets-or x (union_of xs) m ∙ ap (λ (b : Bool). meets m x || b) (meets-union m xs)

-- Two numbers whose exclusive or is 0 are equal.
pub same-from_xor : (a b : ℕ) → bit_xor a b ≡ 0 → a ≡ b
same-from_xor a b e = sym (xor_zero_r a) ∙ ap (bit_xor a) (sym (xor_self b)) ∙ sym (xor_assoc a b b) ∙ ap (λ (x : ℕ). bit_xor x b) e ∙ xor_zero_l b

-- After one more chunk, the union of the lanes is the union of the items so far.
pub union-chunk : (xs : List ℕ) (at w : ℕ) (all : List ℕ) → length all ≡ w → at + w ≤ length xs → union_of all ≡ union_of (take at xs) → union_of (zip2 bit_or all (chunk at w xs)) ≡ union_of (take (at + w) xs)
union-chunk xs at w all long le e =
    union-zip2 all (chunk at w xs) (long ∙ sym (length-chunk at w xs le)) ∙ ap (λ (u : ℕ). bit_or u (union_of (chunk at w xs))) e
    ∙ sym (union-append (take at xs) (chunk at w xs)) ∙ ap union_of (sym (take-add at w xs))

-- Taking all that is left of a list takes the list after the items dropped.
pub whole_rest : (xs : List ℕ) (at : ℕ) → take (length xs - at) (drop at xs) ≡ drop at xs
whole_rest xs at = ap (λ (n : ℕ). take n (drop at xs)) (sym (length-drop at xs)) ∙ take-length (drop at xs)

-- The union of the first items and of the tail is the union of the list.
pub union-tail : (xs : List ℕ) (at : ℕ) → bit_or (union_of (take at xs)) (union_of (drop at xs)) ≡ union_of xs
union-tail xs at = sym (union-append (take at xs) (drop at xs)) ∙ ap union_of (take-append-drop at xs)

-- One more item adds its bits to the union of the items before it.
pub union-item : (xs : List ℕ) (k : ℕ) → k < length xs → union_of (take (k + 1) xs) ≡ bit_or (union_of (take k xs)) (get_or xs k 0)
union-item xs k lt = ap union_of (take_at_read xs k 0 lt).1 ∙ union-append (take k xs) (get_or xs k 0 ∷ []) ∙ ap (bit_or (union_of (take k xs))) (or_zero_r (get_or xs k 0))

-- Combining the first n items of two lists gives the first n of the combined list.
pub zip2-take : (f : ℕ → ℕ → ℕ) (n : ℕ) (xs ys : List ℕ) → zip2 f (take n xs) (take n ys) ≡ take n (zip2 f xs ys)
zip2-take f zero xs ys = refl
zip2-take f (suc n) [] ys = refl
zip2-take f (suc n) (x ∷ xs) [] = refl
zip2-take f (suc n) (x ∷ xs) (y ∷ ys) = ap (λ (l : List ℕ). f x y ∷ l) (zip2-take f n xs ys)

-- Combining a list with an empty list gives an empty list.
zip2-none : (f : ℕ → ℕ → ℕ) (xs : List ℕ) → zip2 f xs [] ≡ []
zip2-none f [] = refl
zip2-none f (x ∷ xs) = refl

-- Combining two lists after n items gives the combined list after n items.
pub zip2-drop : (f : ℕ → ℕ → ℕ) (n : ℕ) (xs ys : List ℕ) → zip2 f (drop n xs) (drop n ys) ≡ drop n (zip2 f xs ys)
zip2-drop f zero xs ys = refl
zip2-drop f (suc n) [] ys = refl
zip2-drop f (suc n) (x ∷ xs) [] = zip2-none f (drop n xs)
zip2-drop f (suc n) (x ∷ xs) (y ∷ ys) = zip2-drop f n xs ys

-- Combining two chunks gives the chunk of the combined list.
pub zip2-chunk : (f : ℕ → ℕ → ℕ) (at w : ℕ) (xs ys : List ℕ) → zip2 f (chunk at w xs) (chunk at w ys) ≡ chunk at w (zip2 f xs ys)
zip2-chunk f at w xs ys = zip2-take f w (drop at xs) (drop at ys) ∙ ap (take w) (zip2-drop f at xs ys)

-- The bits that two rows have in common, word by word.
module _ (xs ys : List ℕ) (same : length xs ≡ length ys) where
  -- The combined list has the length of the first.
  long : length (zip2 bit_and xs ys) ≡ length xs
  long = length-zip2 bit_and xs ys same

  -- Item k of the combined list is the and of the two items k.
  item : (k : ℕ) → k < length xs → get_or (zip2 bit_and xs ys) k 0 ≡ bit_and (get_or xs k 0) (get_or ys k 0)
  item k lt = get_or-zip2 bit_and xs ys k 0 0 0 lt (omega (arith, same, lt))

  -- After one more chunk, the union of the lanes is the union of the common bits so far.
  pub common-chunk : (at w : ℕ) (all : List ℕ) → length all ≡ w → at + w ≤ length xs → union_of all ≡ union_of (take at (zip2 bit_and xs ys)) → union_of (zip2 bit_or all (zip2 bit_and (chunk at w xs) (chunk at w ys))) ≡ union_of (take (at + w) (zip2 bit_and xs ys))
  common-chunk at w all full le e = ap (λ (l : List ℕ). union_of (zip2 bit_or all l)) (zip2-chunk bit_and at w xs ys) ∙ union-chunk (zip2 bit_and xs ys) at w all full (omega (arith, long, le)) e

  -- One more word adds its common bits to the union of the common bits before it.
  pub common-item : (k : ℕ) → k < length xs → union_of (take (k + 1) (zip2 bit_and xs ys)) ≡ bit_or (union_of (take k (zip2 bit_and xs ys))) (bit_and (get_or xs k 0) (get_or ys k 0))
  common-item k lt = union-item (zip2 bit_and xs ys) k (omega (arith, long, lt)) ∙ ap (bit_or (union_of (take k (zip2 bit_and xs ys)))) (item k lt)

  -- The common bits of all words are the union of the combined list.
  pub common-whole : union_of (take (length xs) (zip2 bit_and xs ys)) ≡ union_of (zip2 bit_and xs ys)
  common-whole = ap union_of (ap (λ (n : ℕ). take n (zip2 bit_and xs ys)) (sym long) ∙ take-length (zip2 bit_and xs ys))

  -- The union of the common bits is not 0 exactly if some word has a common bit.
  pub common-some : (u : ℕ) → u ≡ union_of (zip2 bit_and xs ys) → (not (eqb u 0) ≡ true) ↔ SomeIndex xs (λ k. bit_and (get_or xs k 0) (get_or ys k 0) ≢ 0)
  common-some u e = (there, back)
    where
      there : not (eqb u 0) ≡ true → SomeIndex xs (λ k. bit_and (get_or xs k 0) (get_or ys k 0) ≢ 0)
      there t =
          let ne : union_of (zip2 bit_and xs ys) ≢ 0 = λ z. ne_from_not u t (e ∙ z) in
          let r = some-from_union (zip2 bit_and xs ys) ne in
          let lt : r.0 < length xs = omega (arith, r.1, long) in
          (r.0, lt, λ z. r.2 (item r.0 lt ∙ z))

      back : SomeIndex xs (λ k. bit_and (get_or xs k 0) (get_or ys k 0) ≢ 0) → not (eqb u 0) ≡ true
      back s = not_from_ne u (λ z. s.2 (sym (item s.0 s.1) ∙ zero-from_union (zip2 bit_and xs ys) (sym e ∙ z) s.0))
