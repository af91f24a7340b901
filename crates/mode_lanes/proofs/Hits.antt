-- The bytes of a chunk that have a bit of a mask.
use Rattle.std.proofs.Common.{inl, inr, ◌≡◌, ℕ, ◌+◌, ◌<◌, ◌≤◌, ◌^◌, ◌%◌, ◌-◌, Bool, true, false, not, cond, eqb, map, List, length, get_or, replicate, refl, sym, ◌∙◌, ap, arith, w8}
use Rattle.std.specs.Prelude.{bit_and, Some, None, position}
use Rattle.std.proofs.lemmas.Bool.{lt-ltb, le-ltb, cases_lt}
use Rattle.std.proofs.lemmas.List.Sums.{position_or_len_is}
use Rattle.std.proofs.lemmas.Simd.{length-zip2, length-sel_l, zip2_splat, map-map, bitmask_splat, tops_compared, get_or-zip2, get_or-sel_l, get_or-replicate, length-replicate, get_or-put_chunk_below, get_or-put_chunk_at}
use lib.Lanes.{zip2, mask_l, sel_l, top, put_chunk}
use Rattle.mode_lanes.specs.Masks.{meets}

-- An item that passes, with no item before it that passes, is at the first position.
pub position-found : (p : ℕ → Bool) (xs : List ℕ) (i : ℕ) → i < length xs → ((k : ℕ) → k < i → p (get_or xs k 0) ≡ false) → p (get_or xs i 0) ≡ true → position p xs ≡ Some i
position-found p xs i lt before at =
    let e = position_or_len_is p xs i 0 (omega (arith, lt)) before (λ _. at) in
    rw e (rw (lt-ltb i (length xs) lt) refl)

-- If no item passes, there is no first position.
pub position-none : (p : ℕ → Bool) (xs : List ℕ) → ((k : ℕ) → k < length xs → p (get_or xs k 0) ≡ false) → position p xs ≡ None
position-none p xs before =
    let e = position_or_len_is p xs (length xs) 0 (omega arith) before (λ lt. absurd (omega (arith, lt))) in
    rw e (rw (le-ltb (length xs) (length xs) (omega arith)) refl)

-- The bitmask of a compared chunk has a bit for each byte that has a bit of the mask.
pub hits : (mask : ℕ) (n : ℕ) (xs : List ℕ) → length xs ≡ n → n ≤ 64 → mask_l (map (top 7) (zip2 (λ a b. cond (not (eqb a b)) 255 0) (zip2 bit_and xs (replicate n mask)) (replicate n 0))) % 2 ^ 64 ≡ mask_l (map (meets mask) xs)
hits mask n xs long le =
    bitmask_splat w8 (λ a b. not (eqb a b)) (zip2 bit_and xs (replicate n mask)) n 0 (length-zip2 bit_and xs (replicate n mask) (long ∙ sym (length-replicate {A = ℕ} n mask)) ∙ long) le
    ∙ ap (λ (l : List ℕ). mask_l (map (λ x. not (eqb x 0)) l)) (zip2_splat bit_and xs n mask long) ∙ ap mask_l (map-map (λ x. not (eqb x 0)) (λ x. bit_and x mask) xs)

-- The chunk of marks: 1 in each lane whose byte has a bit of the mask, and 0 in the others.
module _ (mask n : ℕ) (xs : List ℕ) (full : length xs ≡ n) where
  -- The masked chunk has n lanes.
  long : length (zip2 bit_and xs (replicate n mask)) ≡ n
  long = length-zip2 bit_and xs (replicate n mask) (full ∙ sym (length-replicate {A = ℕ} n mask)) ∙ full

  -- The compared chunk has n lanes.
  tests : length (zip2 (λ a b. not (eqb a b)) (zip2 bit_and xs (replicate n mask)) (replicate n 0)) ≡ n
  tests = length-zip2 (λ a b. not (eqb a b)) (zip2 bit_and xs (replicate n mask)) (replicate n 0) (long ∙ sym (length-replicate {A = ℕ} n 0)) ∙ long

  -- Lane j of the comparison is whether byte j has a bit of the mask.
  test : (j : ℕ) → j < n → get_or (zip2 (λ a b. not (eqb a b)) (zip2 bit_and xs (replicate n mask)) (replicate n 0)) j false ≡ meets mask (get_or xs j 0)
  test j lt =
      get_or-zip2 (λ a b. not (eqb a b)) (zip2 bit_and xs (replicate n mask)) (replicate n 0) j 0 0 false (omega (arith, long, lt)) (omega (arith, length-replicate {A = ℕ} n 0, lt))
      ∙ rw (get_or-replicate {A = ℕ} n j 0 0 lt) (rw (get_or-zip2 bit_and xs (replicate n mask) j 0 0 0 (omega (arith, full, lt)) (omega (arith, length-replicate {A = ℕ} n mask, lt))) (rw (get_or-replicate n j mask 0 lt) refl))

  -- Lane j of the selected chunk is 1 if byte j has a bit of the mask, and 0 if not.
  pub marked : (j : ℕ) → j < n → ◌≡◌ {A = ℕ} (get_or (sel_l (map (top 7) (zip2 (λ a b. cond (not (eqb a b)) 255 0) (zip2 bit_and xs (replicate n mask)) (replicate n 0))) (replicate n 1) (replicate n 0)) j 0) (cond (meets mask (get_or xs j 0)) 1 0)
  marked j lt =
      ap (λ (ms : List Bool). get_or (sel_l ms (replicate n 1) (replicate n 0)) j 0) (tops_compared w8 (λ a b. not (eqb a b)) (zip2 bit_and xs (replicate n mask)) (replicate n 0))
      ∙ get_or-sel_l (zip2 (λ a b. not (eqb a b)) (zip2 bit_and xs (replicate n mask)) (replicate n 0)) (replicate n 1) (replicate n 0) j 0 (omega (arith, tests, lt)) (omega (arith, length-replicate {A = ℕ} n 1, lt)) (omega (arith, length-replicate {A = ℕ} n 0, lt))
      ∙ rw (get_or-replicate {A = ℕ} n j 1 0 lt) (rw (get_or-replicate {A = ℕ} n j 0 0 lt) (ap (λ (b : Bool). cond b 1 0) (test j lt)))

  -- The selected chunk has n lanes.
  pub length-marks : length {A = ℕ} (sel_l (map (top 7) (zip2 (λ a b. cond (not (eqb a b)) 255 0) (zip2 bit_and xs (replicate n mask)) (replicate n 0))) (replicate n 1) (replicate n 0)) ≡ n
  length-marks = ap (λ (ms : List Bool). length {A = ℕ} (sel_l ms (replicate n 1) (replicate n 0))) (tops_compared w8 (λ a b. not (eqb a b)) (zip2 bit_and xs (replicate n mask)) (replicate n 0)) ∙ length-sel_l _ (replicate n 1) (replicate n 0) (tests ∙ sym (length-replicate {A = ℕ} n 1)) (tests ∙ sym (length-replicate {A = ℕ} n 0)) ∙ tests

-- After one more chunk of marks, the marks are right up to the end of that chunk.
pub marks-chunk : (p : ℕ → Bool) (xs marks vs : List ℕ) (at w : ℕ) → length vs ≡ w → at + w ≤ length marks → ((k : ℕ) → k < at → ◌≡◌ {A = ℕ} (get_or marks k 0) (cond (p (get_or xs k 0)) 1 0)) → ((j : ℕ) → j < w → ◌≡◌ {A = ℕ} (get_or vs j 0) (cond (p (get_or xs (at + j) 0)) 1 0)) → (k : ℕ) → k < at + w → ◌≡◌ {A = ℕ} (get_or (put_chunk at marks vs) k 0) (cond (p (get_or xs k 0)) 1 0)
marks-chunk p xs marks vs at w long le before each k below = elim (cases_lt k at) [
  | inl less ↦ get_or-put_chunk_below at marks vs k 0 less ∙ before k less
  | inr not_less ↦
      let e : at + (k - at) ≡ k = omega (arith, not_less) in
      let small : k - at < w = omega (arith, below, not_less) in
      rw e at (get_or-put_chunk_at at marks vs (k - at) 0 (omega (arith, long, small)) (omega (arith, long, le)) ∙ each (k - at) small)
]
