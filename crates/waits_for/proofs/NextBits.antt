-- The next bit of a word, and of a row, at or behind a place.
use Rattle.std.proofs.Common.{◌≡◌, ◌≢◌, ℕ, ◌+◌, ◌-◌, ◌*◌, ◌/◌, ◌%◌, ◌^◌, ◌<◌, ◌≤◌, inl, inr, true, false, eqb, List, get_or, sym, ◌∙◌, ap, arith, w64}
use Rattle.std.specs.Prelude.{bit_and, bit_xor}
use Rattle.std.specs.Int.{bit_at, trailing_zeros}
use Rattle.std.proofs.lemmas.Bool.{cases_lt, eq-eqb, eqb-true}
use Rattle.std.proofs.lemmas.Nat.{and_le_l, shr-shr, shr_le, xor_lt}
use Rattle.std.proofs.lemmas.Nat.Bits.{bit_at-lt, bit_at-zero, bit_at_and, bit_at_xor, bit_at-trailing_zeros, bit_at_above}
use Rattle.waits_for.specs.inner.Bits.{has_bit}

-- Bit i of a word without its k lowest bits is bit k + i of the word.
shifted : (x k i : ℕ) → bit_at (x / 2 ^ k) i ≡ bit_at x (k + i)
shifted x k i = ap (λ (n : ℕ). n % 2) (shr-shr x k i)

-- If a word without its k lowest bits is 0, it has no bit from place k on.
no_bit-behind : (x k : ℕ) → x / 2 ^ k ≡ 0 → (i : ℕ) → k ≤ i → bit_at x i ≡ 0
no_bit-behind x k z i le =
    let e : i ≡ k + (i - k) = omega arith in
    ap (bit_at x) e ∙ (sym (shifted x k (i - k)) ∙ (ap (λ (n : ℕ). bit_at n (i - k)) z ∙ bit_at-zero (i - k)))

-- Otherwise the lowest bit of what is left is the lowest of the word from place k on.
bit-behind : (x k : ℕ) → x < 2 ^ 64 → x / 2 ^ k ≢ 0 → let p = k + trailing_zeros w64 (x / 2 ^ k) in (p < 64) × (bit_at x p ≡ 1) × ((i : ℕ) → k ≤ i → i < p → bit_at x i ≡ 0)
bit-behind x k fits ne = (within, one, λ i le lt. let e : i ≡ k + (i - k) = omega arith in ap (bit_at x) e ∙ (sym (shifted x k (i - k)) ∙ found.2 (i - k) (omega (arith, le, lt))))
  where
    rest : ℕ
    rest = x / 2 ^ k

    found : (trailing_zeros w64 rest < 64) × (bit_at rest (trailing_zeros w64 rest) ≡ 1) × ((i : ℕ) → i < trailing_zeros w64 rest → bit_at rest i ≡ 0)
    found = bit_at-trailing_zeros w64 rest (omega (arith, ne)) (omega (arith, shr_le x k, fits))

    one : bit_at x (k + trailing_zeros w64 rest) ≡ 1
    one = sym (shifted x k (trailing_zeros w64 rest)) ∙ found.1

    within : k + trailing_zeros w64 rest < 64
    within = elim (cases_lt (k + trailing_zeros w64 rest) 64) [
      | inl lt ↦ lt
      | inr le ↦ absurd (omega (arith, one, bit_at_above x 64 (k + trailing_zeros w64 rest) fits le))
    ]

-- The next bit from bit `at` of a row on, if its word is x, is in this word; no bit before it is set.
next-in : (x at : ℕ) → x < 2 ^ 64 → x / 2 ^ (at % 64) ≢ 0 → let p = at + trailing_zeros w64 (x / 2 ^ (at % 64)) in (p / 64 ≡ at / 64) × (bit_at x (p % 64) ≡ 1) × ((j : ℕ) → at ≤ j → j < p → (j / 64 ≡ at / 64) × (bit_at x (j % 64) ≡ 0))
next-in x at fits ne =
    let b = bit-behind x (at % 64) fits ne in
    let n = trailing_zeros w64 (x / 2 ^ (at % 64)) in
    let in_word : at % 64 + n < 64 = b.0 in
    let r : (at + n) % 64 ≡ at % 64 + n = omega (arith, in_word) in (
      omega (arith, in_word),
      rw r b.1,
      λ j le lt. (omega (arith, in_word, le, lt), b.2 (j % 64) (omega (arith, in_word, le, lt)) (omega (arith, in_word, le, lt))),
    )

-- If nothing is left of the word of bit `at`, no bit from `at` on is set in this word.
none-in : (x at : ℕ) → x / 2 ^ (at % 64) ≡ 0 → (j : ℕ) → at ≤ j → j < at / 64 * 64 + 64 → (j / 64 ≡ at / 64) × (bit_at x (j % 64) ≡ 0)
none-in x at z j le lt = (omega (arith, le, lt), no_bit-behind x (at % 64) z (j % 64) (omega (arith, le, lt)))

-- A word without the bits of another one.
abbrev without : ℕ → ℕ → ℕ
without a o = bit_xor a (bit_and a o)

-- Its bits are those of the word that are not in the other one.
without-one : (a o i : ℕ) → bit_at (without a o) i ≡ 1 → (bit_at a i ≡ 1) × (bit_at o i ≡ 0)
without-one a o i is =
    let odd : (bit_at a i + bit_at (bit_and a o) i) % 2 ≡ 1 = sym (bit_at_xor a (bit_and a o) i) ∙ is in
    (omega (arith, odd, bit_at_and a o i, bit_at-lt a i, bit_at-lt o i), omega (arith, odd, bit_at_and a o i, bit_at-lt a i, bit_at-lt o i))

without-none : (a o i : ℕ) → bit_at (without a o) i ≡ 0 → bit_at a i ≡ 1 → bit_at o i ≡ 1
without-none a o i z one =
    let even : (bit_at a i + bit_at (bit_and a o) i) % 2 ≡ 0 = sym (bit_at_xor a (bit_and a o) i) ∙ z in
    omega (arith, even, one, bit_at_and a o i, bit_at-lt o i)

without-lt : (a o : ℕ) → a < 2 ^ 64 → without a o < 2 ^ 64
without-lt a o fits = xor_lt 64 a (bit_and a o) fits (omega (arith, and_le_l a o, fits))

module _ (row known : List ℕ) (at : ℕ) where
  -- The bits of the word of bit `at` that are in the row, and not in the second one.
  abbrev pub new_word : ℕ
  new_word = without (get_or row (at / 64) 0) (get_or known (at / 64) 0)

  -- A bit of the row in this word is known if it is no new one.
  known-at : (j : ℕ) → (j / 64 ≡ at / 64) × (bit_at new_word (j % 64) ≡ 0) → has_bit row j ≡ true → has_bit known j ≡ true
  known-at j h here = rw h.0 (eq-eqb _ 1 (without-none (get_or row (at / 64) 0) (get_or known (at / 64) 0) (j % 64) h.1 (eqb-true _ 1 (rw h.0 at here))))

  -- The next new bit is in the word of bit `at`, if there is one.
  pub new-found : get_or row (at / 64) 0 < 2 ^ 64 → new_word / 2 ^ (at % 64) ≢ 0 → let p = at + trailing_zeros w64 (new_word / 2 ^ (at % 64)) in ((has_bit row p ≡ true) × (has_bit known p ≡ false)) × ((j : ℕ) → at ≤ j → j < p → has_bit row j ≡ true → has_bit known j ≡ true)
  new-found fits ne =
      let n = next-in new_word at (without-lt (get_or row (at / 64) 0) (get_or known (at / 64) 0) fits) ne in
      let both = without-one (get_or row (at / 64) 0) (get_or known (at / 64) 0) _ n.1 in (
        (rw n.0 (eq-eqb _ 1 both.0), rw n.0 (ap (λ (b : ℕ). eqb b 1) both.1)),
        λ j le lt. known-at j (n.2 j le lt),
      )

  -- Otherwise each bit of the row from `at` on in this word is known.
  pub none-new : new_word / 2 ^ (at % 64) ≡ 0 → (j : ℕ) → at ≤ j → j < at / 64 * 64 + 64 → has_bit row j ≡ true → has_bit known j ≡ true
  none-new z j le lt = known-at j (none-in new_word at z j le lt)

module _ (row other : List ℕ) (w : ℕ) where
  -- The bits that two rows have in common in word w.
  abbrev pub common_word : ℕ
  common_word = bit_and (get_or row w 0) (get_or other w 0)

  common-both : (i : ℕ) → bit_at common_word i ≡ 1 → (bit_at (get_or row w 0) i ≡ 1) × (bit_at (get_or other w 0) i ≡ 1)
  common-both i is =
      let e = bit_at_and (get_or row w 0) (get_or other w 0) i in
      let a = bit_at-lt (get_or row w 0) i in
      let b = bit_at-lt (get_or other w 0) i in
      (omega (arith, e, a, b, is), omega (arith, e, a, b, is))

  common-none : (i : ℕ) → bit_at common_word i ≡ 0 → bit_at (get_or row w 0) i ≡ 1 → bit_at (get_or other w 0) i ≡ 0
  common-none i z one =
      let e = bit_at_and (get_or row w 0) (get_or other w 0) i in
      omega (arith, e, z, one, bit_at-lt (get_or other w 0) i)

  -- A bit of the word that is common is set in both rows.
  common-at : (j : ℕ) → j / 64 ≡ w → bit_at common_word (j % 64) ≡ 1 → (has_bit row j ≡ true) × (has_bit other j ≡ true)
  common-at j e is = let b = common-both (j % 64) is in (rw e (eq-eqb _ 1 b.0), rw e (eq-eqb _ 1 b.1))

  -- A bit of the word that is set in the first row and isn't common is not set in the second.
  apart-at : (j : ℕ) → j / 64 ≡ w → bit_at common_word (j % 64) ≡ 0 → has_bit row j ≡ true → has_bit other j ≡ false
  apart-at j e z here = rw e (ap (λ (b : ℕ). eqb b 1) (common-none (j % 64) z (eqb-true _ 1 (rw e at here))))

  -- If the word has common bits, the lowest of them is the next one of the word.
  pub common-in : get_or row w 0 < 2 ^ 64 → common_word ≢ 0 → let p = w * 64 + trailing_zeros w64 common_word in ((has_bit row p ≡ true) × (has_bit other p ≡ true)) × ((j : ℕ) → w ≤ j / 64 → j < p → has_bit row j ≡ true → has_bit other j ≡ false)
  common-in fits ne =
      let n = bit_at-trailing_zeros w64 common_word (omega (arith, ne)) (omega (arith, and_le_l (get_or row w 0) (get_or other w 0), fits)) in
      let small = n.0 in
      let q : (w * 64 + trailing_zeros w64 common_word) / 64 ≡ w = omega (arith, small) in
      let r : (w * 64 + trailing_zeros w64 common_word) % 64 ≡ trailing_zeros w64 common_word = omega (arith, small) in (
        common-at _ q (rw r n.1),
        λ j le lt. let e : j / 64 ≡ w = omega (arith, le, lt, small) in apart-at j e (n.2 (j % 64) (omega (arith, e, lt, small))),
      )

  -- If the word has none, no bit of the first row in it is set in the second.
  pub common-not-in : common_word ≡ 0 → (j : ℕ) → j / 64 ≡ w → has_bit row j ≡ true → has_bit other j ≡ false
  common-not-in z j e = apart-at j e (ap (λ (x : ℕ). bit_at x (j % 64)) z ∙ bit_at-zero (j % 64))

module _ (row other : List ℕ) (at : ℕ) where
  -- The next common bit from bit `at` on is in its word, if the word has one there.
  pub common-behind : get_or row (at / 64) 0 < 2 ^ 64 → common_word row other (at / 64) / 2 ^ (at % 64) ≢ 0 → let p = at + trailing_zeros w64 (common_word row other (at / 64) / 2 ^ (at % 64)) in ((has_bit row p ≡ true) × (has_bit other p ≡ true)) × ((j : ℕ) → at ≤ j → j < p → has_bit row j ≡ true → has_bit other j ≡ false)
  common-behind fits ne =
      let n = next-in (common_word row other (at / 64)) at (omega (arith, and_le_l (get_or row (at / 64) 0) (get_or other (at / 64) 0), fits)) ne in (
        common-at row other (at / 64) _ n.0 n.1,
        λ j le lt. let h = n.2 j le lt in apart-at row other (at / 64) j h.0 h.1,
      )

  -- Otherwise no bit of the first row from `at` on in this word is set in the second.
  pub common-not-behind : common_word row other (at / 64) / 2 ^ (at % 64) ≡ 0 → (j : ℕ) → at ≤ j → j < at / 64 * 64 + 64 → has_bit row j ≡ true → has_bit other j ≡ false
  common-not-behind z j le lt = let h = none-in (common_word row other (at / 64)) at z j le lt in apart-at row other (at / 64) j h.0 h.1
