-- Rows of bits: a bit that is set, and rows where none is.
use Rattle.std.proofs.Common.{◌≡◌, ◌≢◌, ℕ, ◌*◌, ◌/◌, ◌%◌, ◌^◌, ◌<◌, ◌≤◌, inl, inr, false, ◌||◌, eqb, List, length, get_or, set, replicate, refl, sym, ◌∙◌, ap, arith, w64, get_or-set_other, get_or-set_same}
use Rattle.std.specs.Prelude.{bit_or}
use Rattle.std.specs.Int.{bit_at}
use Rattle.std.proofs.Math.Bool.{or-false}
use Rattle.std.proofs.lemmas.Bool.{cases_lt, cases_eq, eq-eqb, ne_eqb, or_right}
use Rattle.std.proofs.lemmas.List.{get_or_past, get_or-replicate, length-replicate}
use Rattle.std.proofs.lemmas.Nat.Bits.{bit_at-zero, bit_at_set_same, bit_at_set_other}
use Rattle.sequential.specs.Bits.{has_bit}

-- A bit past the words is not set.
pub no_bit-past : (words : List ℕ) (j : ℕ) → length words ≤ j / 64 → has_bit words j ≡ false
no_bit-past words j le = rw (get_or_past words (j / 64) 0 le) (rw (bit_at-zero (j % 64)) refl)

-- In words that are 0 no bit is set.
pub no_bit-zeros : (n j : ℕ) → has_bit (replicate n 0) j ≡ false
no_bit-zeros n j = elim (cases_lt (j / 64) n) [
  | inl lt ↦ rw (get_or-replicate {A = ℕ} n (j / 64) 0 0 lt) (rw (bit_at-zero (j % 64)) refl)
  | inr le ↦ no_bit-past (replicate n 0) j (omega (arith, le, length-replicate {A = ℕ} n 0))
]

-- Setting bit k sets bit k and changes no other.
pub bit-set : (words : List ℕ) (k : ℕ) → k / 64 < length words → (j : ℕ) → has_bit (set words (k / 64) (bit_or (get_or words (k / 64) 0) (1 * 2 ^ (k % 64) % 2 ^ 64))) j ≡ (has_bit words j || eqb j k)
bit-set words k lt j = elim (cases_eq (j / 64) (k / 64)) [
  | inr ne ↦ ap (λ (x : ℕ). eqb (bit_at x (j % 64)) 1) (get_or-set_other words (k / 64) (j / 64) more 0 ne) ∙ other (λ e. ne (ap (λ (x : ℕ). x / 64) e))
  | inl e ↦
      ap (λ (x : ℕ). eqb (bit_at (get_or (set words (k / 64) more) x 0) (j % 64)) 1) e ∙ (ap (λ (x : ℕ). eqb (bit_at x (j % 64)) 1) (get_or-set_same words (k / 64) more 0 lt)
      ∙ elim (cases_eq (j % 64) (k % 64)) [
        | inl h ↦ ap (λ (i : ℕ). eqb (bit_at more i) 1) h ∙ (ap (λ (x : ℕ). eqb x 1) (bit_at_set_same w64 (get_or words (k / 64) 0) (k % 64) small) ∙ sym (or_right (has_bit words j) (eqb j k) (eq-eqb j k (omega (arith, e, h)))))
        | inr ne ↦ ap (λ (x : ℕ). eqb x 1) (bit_at_set_other w64 (get_or words (k / 64) 0) (k % 64) small (j % 64) ne) ∙ (ap (λ (i : ℕ). eqb (bit_at (get_or words i 0) (j % 64)) 1) (sym e) ∙ other (λ same. ne (ap (λ (x : ℕ). x % 64) same)))
      ])
]
  where
    more : ℕ
    more = bit_or (get_or words (k / 64) 0) (1 * 2 ^ (k % 64) % 2 ^ 64)

    small : k % 64 < 64
    small = omega arith

    other : j ≢ k → has_bit words j ≡ (has_bit words j || eqb j k)
    other apart = sym (rw (ne_eqb j k apart) (or-false (has_bit words j)))
