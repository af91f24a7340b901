use Rattle.std.proofs.Common.{◌≡◌, ℕ, ◌+◌, ◌<◌, ◌≤◌, ◌/◌, inl, inr, true, false, List, arith}
use Rattle.std.specs.Prelude.{bit_or}
use Rattle.std.proofs.lemmas.Bool.{cases_eq, eqb-true}
use Rattle.mode_lanes.proofs.Unions.{or-zero_parts}
use Rattle.waits_for.specs.inner.Bits.{has_bit}
use Rattle.waits_for.proofs.NextBits.{common_word, common-not-in}
use Rattle.waits_for.proofs.bits.are_apart.Goals as goal

module _ (row other : List ℕ) (at : ℕ) where
  -- If four words have no common bit together, none of them has one.
  pub apart-four : bit_or (bit_or (common_word row other at) (common_word row other (at + 1))) (bit_or (common_word row other (at + 2)) (common_word row other (at + 3))) ≡ 0 → (j : ℕ) → at ≤ j / 64 → j / 64 < at + 4 → has_bit row j ≡ true → has_bit other j ≡ false
  apart-four z j ge lt =
      let both = or-zero_parts _ _ z in
      let first = or-zero_parts _ _ both.0 in
      let second = or-zero_parts _ _ both.1 in
      elim (cases_eq (j / 64) at) [
        | inl e ↦ common-not-in row other at first.0 j e
        | inr ne ↦ elim (cases_eq (j / 64) (at + 1)) [
          | inl e ↦ common-not-in row other (at + 1) first.1 j e
          | inr ne1 ↦ elim (cases_eq (j / 64) (at + 2)) [
            | inl e ↦ common-not-in row other (at + 2) second.0 j e
            | inr ne2 ↦ common-not-in row other (at + 3) second.1 j (omega (arith, ge, lt, ne, ne1, ne2))
          ]
        ]
      ]

pub returns : goal.returns
returns c e = apart-four c.args.row.now c.args.other.now c.args.at (eqb-true _ 0 e)
