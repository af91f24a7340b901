use Rattle.std.proofs.Common.{◌≡◌, ◌+◌, inl, inr, refl, sym, ◌∙◌, ap, arith, w64}
use Rattle.std.specs.Int.{trailing_zeros}
use Rattle.std.proofs.lemmas.Bool.{cases_eq}
use Rattle.std.proofs.lemmas.Nat.Bits.{bit_at-zero, bit_at-trailing_zeros, bit_at_clear_other}
use Rattle.waits_for.specs.Pairs.{pairs_of}
use Rattle.waits_for.proofs.BitRows.{without-lowest}
use Rattle.waits_for.proofs.search.is_waited_for_in_word.Goals as goal

pub loop-rest-init : goal.loop-rest-init
loop-rest-init c i lt one = inl one

pub loop-rest-smaller : goal.loop-rest-smaller
loop-rest-smaller c = without-lowest c.loop-rest.rest _ c.loop-rest.auto.rest-fits.fits c.loop-rest-test.true refl

pub loop-rest-preserved : goal.loop-rest-preserved
loop-rest-preserved c i lt one =
    let rest = c.loop-rest.rest in
    let k = trailing_zeros w64 rest in
    let low = bit_at-trailing_zeros w64 rest (omega (arith, c.loop-rest-test.true)) c.loop-rest.auto.rest-fits.fits in
    elim (c.loop-rest.invariant i lt one) [
      | inr none ↦ inr none
      | inl left ↦ elim (cases_eq i k) [
        | inl e ↦ inr (rw e (sym c.has_edge.ensures ∙ c.if-has_edge.false))
        | inr ne ↦ inl (bit_at_clear_other w64 rest k low.0 i lt ne ∙ left)
      ]
    ]

pub returns-then-has_edge-clause-some : goal.returns-then-has_edge-clause-some
returns-then-has_edge-clause-some c h = (c.args.first + trailing_zeros w64 c.loop-rest.rest, sym c.has_edge.ensures ∙ c.if-has_edge.true)

pub returns-clause-none : goal.returns-clause-none
returns-clause-none c h i lt one = elim (c.loop-rest.invariant i lt one) [
  | inr none ↦ none
  | inl left ↦ absurd (omega (arith, rw c.loop-rest-test.false at left, bit_at-zero i))
]
