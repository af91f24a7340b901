use Rattle.std.proofs.Common.{◌/◌, inl, inr, arith}
use Rattle.std.proofs.lemmas.Bool.{cases_lt}
use Rattle.waits_for.proofs.NextBits.{common-in, common-not-in, common-behind, common-not-behind}
use Rattle.waits_for.proofs.bits.next_common.Goals as goal

pub returns-then-rest-ne0-clause-some : goal.returns-then-rest-ne0-clause-some
returns-then-rest-ne0-clause-some c =
    let found = (common-behind c.args.row.now c.args.other.now c.args.from (c.type_inv.row (c.args.from / 64)).fits c.if-rest-ne0.true).0 in
    (omega arith, found.0, found.1)

pub returns-then-rest-ne0-clause-least : goal.returns-then-rest-ne0-clause-least
returns-then-rest-ne0-clause-least c = (common-behind c.args.row.now c.args.other.now c.args.from (c.type_inv.row (c.args.from / 64)).fits c.if-rest-ne0.true).1

pub loop-at-init : goal.loop-at-init
loop-at-init c = record {
  behind = omega arith;
  within = omega (arith, c.if-first-row.false);
  apart = λ j le lt. common-not-behind c.args.row.now c.args.other.now c.args.from c.if-rest-ne0.false j le (omega (arith, lt));
}

pub loop-at-preserved : goal.loop-at-preserved
loop-at-preserved c =
    let h = c.loop-at.invariant in
    record {
      behind = omega (arith, h.behind);
      within = c.loop-at-test.true;
      apart = λ j le lt. elim (cases_lt (j / 64) c.loop-at.at) [
        | inl before ↦ h.apart j le before
        | inr from ↦ c.are_apart.ensures c.if-are_apart.true j from lt
      ];
    }

pub loop-w-init : goal.loop-w-init
loop-w-init c = c.loop-at.invariant.apart

pub returns-then-both-ne0-clause-some : goal.returns-then-both-ne0-clause-some
returns-then-both-ne0-clause-some c =
    let found = (common-in c.args.row.now c.args.other.now c.loop-w.w (c.type_inv.row c.loop-w.w).fits c.if-both-ne0.true).0 in
    (omega (arith, c.loop-w.auto.w, c.loop-at.invariant.behind), found.0, found.1)

pub returns-then-both-ne0-clause-least : goal.returns-then-both-ne0-clause-least
returns-then-both-ne0-clause-least c j le lt = elim (cases_lt (j / 64) c.loop-w.w) [
  | inl before ↦ c.loop-w.invariant j le before
  | inr from ↦
      let n = common-in c.args.row.now c.args.other.now c.loop-w.w (c.type_inv.row c.loop-w.w).fits c.if-both-ne0.true in
      n.1 j from lt
]

pub loop-w-preserved : goal.loop-w-preserved
loop-w-preserved c j le lt = elim (cases_lt (j / 64) c.loop-w.w) [
  | inl before ↦ c.loop-w.invariant j le before
  | inr from ↦ common-not-in c.args.row.now c.args.other.now c.loop-w.w c.if-both-ne0.false j (omega (arith, lt, from))
]
