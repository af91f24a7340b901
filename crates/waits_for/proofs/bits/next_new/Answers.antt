use Rattle.std.proofs.Common.{◌≡◌, ◌+◌, ◌/◌, ◌%◌, ◌^◌, inl, inr, w64, arith}
use Rattle.std.specs.Int.{trailing_zeros}
use Rattle.std.proofs.lemmas.Bool.{cases_lt}
use Rattle.waits_for.proofs.NextBits.{new_word, new-found, none-new}
use Rattle.waits_for.proofs.bits.next_new.Goals as goal

pub returns-then-rest-ne0-clause-new : goal.returns-then-rest-ne0-clause-new
returns-then-rest-ne0-clause-new c lt =
    let at = c.loop-at.at in
    let e : c.min.result ≡ at + trailing_zeros w64 (new_word c.args.row.now c.args.known.now at / 2 ^ (at % 64)) = omega arith in
    rw e (new-found c.args.row.now c.args.known.now at (c.type_inv.row (at / 64)).fits c.if-rest-ne0.true).0

pub returns-then-rest-ne0-clause-known : goal.returns-then-rest-ne0-clause-known
returns-then-rest-ne0-clause-known c j le lt here = elim (cases_lt j c.loop-at.at) [
  | inl before ↦ c.loop-at.invariant.known j le before here
  | inr from ↦ (new-found c.args.row.now c.args.known.now c.loop-at.at (c.type_inv.row (c.loop-at.at / 64)).fits c.if-rest-ne0.true).1 j from (omega arith) here
]

pub loop-at-preserved : goal.loop-at-preserved
loop-at-preserved c = record {
  behind = omega arith;
  known = λ j le lt here. elim (cases_lt j c.loop-at.at) [
    | inl before ↦ c.loop-at.invariant.known j le before here
    | inr from ↦ none-new c.args.row.now c.args.known.now c.loop-at.at c.if-rest-ne0.false j from lt here
  ];
}
