use Rattle.std.proofs.Common.{◌/◌, inl, inr, length, sym, ◌∙◌, arith}
use Rattle.std.proofs.lemmas.Bool.{cases_lt, cases_eq, false≢true}
use Rattle.sequential.proofs.BitRows.{no_bit-past}
use Rattle.waits_for.proofs.BitRows.{bit-new, no_bit-new}
use Rattle.waits_for.proofs.bits.first_new.Goals as goal

pub returns-then-new-ne0-clause-some : goal.returns-then-new-ne0-clause-some
returns-then-new-ne0-clause-some c = bit-new c.args.row.now c.args.among.now c.args.known.now c.loop-w.w (c.type_inv.among c.loop-w.w).fits c.if-new-ne0.true

pub loop-w-preserved : goal.loop-w-preserved
loop-w-preserved c = λ j lt mine theirs. elim (cases_eq (j / 64) c.loop-w.w) [
  | inl e ↦ no_bit-new c.args.row.now c.args.among.now c.args.known.now c.loop-w.w j e c.if-new-ne0.false mine theirs
  | inr ne ↦ c.loop-w.invariant j (omega (arith, lt, ne)) mine theirs
]

pub returns-clause-none : goal.returns-clause-none
returns-clause-none c = λ j mine theirs. elim (cases_lt (j / 64) (length c.args.row.now)) [
  | inl lt ↦ c.loop-w.invariant j (omega (arith, lt, c.loop-w-test.false)) mine theirs
  | inr le ↦ absurd (false≢true (sym (no_bit-past c.args.row.now j le) ∙ mine))
]
