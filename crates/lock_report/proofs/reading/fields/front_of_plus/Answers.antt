use Rattle.std.proofs.Common.{rules, sym, arith, length}
use Rattle.std.proofs.lemmas.Bool.Decides.{Decides-eqb}
use Rattle.std.proofs.lemmas.List.Sums.{position_or_len_is}
use Rattle.lock_report.specs.inner.ReadFields.{is_plus}
use Rattle.lock_report.proofs.reading.fields.front_of_plus.Goals as goal

pub returns-then-field-index-eq43-clause-front : goal.returns-then-field-index-eq43-clause-front
returns-then-field-index-eq43-clause-front c =
    sym (position_or_len_is is_plus c.args.field.now c.loop-index.index 0 (omega (arith, c.loop-index-test.true)) c.loop-index.invariant (λ lt. (Decides-eqb _ 43).1 (search rules)))

pub returns-clause-front : goal.returns-clause-front
returns-clause-front c =
    sym (position_or_len_is is_plus c.args.field.now (length c.args.field.now) 0 (omega arith) (λ k lt. c.loop-index.invariant k (omega (arith, lt, c.loop-index-test.false))) (λ lt. absurd (omega (arith, lt))))
