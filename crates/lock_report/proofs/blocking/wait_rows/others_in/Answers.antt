use Rattle.std.proofs.Common.{rules, false, None, sym, arith, length}
use Rattle.std.proofs.lemmas.List.Sums.{position_or_len_is}
use Rattle.lock_report.specs.declared.snapshot.WaitLine.{WaitLine}
use Rattle.lock_report.proofs.blocking.wait_rows.others_in.Goals as goal

-- some wait
abbrev some : WaitLine
some = record { wait = record { session = 0; other = 0 }; first = false; since = None }

pub returns-then-told-index : goal.returns-then-told-index
returns-then-told-index c =
    sym (position_or_len_is (λ (w : WaitLine). w.first) c.args.told.now c.loop-index.index some (omega (arith, c.loop-index-test.true)) (λ k lt. c.loop-index.invariant k some lt) (λ lt. search rules))

pub returns : goal.returns
returns c =
    sym (position_or_len_is (λ (w : WaitLine). w.first) c.args.told.now (length c.args.told.now) some (omega arith) (λ k lt. c.loop-index.invariant k some (omega (arith, lt, c.loop-index-test.false))) (λ lt. absurd (omega (arith, lt))))
