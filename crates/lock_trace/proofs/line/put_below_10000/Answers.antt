use Rattle.std.proofs.Common.{take, arith}
use Rattle.lock_trace.proofs.LineSteps.{hundreds_written}
use Rattle.lock_trace.proofs.line.put_below_10000.Goals as goal

pub returns-clause-text : goal.returns-clause-text
returns-clause-text c =
    hundreds_written (take c.args.at c.args.line.now) _ _ c.args.number c.if-number-lt100.false (omega (arith, c.requires.four)) c.put_below_100-next.ensures.text c.put_two_digits.ensures.text
