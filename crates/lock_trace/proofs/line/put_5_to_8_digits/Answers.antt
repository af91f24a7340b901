use Rattle.std.proofs.Common.{take, ◌/◌, arith}
use Rattle.lock_trace.proofs.LineSteps.{hundreds_written}
use Rattle.lock_trace.proofs.line.put_5_to_8_digits.Goals as goal

pub returns-clause-text : goal.returns-clause-text
returns-clause-text c =
    hundreds_written (take c.args.at c.args.line.now) _ _ c.args.number (omega (arith, c.requires.five)) (omega (arith, c.requires.eight))
    (hundreds_written (take c.args.at c.args.line.now) _ _ (c.args.number / 100) (omega (arith, c.requires.five)) (omega (arith, c.requires.eight)) c.put_below_10000-next.ensures.text c.put_two_digits-last.ensures.text)
    c.put_two_digits.ensures.text
