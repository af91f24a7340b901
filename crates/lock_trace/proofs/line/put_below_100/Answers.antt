use Rattle.std.proofs.Common.{take}
use Rattle.lock_trace.proofs.LineSteps.{digit_written, pair_written}
use Rattle.lock_trace.proofs.line.put_below_100.Goals as goal

pub returns-then-number-lt10-clause-text : goal.returns-then-number-lt10-clause-text
returns-then-number-lt10-clause-text c = digit_written (take c.args.at c.args.line.now) _ c.args.number c.if-number-lt10.true c.put_byte.ensures.text

pub returns-clause-text : goal.returns-clause-text
returns-clause-text c = pair_written (take c.args.at c.args.line.now) _ c.args.number c.if-number-lt10.false c.requires.two c.put_two_digits.ensures.text
