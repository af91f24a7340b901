use Rattle.std.proofs.Common.{take}
use Rattle.lock_trace.proofs.LineSteps.{reply_written}
use Rattle.lock_trace.proofs.writing.put_reply.Goals as goal

pub returns-clause-text : goal.returns-clause-text
returns-clause-text c =
    reply_written (take c.args.at c.args.line.now) _ _ _ _ _ c.put_token-after_word.ensures.text c.reply_token-count.ensures.text c.put_value.ensures.text
