use Rattle.std.proofs.Common.{take}
use Rattle.lock_trace.proofs.LineSteps.{call_written}
use Rattle.lock_trace.proofs.writing.put_call.Goals as goal

pub returns-clause-text : goal.returns-clause-text
returns-clause-text c =
    call_written (take c.args.at c.args.line.now) _ _ _ _ _ _ _ _ c.put_token-after_op.ensures.text c.op_token-count.ensures.text c.put_resource_field-after_resource.ensures.text c.put_byte-after_comma.ensures.text c.put_mode_field.ensures.text
