use Rattle.lock_trace.proofs.Resources.{is_reading}
use Rattle.lock_trace.proofs.fields.resource_in_text.Goals as goal

pub returns : goal.returns
returns c = is_reading c.args.text.now c.parse.result c.parse.ensures.ok c.parse.ensures.fault
