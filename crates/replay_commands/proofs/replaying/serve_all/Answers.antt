use Rattle.std.proofs.Common.{◌∙◌, take_all}
use Rattle.replay_commands.proofs.replaying.serve_all.Goals as goal

pub returns-clause-calls : goal.returns-clause-calls
returns-clause-calls c = c.loop-row.invariant.calls ∙ take_all c.loop-row.row-index c.args.rows.now c.loop-row-test.false
