use Rattle.std.proofs.Common.{◌∙◌, ap}
use Rattle.lock_rules.specs.declared.calls.Call.TheVariants.{Restart}
use Rattle.lock_rules.specs.declared.calls.Reply.TheVariants.{Restarted}
use Rattle.lock_table.proofs.Simulation.{restarted-shown, locks-shown, passed-step}
use Rattle.lock_table.proofs.EndedWaits.{waits_ended-none}
use Rattle.lock_table.proofs.table.LockTable.serve_restart.Goals as goal

pub returns-clause-step : goal.returns-clause-step
returns-clause-step c = λ st i j h.
    let d = c.args.self.now in
    let s = c.args.session in
    passed-step d c.restart.new.self st s Restart (Restarted c.restart.result) c.requires.may_serve.whole i h c.in_default.ensures (ap Restarted (c.restart.ensures.locks ∙ locks-shown d st s c.requires.may_serve.whole i h), restarted-shown d c.restart.new.self st s i c.restart.ensures.restarted h)

pub returns-in-Some-clause-waits_ended : goal.returns-in-Some-clause-waits_ended
returns-in-Some-clause-waits_ended c = waits_ended-none c.args.session c.args.self.now
