use Rattle.std.proofs.Common.{◌∙◌, ap}
use Rattle.lock_rules.specs.declared.calls.Call.TheVariants.{Abort}
use Rattle.lock_rules.specs.declared.calls.Reply.TheVariants.{Aborted}
use Rattle.lock_table.proofs.Simulation.{ended-shown, locks-shown, passed-step}
use Rattle.lock_table.proofs.EndedWaits.{waits_ended-none}
use Rattle.lock_table.proofs.table.LockTable.serve_abort.Goals as goal

pub returns-clause-step : goal.returns-clause-step
returns-clause-step c = λ st i j h.
    let d = c.args.self.now in
    let s = c.args.session in
    passed-step d c.abort.new.self st s Abort (Aborted c.abort.result) c.requires.may_serve.whole i h c.in_default.ensures (ap Aborted (c.abort.ensures.locks ∙ locks-shown d st s c.requires.may_serve.whole i h), ended-shown d c.abort.new.self st s i c.abort.ensures.ended h)

pub returns-in-Some-clause-waits_ended : goal.returns-in-Some-clause-waits_ended
returns-in-Some-clause-waits_ended c = waits_ended-none c.args.session c.args.self.now
