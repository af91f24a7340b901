use Rattle.std.proofs.Common.{◌∙◌, ap}
use Rattle.lock_rules.specs.declared.calls.Call.TheVariants.{Commit}
use Rattle.lock_rules.specs.declared.calls.Reply.TheVariants.{Committed}
use Rattle.lock_table.proofs.Simulation.{ended-shown, locks-shown, refused-step, passed-step}
use Rattle.lock_table.proofs.EndedWaits.{waits_ended-none}
use Rattle.lock_table.proofs.table.LockTable.serve_commit.Goals as goal

pub returns-in-Some-clause-step : goal.returns-in-Some-clause-step
returns-in-Some-clause-step c = λ st i j h. refused-step c.args.self.now st c.args.session Commit c.in-Some.why c.requires.may_serve.whole i h c.in-Some.ensures

pub returns-clause-step : goal.returns-clause-step
returns-clause-step c = λ st i j h.
    let d = c.args.self.now in
    let s = c.args.session in
    passed-step d c.end.new.self st s Commit (Committed c.end.result) c.requires.may_serve.whole i h c.in_default.ensures (ap Committed (c.end.ensures.locks ∙ locks-shown d st s c.requires.may_serve.whole i h), ended-shown d c.end.new.self st s i c.end.ensures.ended h)

pub returns-in-Some-clause-waits_ended : goal.returns-in-Some-clause-waits_ended
returns-in-Some-clause-waits_ended c = waits_ended-none c.args.session c.args.self.now
