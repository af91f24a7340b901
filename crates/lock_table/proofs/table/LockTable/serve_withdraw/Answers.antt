use Rattle.std.proofs.Common.{refl}
use Rattle.lock_rules.specs.declared.calls.Call.TheVariants.{Withdraw}
use Rattle.lock_rules.specs.declared.calls.Reply.TheVariants.{Withdrawn}
use Rattle.lock_table.proofs.Simulation.{cancelled-shown, refused-step, passed-step}
use Rattle.lock_table.proofs.EndedWaits.{waits_ended-none}
use Rattle.lock_table.proofs.table.LockTable.serve_withdraw.Goals as goal

pub returns-clause-step : goal.returns-clause-step
returns-clause-step c = λ st i j h.
    let d = c.args.self.now in
    let s = c.args.session in
    passed-step d c.cancel.new.self st s Withdraw Withdrawn c.requires.may_serve.whole i h c.in_default.ensures (refl, cancelled-shown d c.cancel.new.self st s i c.cancel.ensures.cancelled h)

pub returns-in-Some-clause-waits_ended : goal.returns-in-Some-clause-waits_ended
returns-in-Some-clause-waits_ended c = waits_ended-none c.args.session c.args.self.now

pub returns-in-Some-clause-step : goal.returns-in-Some-clause-step
returns-in-Some-clause-step c = λ st i j h. refused-step c.args.self.now st c.args.session Withdraw c.in-Some.why c.requires.may_serve.whole i h c.in-Some.ensures
