use Rattle.std.proofs.Common.{◌+◌, Bool, cond, Some, None, is_some, ap, ◌∙◌}
use Rattle.lock_rules.specs.declared.calls.Call.TheVariants.{Begin}
use Rattle.lock_rules.specs.declared.calls.Reply.TheVariants.{Began}
use Rattle.lock_rules.specs.declared.calls.Why.TheVariants.{AlreadyOpen}
use Rattle.lock_table.specs.inner.Lockers.{Standing}
use Rattle.lock_table.proofs.Simulation.{begun-shown, passed-step}
use Rattle.lock_table.proofs.EndedWaits.{waits_ended-none}
use Rattle.lock_table.proofs.table.LockTable.serve_begin.Goals as goal

pub returns-clause-step : goal.returns-clause-step
returns-clause-step c = λ st i j h.
    let d = c.args.self.now in
    let none = ap (λ (b : Bool). cond b (Some AlreadyOpen) None) (c.if-is_open.ensures ∙ ap (λ (x : Standing). is_some x.transaction) c.locker.ensures) in
    passed-step d c.begin.new.self st c.args.session Begin (Began c.begin.result) c.requires.may_serve.whole i h none (ap Began (c.begin.ensures.number ∙ ap (λ n. n + 1) h.count), begun-shown d c.begin.new.self st c.args.session c.begin.ensures.begun h)

pub returns-then-is_open-clause-waits_ended : goal.returns-then-is_open-clause-waits_ended
returns-then-is_open-clause-waits_ended c = waits_ended-none c.args.session c.args.self.now
