use Rattle.std.proofs.Common.{cond, ◌∙◌}
use Rattle.lock_rules.specs.declared.calls.Call.TheVariants.{Poll}
use Rattle.lock_rules.specs.declared.calls.Reply.TheVariants.{Waiting, Deadlock, Clear}
use Rattle.lock_table.proofs.Simulation.{waits-shown, doom-shown, passed-step}
use Rattle.lock_table.proofs.EndedWaits.{waits_ended-none}
use Rattle.lock_table.proofs.table.LockTable.serve_poll.Goals as goal

pub returns-clause-step : goal.returns-clause-step
returns-clause-step c = λ st i j h.
    let d = c.args.self.now in
    let a = doom-shown d st c.args.session h in
    let b = waits-shown d st c.args.session c.requires.may_serve.whole h in
    passed-step d d st c.args.session Poll c.standing_reply.result c.requires.may_serve.whole i h c.in_default.ensures (c.standing_reply.ensures ∙ (λ k. cond (a k) Deadlock (cond (b k) Waiting Clear)), h)

pub returns-in-Some-clause-waits_ended : goal.returns-in-Some-clause-waits_ended
returns-in-Some-clause-waits_ended c = waits_ended-none c.args.session c.args.self.now

pub returns-clause-waits_ended : goal.returns-clause-waits_ended
returns-clause-waits_ended c = waits_ended-none c.args.session c.args.self.now
