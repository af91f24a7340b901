use Rattle.std.proofs.Common.{rules, true, false, refl, sym, arith}
use Rattle.std.proofs.Math.Bool.{and-true}
use Rattle.lock_holders.specs.Woken.{is_ended}
use Rattle.lock_table.proofs.EndedWaits.{list-but, shows-relisted, keeps-relisted}
use Rattle.lock_table.proofs.table.LockTable.resolve_for.Goals as goal

pub has-was_ended-requires-clause-within : goal.has-was_ended-requires-clause-within
has-was_ended-requires-clause-within g c = omega (arith, c.requires.may_serve.session.within, c.requires.may_serve.ready.waits_ended)

pub remove-requires-clause-within : goal.remove-requires-clause-within
remove-requires-clause-within g c = omega (arith, c.requires.may_serve.session.within, c.resolve_deadlocks.ensures.kept.lockers, c.resolve_deadlocks.ensures.kept.ready.waits_ended)

pub returns-then-not-was_ended-clause-waits_ended : goal.returns-then-not-was_ended-clause-waits_ended
returns-then-not-was_ended-clause-waits_ended g c =
    let d = c.args.self.now in
    let e = c.resolve_deadlocks.new.self in
    list-but c.args.session d.lockers.items e.lockers.items d.ended e.ended c.remove.new.self c.resolve_deadlocks.ensures.waits_ended false (search rules) c.remove.ensures.sized c.remove.ensures.waits_ended

pub returns-else-not-was_ended-clause-waits_ended : goal.returns-else-not-was_ended-clause-waits_ended
returns-else-not-was_ended-clause-waits_ended g c =
    let d = c.args.self.now in
    let e = c.resolve_deadlocks.new.self in
    list-but c.args.session d.lockers.items e.lockers.items d.ended e.ended e.ended c.resolve_deadlocks.ensures.waits_ended true (search rules) refl (λ u. sym (and-true (is_ended e.ended u)))

pub returns-then-not-was_ended-clause-settled : goal.returns-then-not-was_ended-clause-settled
returns-then-not-was_ended-clause-settled g c = λ st i j h. shows-relisted c.resolve_deadlocks.new.self c.remove.new.self _ (c.resolve_deadlocks.ensures.settled st i j h)

pub returns-then-not-was_ended-clause-kept : goal.returns-then-not-was_ended-clause-kept
returns-then-not-was_ended-clause-kept g c = keeps-relisted c.args.self.now c.resolve_deadlocks.new.self c.remove.new.self c.remove.ensures.sized c.resolve_deadlocks.ensures.kept
