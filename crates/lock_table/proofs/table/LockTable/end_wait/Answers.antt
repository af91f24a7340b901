use Rattle.std.proofs.Common.{is_some, sym, ap, arith}
use Rattle.lock_table.proofs.EndedWaits.{list-also, list-idle, cancelled-relisted, keeps-relisted}
use Rattle.lock_table.proofs.table.LockTable.end_wait.Goals as goal

pub add-requires-clause-within : goal.add-requires-clause-within
add-requires-clause-within c = omega (arith, c.requires.may_serve.session.within, c.if-cancel.ensures.kept.lockers, c.if-cancel.ensures.kept.ready.waits_ended)

pub returns-then-cancel-clause-cancelled : goal.returns-then-cancel-clause-cancelled
returns-then-cancel-clause-cancelled c = cancelled-relisted c.args.session c.args.self.now c.cancel.new.self c.add.new.self c.if-cancel.ensures.cancelled

pub returns-then-cancel-clause-kept : goal.returns-then-cancel-clause-kept
returns-then-cancel-clause-kept c = keeps-relisted c.args.self.now c.cancel.new.self c.add.new.self c.add.ensures.sized c.if-cancel.ensures.kept

pub returns-then-cancel-clause-waits_ended : goal.returns-then-cancel-clause-waits_ended
returns-then-cancel-clause-waits_ended c =
    let d = c.args.self.now in
    let e = c.cancel.new.self in
    list-also c.args.session d.lockers.items e.lockers.items d.ended e.ended c.add.new.self c.if-cancel.ensures.waits_ended (sym c.if-cancel.ensures.waited) (ap is_some c.if-cancel.ensures.cancelled.idle) c.add.ensures.sized c.add.ensures.waits_ended

pub returns-else-cancel-clause-waits_ended : goal.returns-else-cancel-clause-waits_ended
returns-else-cancel-clause-waits_ended c =
    let d = c.args.self.now in
    let e = c.cancel.new.self in
    list-idle c.args.session d.lockers.items e.lockers.items d.ended e.ended c.if-cancel.ensures.waits_ended (sym c.if-cancel.ensures.waited) (ap is_some c.if-cancel.ensures.cancelled.idle)
