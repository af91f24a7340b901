use Rattle.lock_explain.proofs.Parents.{lock-has-parent, convert-has-parent, try-has-parent}
use Rattle.lock_explain.proofs.refusal.missed_by.Goals as goal

pub missed_for-requires : goal.missed_for-requires
missed_for-requires c = record { has = lock-has-parent c.args.before.now.history c.args.session c.args.call.now c.args.why c.in-Lock.resource c.in-Lock.asked c.requires c.in-Lock.is c.in-ParentNotHeld.is }

pub missed_for-requires-in-Convert : goal.missed_for-requires-in-Convert
missed_for-requires-in-Convert c = record { has = convert-has-parent c.args.before.now.history c.args.session c.args.call.now c.args.why c.in-Convert.resource c.in-Convert.asked c.requires c.in-Convert.is c.in-ParentNotHeld.is }

pub missed_for-requires-in-Try : goal.missed_for-requires-in-Try
missed_for-requires-in-Try c = record { has = try-has-parent c.args.before.now.history c.args.session c.args.call.now c.args.why c.in-Try.resource c.in-Try.asked c.requires c.in-Try.is c.in-ParentNotHeld.is }
