use Rattle.std.proofs.Common.{None, refl, sym, subst}
use Rattle.lock_rules.specs.declared.calls.Call.TheVariants.{Lock}
use Rattle.lock_table.specs.declared.table.LockTable.{LockTable}
use Rattle.lock_table.specs.Changes.{IsWhole, HasNotedEnded, idle_tests, lock_tests}
use Rattle.lock_table.proofs.Results.{first-some}
use Rattle.lock_table.proofs.Simulation.{lock-may, refused-step}
use Rattle.lock_table.proofs.DeadlocksOfCalls.{refused-noted}
use Rattle.lock_table.proofs.EndedWaits.{waits_ended-none}
use Rattle.lock_table.proofs.LockCalls.{failing, refused-then, refused-then_noted, passed-then, passed-then_noted}
use Rattle.lock_table.proofs.table.LockTable.serve_lock.Goals as goal

pub returns-in-Some-clause-step : goal.returns-in-Some-clause-step
returns-in-Some-clause-step g c = λ st i j h. refused-step c.args.self.now st c.args.session (Lock c.args.resource c.args.mode) c.in-Some.why c.requires.may_serve.whole i h (first-some (idle_tests c.args.self.now c.args.session) (lock_tests c.args.self.now c.args.session c.args.resource c.args.mode) c.in-Some.why c.in-Some.ensures)

pub returns-in-Some-clause-noted : goal.returns-in-Some-clause-noted
returns-in-Some-clause-noted g c = λ st i j h. refused-noted g.N.DeadlockNotes.noted g.met.N.DeadlockNotes.none c.args.self.now st c.args.session c.args.resource c.args.mode c.in-Some.why c.args.served c.args.notes.now (Lock c.args.resource c.args.mode) c.requires.may_serve.whole i h (first-some (idle_tests c.args.self.now c.args.session) (lock_tests c.args.self.now c.args.session c.args.resource c.args.mode) c.in-Some.why c.in-Some.ensures)

pub returns-in-Some-clause-waits_ended : goal.returns-in-Some-clause-waits_ended
returns-in-Some-clause-waits_ended g c = waits_ended-none c.args.session c.args.self.now

pub returns-in-Some-lock_refusal-clause-step : goal.returns-in-Some-lock_refusal-clause-step
returns-in-Some-lock_refusal-clause-step g c = λ st i j h. refused-then c.args.self.now c.find_or_insert_key-place.new.self c.find_or_insert_key-place.ensures.same c.args.session c.args.resource c.args.mode (Lock c.args.resource c.args.mode) (lock_tests c.find_or_insert_key-place.new.self c.args.session c.args.resource c.args.mode) refl c.requires.may_serve.whole c.in_default.ensures st i h c.in-Some-lock_refusal.why c.in-Some-lock_refusal.ensures

pub returns-in-Some-lock_refusal-clause-noted : goal.returns-in-Some-lock_refusal-clause-noted
returns-in-Some-lock_refusal-clause-noted g c = λ st i j h. refused-then_noted c.args.self.now c.find_or_insert_key-place.new.self c.find_or_insert_key-place.ensures.same c.args.session c.args.resource c.args.mode (Lock c.args.resource c.args.mode) (lock_tests c.find_or_insert_key-place.new.self c.args.session c.args.resource c.args.mode) refl c.requires.may_serve.whole c.in_default.ensures st i h g.N.DeadlockNotes.noted g.met.N.DeadlockNotes.none c.in-Some-lock_refusal.why c.in-Some-lock_refusal.ensures c.args.served c.args.notes.now

pub returns-in-Some-lock_refusal-clause-waits_ended : goal.returns-in-Some-lock_refusal-clause-waits_ended
returns-in-Some-lock_refusal-clause-waits_ended g c = subst (HasNotedEnded c.args.session c.args.self.now) (sym c.find_or_insert_key-place.ensures.same) (waits_ended-none c.args.session c.args.self.now)

pub ask_lock-requires-clause-may : goal.ask_lock-requires-clause-may
ask_lock-requires-clause-may g c =
    lock-may c.find_or_insert_key-place.new.self c.args.session c.args.resource c.args.mode (subst IsWhole (sym c.find_or_insert_key-place.ensures.same) c.requires.may_serve.whole)
    (sym (failing c.args.self.now c.find_or_insert_key-place.new.self c.find_or_insert_key-place.ensures.same c.args.session c.args.resource c.args.mode (Lock c.args.resource c.args.mode) (lock_tests c.find_or_insert_key-place.new.self c.args.session c.args.resource c.args.mode) refl c.requires.may_serve.whole c.in_default.ensures None c.in_default-lock_refusal.ensures))

pub returns-clause-step : goal.returns-clause-step
returns-clause-step g c = λ st i j h. passed-then c.args.self.now c.find_or_insert_key-place.new.self c.find_or_insert_key-place.ensures.same c.args.session c.args.resource c.args.mode (Lock c.args.resource c.args.mode) (lock_tests c.find_or_insert_key-place.new.self c.args.session c.args.resource c.args.mode) refl c.requires.may_serve.whole c.in_default.ensures st i h c.ask_lock.result c.in_default-lock_refusal.ensures c.ask_lock.new.self (c.ask_lock.ensures.ask st i j)

pub returns-clause-noted : goal.returns-clause-noted
returns-clause-noted g c = λ st i j h. passed-then_noted c.args.self.now c.find_or_insert_key-place.new.self c.find_or_insert_key-place.ensures.same c.args.session c.args.resource c.args.mode (Lock c.args.resource c.args.mode) (lock_tests c.find_or_insert_key-place.new.self c.args.session c.args.resource c.args.mode) refl c.requires.may_serve.whole c.in_default.ensures st i h c.ask_lock.result c.in_default-lock_refusal.ensures g.N.DeadlockNotes.noted c.args.served c.args.notes.now c.ask_lock.new.notes (c.ask_lock.ensures.noted st i j)

pub returns-clause-waits_ended : goal.returns-clause-waits_ended
returns-clause-waits_ended g c = subst (λ (x : LockTable). HasNotedEnded c.args.session x c.ask_lock.new.self) c.find_or_insert_key-place.ensures.same c.ask_lock.ensures.waits_ended
