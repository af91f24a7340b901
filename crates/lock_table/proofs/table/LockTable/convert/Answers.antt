use Rattle.std.proofs.Common.{rules, ◌≡◌, refl, sym, ◌∙◌, ap, subst, Bool, set}
use Rattle.session_locks.specs.Resources.{has_path}
use Rattle.lock_table.specs.inner.Cells.{is_granted}
use Rattle.lock_table.specs.inner.Lockers.{Standing, standing_of, standing_after_asking}
use Rattle.lock_table.specs.Changes.{standing, standings}
use Rattle.lock_table.proofs.Results.{on-err-from}
use Rattle.lock_table.proofs.LockerStandings.{standing-here}
use Rattle.lock_table.proofs.Asking.{within, idle-there, held-locker, there-same, there-whole, once-own, never-own, has-asked, asked-keeps}
use Rattle.lock_table.proofs.RowsOfTheTable.{ready-same, written-for}
use Rattle.lock_table.proofs.EndedWaits.{list-none, list-own}
use Rattle.lock_table.proofs.table.LockTable.convert.Goals as goal

pub ask_cell-requires-clause-written : goal.ask_cell-requires-clause-written
ask_cell-requires-clause-written c = written-for c.args.self.now c.args.session c.args.resource c.requires.may_serve.whole c.requires.may_serve.ready c.requires.can.idle

pub ask_cell-requires-clause-idle : goal.ask_cell-requires-clause-idle
ask_cell-requires-clause-idle c = idle-there c.args.session c.args.resource c.args.self.now c.requires.may_serve.whole c.requires.can.idle

pub returns-in_err-status-clause-err : goal.returns-in_err-status-clause-err
returns-in_err-status-clause-err c = on-err-from c.from_residual.result (there-same c.args.resource c.args.self.now _ refl refl refl c.in_err-status.ensures.err)

pub returns-in_err-status-clause-kept : goal.returns-in_err-status-clause-kept
returns-in_err-status-clause-kept c =
    record {
      whole = there-whole c.args.resource c.args.self.now _ refl refl refl c.in_err-status.ensures.err c.requires.may_serve.whole;
      lockers = search rules;
      ready = ready-same c.args.self.now _ (there-same c.args.resource c.args.self.now _ refl refl refl c.in_err-status.ensures.err) refl c.in_err-status.ensures.unwritten c.requires.may_serve.ready;
    }

pub wait_for-requires-clause-kind : goal.wait_for-requires-clause-kind
wait_for-requires-clause-kind c =
    ap (λ (x : Standing). has_path c.args.resource x.held) (sym (standing-here c.args.self.now.lockers.items c.args.session c.index_mut-locker.result.now (within c.args.self.now c.args.session c.position_of.ensures c.requires.may_serve.session) c.index_mut-locker.ensures.value))
    ∙ (held-locker c.args.session c.args.resource c.args.self.now c.requires.may_serve.whole ∙ c.requires.can.held)

pub returns-in-Waiting-clause-asked : goal.returns-in-Waiting-clause-asked
returns-in-Waiting-clause-asked c =
    has-asked c.args.self.now c.args.session c.args.resource c.args.mode (is_granted c.in_ok-status.status) _ c.requires.may_serve.whole (within c.args.self.now c.args.session c.position_of.ensures c.requires.may_serve.session) c.requires.can.idle c.in_ok-status.ensures.granted
    (once-own c.args.self.now c.args.session c.args.resource c.index_mut-locker.result.now c.wait_for.new.self _ (is_granted c.in_ok-status.status) (within c.args.self.now c.args.session c.position_of.ensures c.requires.may_serve.session) c.index_mut-locker.ensures.value
    (subst (λ (b : Bool). standing_of c.wait_for.new.self ≡ standing_after_asking b c.args.resource (standing_of c.index_mut-locker.result.now)) (sym (ap is_granted c.in-Waiting.is)) c.wait_for.ensures) refl)
    c.in_ok-status.ensures.ok refl

pub returns-in-Waiting-clause-kept : goal.returns-in-Waiting-clause-kept
returns-in-Waiting-clause-kept c =
    asked-keeps c.args.self.now c.args.session c.args.resource c.args.mode (is_granted c.in_ok-status.status) _ c.requires.may_serve.whole (within c.args.self.now c.args.session c.position_of.ensures c.requires.may_serve.session) c.requires.can.idle c.in_ok-status.ensures.granted
    (once-own c.args.self.now c.args.session c.args.resource c.index_mut-locker.result.now c.wait_for.new.self _ (is_granted c.in_ok-status.status) (within c.args.self.now c.args.session c.position_of.ensures c.requires.may_serve.session) c.index_mut-locker.ensures.value
    (subst (λ (b : Bool). standing_of c.wait_for.new.self ≡ standing_after_asking b c.args.resource (standing_of c.index_mut-locker.result.now)) (sym (ap is_granted c.in-Waiting.is)) c.wait_for.ensures) refl)
    c.in_ok-status.ensures.ok
    (search rules) refl refl c.in_ok-status.ensures.rows c.requires.may_serve.ready

pub returns-in-Granted-clause-asked : goal.returns-in-Granted-clause-asked
returns-in-Granted-clause-asked c =
    has-asked c.args.self.now c.args.session c.args.resource c.args.mode (is_granted c.in_ok-status.status) _ c.requires.may_serve.whole (within c.args.self.now c.args.session refl c.requires.may_serve.session) c.requires.can.idle c.in_ok-status.ensures.granted
    (subst (λ (b : Bool). standings c.args.self.now ≡ set (standings c.args.self.now) c.args.session (standing_after_asking b c.args.resource (standing c.args.session c.args.self.now))) (sym (ap is_granted c.in-Granted.is))
    (never-own c.args.self.now c.args.session c.args.resource (held-locker c.args.session c.args.resource c.args.self.now c.requires.may_serve.whole ∙ c.requires.can.held) c.requires.can.idle))
    c.in_ok-status.ensures.ok refl

pub returns-in-Granted-clause-kept : goal.returns-in-Granted-clause-kept
returns-in-Granted-clause-kept c =
    asked-keeps c.args.self.now c.args.session c.args.resource c.args.mode (is_granted c.in_ok-status.status) _ c.requires.may_serve.whole (within c.args.self.now c.args.session refl c.requires.may_serve.session) c.requires.can.idle c.in_ok-status.ensures.granted
    (subst (λ (b : Bool). standings c.args.self.now ≡ set (standings c.args.self.now) c.args.session (standing_after_asking b c.args.resource (standing c.args.session c.args.self.now))) (sym (ap is_granted c.in-Granted.is))
    (never-own c.args.self.now c.args.session c.args.resource (held-locker c.args.session c.args.resource c.args.self.now c.requires.may_serve.whole ∙ c.requires.can.held) c.requires.can.idle))
    c.in_ok-status.ensures.ok
    (search rules) refl refl c.in_ok-status.ensures.rows c.requires.may_serve.ready

pub returns-in_err-status-clause-waits_ended : goal.returns-in_err-status-clause-waits_ended
returns-in_err-status-clause-waits_ended c = list-none c.args.session c.args.self.now.lockers.items c.args.self.now.ended

pub returns-in-Granted-clause-waits_ended : goal.returns-in-Granted-clause-waits_ended
returns-in-Granted-clause-waits_ended c = list-none c.args.session c.args.self.now.lockers.items c.args.self.now.ended

pub returns-in-Waiting-clause-waits_ended : goal.returns-in-Waiting-clause-waits_ended
returns-in-Waiting-clause-waits_ended c = list-own c.args.session c.args.self.now.lockers.items c.wait_for.new.self c.args.self.now.ended (within c.args.self.now c.args.session c.position_of.ensures c.requires.may_serve.session).session
