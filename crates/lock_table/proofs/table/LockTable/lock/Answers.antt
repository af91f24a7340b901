use Rattle.std.proofs.Common.{ap, rules, ◌≡◌, refl, sym, ◌∙◌, subst, Bool}
use Rattle.lock_table.specs.inner.Cells.{is_granted}
use Rattle.lock_table.specs.inner.Lockers.{standing_of, standing_after_asking}
use Rattle.lock_table.proofs.Results.{on-err-from}
use Rattle.lock_table.proofs.CellTable.{became-same}
use Rattle.lock_table.proofs.Asking.{within, idle-there, held-locker, mid-held, mid-under, room-same, room-whole, twice-own, has-asked, asked-keeps}
use Rattle.lock_table.proofs.RowsOfTheTable.{ready-same, written-for}
use Rattle.lock_table.proofs.EndedWaits.{list-own, list-twice}
use Rattle.lock_table.proofs.table.LockTable.lock.Goals as goal

pub returns-in_err-make_room-clause-err : goal.returns-in_err-make_room-clause-err
returns-in_err-make_room-clause-err c =
    on-err-from c.from_residual.result
    (room-same c.args.self.now c.args.session c.index_mut-locker.result.now c.make_room.new.self c.requires.may_serve.whole (within c.args.self.now c.args.session c.position_of-position.ensures c.requires.may_serve.session) c.index_mut-locker.ensures.value c.make_room.ensures.standing c.args.resource _ refl refl refl (became-same c.args.resource c.args.self.now.cells.entries c.requires.may_serve.whole.cells))

pub returns-in_err-make_room-clause-kept : goal.returns-in_err-make_room-clause-kept
returns-in_err-make_room-clause-kept c =
    record {
      whole = room-whole c.args.self.now c.args.session c.index_mut-locker.result.now c.make_room.new.self c.requires.may_serve.whole (within c.args.self.now c.args.session c.position_of-position.ensures c.requires.may_serve.session) c.index_mut-locker.ensures.value c.make_room.ensures.standing c.args.resource _ refl refl refl (became-same c.args.resource c.args.self.now.cells.entries c.requires.may_serve.whole.cells);
      lockers = search rules;
      ready = ready-same c.args.self.now _ (room-same c.args.self.now c.args.session c.index_mut-locker.result.now c.make_room.new.self c.requires.may_serve.whole (within c.args.self.now c.args.session c.position_of-position.ensures c.requires.may_serve.session) c.index_mut-locker.ensures.value c.make_room.ensures.standing c.args.resource _ refl refl refl (became-same c.args.resource c.args.self.now.cells.entries c.requires.may_serve.whole.cells)) (search rules) refl c.requires.may_serve.ready;
    }

pub ask_cell-requires-clause-written : goal.ask_cell-requires-clause-written
ask_cell-requires-clause-written c = written-for c.args.self.now c.args.session c.args.resource c.requires.may_serve.whole c.requires.may_serve.ready c.requires.can.idle

pub ask_cell-requires-clause-idle : goal.ask_cell-requires-clause-idle
ask_cell-requires-clause-idle c = idle-there c.args.session c.args.resource c.args.self.now c.requires.may_serve.whole c.requires.can.idle

pub returns-in_err-status-clause-err : goal.returns-in_err-status-clause-err
returns-in_err-status-clause-err c =
    on-err-from c.from_residual-in_err-status.result
    (room-same c.args.self.now c.args.session c.index_mut-locker.result.now c.make_room.new.self c.requires.may_serve.whole (within c.args.self.now c.args.session c.position_of-position.ensures c.requires.may_serve.session) c.index_mut-locker.ensures.value c.make_room.ensures.standing c.args.resource _ refl refl refl c.in_err-status.ensures.err)

pub returns-in_err-status-clause-kept : goal.returns-in_err-status-clause-kept
returns-in_err-status-clause-kept c =
    record {
      whole = room-whole c.args.self.now c.args.session c.index_mut-locker.result.now c.make_room.new.self c.requires.may_serve.whole (within c.args.self.now c.args.session c.position_of-position.ensures c.requires.may_serve.session) c.index_mut-locker.ensures.value c.make_room.ensures.standing c.args.resource _ refl refl refl c.in_err-status.ensures.err;
      lockers = search rules;
      ready = ready-same c.args.self.now _ (room-same c.args.self.now c.args.session c.index_mut-locker.result.now c.make_room.new.self c.requires.may_serve.whole (within c.args.self.now c.args.session c.position_of-position.ensures c.requires.may_serve.session) c.index_mut-locker.ensures.value c.make_room.ensures.standing c.args.resource _ refl refl refl c.in_err-status.ensures.err) (search rules) c.in_err-status.ensures.unwritten c.requires.may_serve.ready;
    }

pub returns-in-Granted-clause-asked : goal.returns-in-Granted-clause-asked
returns-in-Granted-clause-asked c =
    has-asked c.args.self.now c.args.session c.args.resource c.args.mode (is_granted c.in_ok-status.status) _ c.requires.may_serve.whole (within c.args.self.now c.args.session c.position_of-position.ensures c.requires.may_serve.session) c.requires.can.idle c.in_ok-status.ensures.granted
    (twice-own c.args.self.now c.args.session c.index_mut-locker.result.now c.make_room.new.self c.requires.may_serve.whole (within c.args.self.now c.args.session c.position_of-position.ensures c.requires.may_serve.session) c.index_mut-locker.ensures.value c.make_room.ensures.standing c.args.resource (is_granted c.in_ok-status.status) c.index_mut-locker-2.result.now c.hold.new.self _ c.index_mut-locker-2.ensures.value (subst (λ (b : Bool). standing_of c.hold.new.self ≡ standing_after_asking b c.args.resource (standing_of c.index_mut-locker-2.result.now)) (sym (ap is_granted c.in-Granted.is)) c.hold.ensures) refl)
    c.in_ok-status.ensures.ok refl

pub returns-in-Granted-clause-kept : goal.returns-in-Granted-clause-kept
returns-in-Granted-clause-kept c =
    asked-keeps c.args.self.now c.args.session c.args.resource c.args.mode (is_granted c.in_ok-status.status) _ c.requires.may_serve.whole (within c.args.self.now c.args.session c.position_of-position.ensures c.requires.may_serve.session) c.requires.can.idle c.in_ok-status.ensures.granted
    (twice-own c.args.self.now c.args.session c.index_mut-locker.result.now c.make_room.new.self c.requires.may_serve.whole (within c.args.self.now c.args.session c.position_of-position.ensures c.requires.may_serve.session) c.index_mut-locker.ensures.value c.make_room.ensures.standing c.args.resource (is_granted c.in_ok-status.status) c.index_mut-locker-2.result.now c.hold.new.self _ c.index_mut-locker-2.ensures.value (subst (λ (b : Bool). standing_of c.hold.new.self ≡ standing_after_asking b c.args.resource (standing_of c.index_mut-locker-2.result.now)) (sym (ap is_granted c.in-Granted.is)) c.hold.ensures) refl)
    c.in_ok-status.ensures.ok
    (search rules) refl refl c.in_ok-status.ensures.rows c.requires.may_serve.ready

pub returns-in-Waiting-clause-asked : goal.returns-in-Waiting-clause-asked
returns-in-Waiting-clause-asked c =
    has-asked c.args.self.now c.args.session c.args.resource c.args.mode (is_granted c.in_ok-status.status) _ c.requires.may_serve.whole (within c.args.self.now c.args.session c.position_of-position.ensures c.requires.may_serve.session) c.requires.can.idle c.in_ok-status.ensures.granted
    (twice-own c.args.self.now c.args.session c.index_mut-locker.result.now c.make_room.new.self c.requires.may_serve.whole (within c.args.self.now c.args.session c.position_of-position.ensures c.requires.may_serve.session) c.index_mut-locker.ensures.value c.make_room.ensures.standing c.args.resource (is_granted c.in_ok-status.status) c.index_mut-locker-2.result.now c.wait_for.new.self _ c.index_mut-locker-2.ensures.value (subst (λ (b : Bool). standing_of c.wait_for.new.self ≡ standing_after_asking b c.args.resource (standing_of c.index_mut-locker-2.result.now)) (sym (ap is_granted c.in-Waiting.is)) c.wait_for.ensures) refl)
    c.in_ok-status.ensures.ok refl

pub returns-in-Waiting-clause-kept : goal.returns-in-Waiting-clause-kept
returns-in-Waiting-clause-kept c =
    asked-keeps c.args.self.now c.args.session c.args.resource c.args.mode (is_granted c.in_ok-status.status) _ c.requires.may_serve.whole (within c.args.self.now c.args.session c.position_of-position.ensures c.requires.may_serve.session) c.requires.can.idle c.in_ok-status.ensures.granted
    (twice-own c.args.self.now c.args.session c.index_mut-locker.result.now c.make_room.new.self c.requires.may_serve.whole (within c.args.self.now c.args.session c.position_of-position.ensures c.requires.may_serve.session) c.index_mut-locker.ensures.value c.make_room.ensures.standing c.args.resource (is_granted c.in_ok-status.status) c.index_mut-locker-2.result.now c.wait_for.new.self _ c.index_mut-locker-2.ensures.value (subst (λ (b : Bool). standing_of c.wait_for.new.self ≡ standing_after_asking b c.args.resource (standing_of c.index_mut-locker-2.result.now)) (sym (ap is_granted c.in-Waiting.is)) c.wait_for.ensures) refl)
    c.in_ok-status.ensures.ok
    (search rules) refl refl c.in_ok-status.ensures.rows c.requires.may_serve.ready

pub hold-requires-clause-new : goal.hold-requires-clause-new
hold-requires-clause-new c =
    mid-held c.args.self.now c.args.session c.index_mut-locker.result.now c.make_room.new.self c.requires.may_serve.whole (within c.args.self.now c.args.session c.position_of-position.ensures c.requires.may_serve.session) c.index_mut-locker.ensures.value c.make_room.ensures.standing c.args.resource c.index_mut-locker-2.result.now c.index_mut-locker-2.ensures.value
    ∙ (held-locker c.args.session c.args.resource c.args.self.now c.requires.may_serve.whole ∙ c.requires.can.new)

pub wait_for-requires-clause-kind : goal.wait_for-requires-clause-kind
wait_for-requires-clause-kind c =
    mid-held c.args.self.now c.args.session c.index_mut-locker.result.now c.make_room.new.self c.requires.may_serve.whole (within c.args.self.now c.args.session c.position_of-position.ensures c.requires.may_serve.session) c.index_mut-locker.ensures.value c.make_room.ensures.standing c.args.resource c.index_mut-locker-2.result.now c.index_mut-locker-2.ensures.value
    ∙ (held-locker c.args.session c.args.resource c.args.self.now c.requires.may_serve.whole ∙ c.requires.can.new)

pub hold-requires-clause-under : goal.hold-requires-clause-under
hold-requires-clause-under c = mid-under c.args.self.now c.args.session c.index_mut-locker.result.now c.make_room.new.self c.requires.may_serve.whole (within c.args.self.now c.args.session c.position_of-position.ensures c.requires.may_serve.session) c.index_mut-locker.ensures.value c.make_room.ensures.standing c.args.resource c.index_mut-locker-2.result.now c.index_mut-locker-2.ensures.value c.requires.can.under

pub wait_for-requires-clause-under : goal.wait_for-requires-clause-under
wait_for-requires-clause-under c = mid-under c.args.self.now c.args.session c.index_mut-locker.result.now c.make_room.new.self c.requires.may_serve.whole (within c.args.self.now c.args.session c.position_of-position.ensures c.requires.may_serve.session) c.index_mut-locker.ensures.value c.make_room.ensures.standing c.args.resource c.index_mut-locker-2.result.now c.index_mut-locker-2.ensures.value c.requires.can.under

pub returns-in_err-make_room-clause-waits_ended : goal.returns-in_err-make_room-clause-waits_ended
returns-in_err-make_room-clause-waits_ended c = list-own c.args.session c.args.self.now.lockers.items c.make_room.new.self c.args.self.now.ended (within c.args.self.now c.args.session c.position_of-position.ensures c.requires.may_serve.session).session

pub returns-in_err-status-clause-waits_ended : goal.returns-in_err-status-clause-waits_ended
returns-in_err-status-clause-waits_ended c = list-own c.args.session c.args.self.now.lockers.items c.make_room.new.self c.args.self.now.ended (within c.args.self.now c.args.session c.position_of-position.ensures c.requires.may_serve.session).session

pub returns-in-Granted-clause-waits_ended : goal.returns-in-Granted-clause-waits_ended
returns-in-Granted-clause-waits_ended c = list-twice c.args.session c.args.self.now.lockers.items c.make_room.new.self c.hold.new.self c.args.self.now.ended (within c.args.self.now c.args.session c.position_of-position.ensures c.requires.may_serve.session).session

pub returns-in-Waiting-clause-waits_ended : goal.returns-in-Waiting-clause-waits_ended
returns-in-Waiting-clause-waits_ended c = list-twice c.args.session c.args.self.now.lockers.items c.make_room.new.self c.wait_for.new.self c.args.self.now.ended (within c.args.self.now c.args.session c.position_of-position.ensures c.requires.may_serve.session).session
