use Rattle.std.proofs.Common.{rules, arith, refl, sym, ◌∙◌, ap, is_some}
use Rattle.lock_table.specs.inner.Lockers.{Standing}
use Rattle.lock_table.proofs.LockerStandings.{standing-here}
use Rattle.lock_table.proofs.Asking.{within}
use Rattle.lock_table.proofs.Agreement.{standings-same}
use Rattle.lock_table.proofs.BeginAndEnd.{cancel-agree, cancelled-same, has-cancelled, cancel-keeps, same-seen, same-cancelled, same-whole}
use Rattle.lock_table.proofs.SessionsInRange.{numbered-whole}
use Rattle.lock_table.proofs.RowsOfTheTable.{ready-same, request-there, written-at}
use Rattle.lock_table.specs.inner.Requests.{wanted_in}
use Rattle.lock_table.proofs.EndedWaits.{list-own, list-freed}
use Rattle.lock_table.proofs.table.LockTable.cancel.Goals as goal

pub free_at-requires-clause-agree : goal.free_at-requires-clause-agree
free_at-requires-clause-agree c =
    cancel-agree c.args.self.now c.args.session c.in-Some.resource c.index_mut-locker.result.now c.cancel.new.self c.requires.may_serve.whole (within c.args.self.now c.args.session c.position_of.ensures c.requires.may_serve.session) c.index_mut-locker.ensures.value
    (sym c.in-Some.ensures.resource) c.in-Some.ensures.transaction c.in-Some.ensures.held c.in-Some.ensures.none

pub returns-clause-cancelled : goal.returns-clause-cancelled
returns-clause-cancelled c =
    has-cancelled c.args.self.now c.args.session c.in-Some.resource c.index_mut-locker.result.now c.cancel.new.self c.requires.may_serve.whole (within c.args.self.now c.args.session c.position_of.ensures c.requires.may_serve.session) c.index_mut-locker.ensures.value
    (sym c.in-Some.ensures.resource) c.in-Some.ensures.transaction c.in-Some.ensures.held c.in-Some.ensures.none
    _ c.free_at.ensures.cells c.free_at.ensures.agree c.free_at.ensures.granted refl

pub returns-clause-kept : goal.returns-clause-kept
returns-clause-kept c =
    cancel-keeps c.args.self.now c.args.session c.in-Some.resource c.index_mut-locker.result.now c.cancel.new.self c.requires.may_serve.whole (within c.args.self.now c.args.session c.position_of.ensures c.requires.may_serve.session) c.index_mut-locker.ensures.value
    (sym c.in-Some.ensures.resource) c.in-Some.ensures.transaction c.in-Some.ensures.held c.in-Some.ensures.none
    _ c.free_at.ensures.cells c.free_at.ensures.agree c.free_at.ensures.granted
    (search rules) refl c.free_at.ensures.waits_ended.sized c.free_at.ensures.rows c.requires.may_serve.ready

pub free_at-requires-clause-within : goal.free_at-requires-clause-within
free_at-requires-clause-within c = numbered-whole c.args.self.now c.args.self.now.waits.rows.sessions (omega (arith, c.requires.may_serve.ready.long, c.args.self.now.lockers.ok.0)) c.requires.may_serve.whole c.in-Some.resource

pub returns-in_default-clause-cancelled : goal.returns-in_default-clause-cancelled
returns-in_default-clause-cancelled c =
    let d = c.args.self.now in
    let s = c.args.session in
    let locker = c.index_mut-locker.result.now in
    let lt = within d s c.position_of.ensures c.requires.may_serve.session in
    let same = cancelled-same locker c.cancel.new.self c.in_default.ensures.transaction c.in_default.ensures.held c.in_default.ensures.none (sym c.in_default.ensures.resource) in
    let idle = ap (λ (x : Standing). x.wanted) (standing-here d.lockers.items s locker lt c.index_mut-locker.ensures.value) ∙ sym c.in_default.ensures.resource in
    same-cancelled s d _ c.requires.may_serve.whole idle refl (standings-same d.lockers.items s locker c.cancel.new.self lt c.index_mut-locker.ensures.value same) refl

pub returns-in_default-clause-kept : goal.returns-in_default-clause-kept
returns-in_default-clause-kept c =
    let d = c.args.self.now in
    let s = c.args.session in
    let locker = c.index_mut-locker.result.now in
    let lt = within d s c.position_of.ensures c.requires.may_serve.session in
    let same = cancelled-same locker c.cancel.new.self c.in_default.ensures.transaction c.in_default.ensures.held c.in_default.ensures.none (sym c.in_default.ensures.resource) in
    let lockers = standings-same d.lockers.items s locker c.cancel.new.self lt c.index_mut-locker.ensures.value same in
    record {
      whole = same-whole d _ c.requires.may_serve.whole lockers refl;
      lockers = search rules;
      ready = ready-same d _ (same-seen d _ refl lockers refl refl) (search rules) refl c.requires.may_serve.ready;
    }

pub returns-clause-waited : goal.returns-clause-waited
returns-clause-waited c =
    let d = c.args.self.now in
    let here = within d c.args.session c.position_of.ensures c.requires.may_serve.session in
    sym (ap (λ (x : Standing). is_some x.wanted) (standing-here d.lockers.items c.args.session c.index_mut-locker.result.now here c.index_mut-locker.ensures.value) ∙ ap is_some (sym c.in-Some.ensures.resource))

pub returns-in_default-clause-waited : goal.returns-in_default-clause-waited
returns-in_default-clause-waited c =
    let d = c.args.self.now in
    let here = within d c.args.session c.position_of.ensures c.requires.may_serve.session in
    sym (ap (λ (x : Standing). is_some x.wanted) (standing-here d.lockers.items c.args.session c.index_mut-locker.result.now here c.index_mut-locker.ensures.value) ∙ ap is_some (sym c.in_default.ensures.resource))

pub returns-clause-waits_ended : goal.returns-clause-waits_ended
returns-clause-waits_ended c =
    let d = c.args.self.now in
    list-freed c.args.session d.lockers.items c.cancel.new.self _ d.ended _ (within d c.args.session c.position_of.ensures c.requires.may_serve.session) (ap wanted_in c.in-Some.ensures.none) c.free_at.ensures.waits_ended

pub returns-in_default-clause-waits_ended : goal.returns-in_default-clause-waits_ended
returns-in_default-clause-waits_ended c =
    let d = c.args.self.now in
    list-own c.args.session d.lockers.items c.cancel.new.self d.ended (within d c.args.session c.position_of.ensures c.requires.may_serve.session).session

pub free_at-requires-clause-claimed : goal.free_at-requires-clause-claimed
free_at-requires-clause-claimed c =
    let d = c.args.self.now in
    let here = within d c.args.session c.position_of.ensures c.requires.may_serve.session in
    request-there c.args.session c.in-Some.resource d c.requires.may_serve.whole (ap (λ (x : Standing). x.wanted) (standing-here d.lockers.items c.args.session c.index_mut-locker.result.now here c.index_mut-locker.ensures.value) ∙ sym c.in-Some.ensures.resource)

pub free_at-requires-clause-written : goal.free_at-requires-clause-written
free_at-requires-clause-written c = written-at c.args.self.now c.in-Some.resource c.requires.may_serve.whole c.requires.may_serve.ready
