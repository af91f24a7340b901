use Rattle.std.proofs.Common.{rules, arith, refl, ap, sym, ◌∙◌}
use Rattle.session_locks.specs.LockLists.{has_child}
use Rattle.lock_table.specs.inner.Requests.{wanted_in}
use Rattle.lock_table.specs.inner.Lockers.{Standing}
use Rattle.lock_table.proofs.LockerStandings.{standing-here}
use Rattle.lock_table.proofs.Asking.{within}
use Rattle.lock_table.proofs.GivingUp.{gives-lock, freed-agree, has-freed, freed-keeps}
use Rattle.lock_table.proofs.SessionsInRange.{numbered-whole}
use Rattle.lock_table.proofs.RowsOfTheTable.{written-at}
use Rattle.lock_table.proofs.EndedWaits.{list-freed}
use Rattle.lock_table.proofs.table.LockTable.release.Goals as goal

pub free_at-requires-clause-agree : goal.free_at-requires-clause-agree
free_at-requires-clause-agree c =
    freed-agree c.args.self.now _ c.args.session c.args.resource c.index_mut-locker.result.now c.release.new.self (within c.args.self.now c.args.session c.position_of.ensures c.requires.may_serve.session) c.index_mut-locker.ensures.value
    (gives-lock c.args.resource _ _ c.release.ensures.transaction (ap wanted_in c.release.ensures.wanted) c.release.ensures.gone c.release.ensures.others) c.requires.may_serve.whole

pub returns-clause-freed : goal.returns-clause-freed
returns-clause-freed c =
    has-freed c.args.self.now _ c.args.session c.args.resource c.index_mut-locker.result.now c.release.new.self (within c.args.self.now c.args.session c.position_of.ensures c.requires.may_serve.session) c.index_mut-locker.ensures.value
    (gives-lock c.args.resource _ _ c.release.ensures.transaction (ap wanted_in c.release.ensures.wanted) c.release.ensures.gone c.release.ensures.others) c.requires.may_serve.whole
    _ (ap wanted_in c.release.ensures.wanted ∙ (ap (λ (x : Standing). x.wanted) (sym (standing-here c.args.self.now.lockers.items c.args.session c.index_mut-locker.result.now (within c.args.self.now c.args.session c.position_of.ensures c.requires.may_serve.session) c.index_mut-locker.ensures.value)) ∙ c.requires.can.idle))
    c.free_at.ensures.cells c.free_at.ensures.agree c.free_at.ensures.granted refl

pub returns-clause-kept : goal.returns-clause-kept
returns-clause-kept c =
    freed-keeps c.args.self.now _ c.args.session c.args.resource c.index_mut-locker.result.now c.release.new.self (within c.args.self.now c.args.session c.position_of.ensures c.requires.may_serve.session) c.index_mut-locker.ensures.value
    (gives-lock c.args.resource _ _ c.release.ensures.transaction (ap wanted_in c.release.ensures.wanted) c.release.ensures.gone c.release.ensures.others) c.requires.may_serve.whole
    _ (ap wanted_in c.release.ensures.wanted ∙ (ap (λ (x : Standing). x.wanted) (sym (standing-here c.args.self.now.lockers.items c.args.session c.index_mut-locker.result.now (within c.args.self.now c.args.session c.position_of.ensures c.requires.may_serve.session) c.index_mut-locker.ensures.value)) ∙ c.requires.can.idle))
    c.free_at.ensures.cells c.free_at.ensures.agree c.free_at.ensures.granted
    (search rules) refl c.free_at.ensures.waits_ended.sized c.free_at.ensures.rows c.requires.may_serve.ready

pub free_at-requires-clause-within : goal.free_at-requires-clause-within
free_at-requires-clause-within c = numbered-whole c.args.self.now c.args.self.now.waits.rows.sessions (omega (arith, c.requires.may_serve.ready.long, c.args.self.now.lockers.ok.0)) c.requires.may_serve.whole c.args.resource

pub release-requires-clause-childless : goal.release-requires-clause-childless
release-requires-clause-childless c =
    ap (λ (x : Standing). has_child c.args.resource x.held) (sym (standing-here c.args.self.now.lockers.items c.args.session c.index_mut-locker.result.now (within c.args.self.now c.args.session c.position_of.ensures c.requires.may_serve.session) c.index_mut-locker.ensures.value))
    ∙ c.requires.can.free

pub returns-clause-waits_ended : goal.returns-clause-waits_ended
returns-clause-waits_ended c =
    let d = c.args.self.now in
    let here = within d c.args.session c.position_of.ensures c.requires.may_serve.session in
    let idle = ap wanted_in c.release.ensures.wanted ∙ (ap (λ (x : Standing). x.wanted) (sym (standing-here d.lockers.items c.args.session c.index_mut-locker.result.now here c.index_mut-locker.ensures.value)) ∙ c.requires.can.idle) in
    list-freed c.args.session d.lockers.items c.release.new.self _ d.ended _ here idle c.free_at.ensures.waits_ended

pub free_at-requires-clause-written : goal.free_at-requires-clause-written
free_at-requires-clause-written c = written-at c.args.self.now c.args.resource c.requires.may_serve.whole c.requires.may_serve.ready
