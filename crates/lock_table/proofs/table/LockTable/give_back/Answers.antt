use Rattle.std.proofs.Common.{rules, arith, length, refl, ap, sym, ◌∙◌}
use Rattle.lock_table.proofs.Asking.{within}
use Rattle.lock_table.proofs.GivingAllBack.{back-agree, back-gives, back-keeps}
use Rattle.lock_table.proofs.SessionsInRange.{numbered-whole}
use Rattle.lock_table.specs.inner.Requests.{wanted_in}
use Rattle.lock_table.specs.inner.Lockers.{Standing}
use Rattle.lock_table.proofs.LockerStandings.{standing-here}
use Rattle.lock_table.proofs.RowsOfTheTable.{written-at}
use Rattle.lock_table.proofs.EndedWaits.{list-freed}
use Rattle.lock_table.proofs.table.LockTable.give_back.Goals as goal

pub free_at-requires-clause-agree : goal.free_at-requires-clause-agree
free_at-requires-clause-agree c = back-agree c.args.self.now c.args.session c.in-Some.last.resource c.index_mut-locker.result.now c.release_last.new.self c.requires.may_serve.whole (within c.args.self.now c.args.session c.position_of.ensures c.requires.may_serve.session) c.index_mut-locker.ensures.value c.in-Some.ensures.some c.in-Some.ensures.transaction c.in-Some.ensures.wanted c.requires.idle

pub returns-in-Some-clause-back : goal.returns-in-Some-clause-back
returns-in-Some-clause-back c =
    back-gives c.args.self.now c.args.session c.in-Some.last.resource c.index_mut-locker.result.now c.release_last.new.self c.requires.may_serve.whole (within c.args.self.now c.args.session c.position_of.ensures c.requires.may_serve.session) c.index_mut-locker.ensures.value c.in-Some.ensures.some c.in-Some.ensures.transaction c.in-Some.ensures.wanted c.requires.idle
    _ refl c.free_at.ensures.cells c.free_at.ensures.agree c.free_at.ensures.granted

pub returns-in-Some-clause-kept : goal.returns-in-Some-clause-kept
returns-in-Some-clause-kept c =
    back-keeps c.args.self.now c.args.session c.in-Some.last.resource c.index_mut-locker.result.now c.release_last.new.self c.requires.may_serve.whole (within c.args.self.now c.args.session c.position_of.ensures c.requires.may_serve.session) c.index_mut-locker.ensures.value c.in-Some.ensures.some c.in-Some.ensures.transaction c.in-Some.ensures.wanted c.requires.idle
    _ refl c.free_at.ensures.cells c.free_at.ensures.agree c.free_at.ensures.granted
    (search rules) c.free_at.ensures.waits_ended.sized c.free_at.ensures.rows c.requires.may_serve.ready

pub free_at-requires-clause-within : goal.free_at-requires-clause-within
free_at-requires-clause-within c = numbered-whole c.args.self.now c.args.self.now.waits.rows.sessions (omega (arith, c.requires.may_serve.ready.long, c.args.self.now.lockers.ok.0)) c.requires.may_serve.whole c.in-Some.last.resource

pub returns-in-Some-clause-waits_ended : goal.returns-in-Some-clause-waits_ended
returns-in-Some-clause-waits_ended c =
    let d = c.args.self.now in
    let here = within d c.args.session c.position_of.ensures c.requires.may_serve.session in
    let idle = ap wanted_in c.in-Some.ensures.wanted ∙ (ap (λ (x : Standing). x.wanted) (sym (standing-here d.lockers.items c.args.session c.index_mut-locker.result.now here c.index_mut-locker.ensures.value)) ∙ c.requires.idle) in
    list-freed c.args.session d.lockers.items c.release_last.new.self _ d.ended _ here idle c.free_at.ensures.waits_ended

pub free_at-requires-clause-written : goal.free_at-requires-clause-written
free_at-requires-clause-written c = written-at c.args.self.now c.in-Some.last.resource c.requires.may_serve.whole c.requires.may_serve.ready

pub returns-in_default-clause-back : goal.returns-in_default-clause-back
returns-in_default-clause-back c =
    let d = c.args.self.now in
    let here = within d c.args.session c.position_of.ensures c.requires.may_serve.session in
    absurd (let none = ap (λ (x : Standing). length x.held) (standing-here d.lockers.items c.args.session c.index_mut-locker.result.now here c.index_mut-locker.ensures.value) ∙ ap length c.in_default.ensures.none in omega (arith, none, c.requires.holds))

pub returns-in_default-clause-waits_ended : goal.returns-in_default-clause-waits_ended
returns-in_default-clause-waits_ended c =
    let d = c.args.self.now in
    let here = within d c.args.session c.position_of.ensures c.requires.may_serve.session in
    absurd (let none = ap (λ (x : Standing). length x.held) (standing-here d.lockers.items c.args.session c.index_mut-locker.result.now here c.index_mut-locker.ensures.value) ∙ ap length c.in_default.ensures.none in omega (arith, none, c.requires.holds))

pub returns-in_default-clause-kept : goal.returns-in_default-clause-kept
returns-in_default-clause-kept c =
    let d = c.args.self.now in
    let here = within d c.args.session c.position_of.ensures c.requires.may_serve.session in
    absurd (let none = ap (λ (x : Standing). length x.held) (standing-here d.lockers.items c.args.session c.index_mut-locker.result.now here c.index_mut-locker.ensures.value) ∙ ap length c.in_default.ensures.none in omega (arith, none, c.requires.holds))
