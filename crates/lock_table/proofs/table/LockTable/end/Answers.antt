use Rattle.std.proofs.Common.{ap, rules, refl, None, arith}
use Rattle.std.specs.Vec.{with_item}
use Rattle.lock_table.specs.declared.lockers.Locker.{Locker}
use Rattle.lock_table.specs.declared.table.LockTable.{LockTable}
use Rattle.lock_table.specs.inner.Lockers.{standing_of}
use Rattle.lock_table.proofs.Asking.{session-on, within}
use Rattle.lock_table.proofs.BeginAndEnd.{few-at, told-whole, transaction-each, has-given_up}
use Rattle.lock_table.proofs.RowsOfTheTable.{ready-numbered}
use Rattle.lock_table.proofs.EndedWaits.{list-on, list-own}
use Rattle.lock_table.proofs.table.LockTable.end.Goals as goal

pub returns-clause-few : goal.returns-clause-few
returns-clause-few c = omega (arith, few-at c.args.self.now.lockers.items c.args.session, c.give_back_all-locks.ensures.locks)

pub returns-clause-ended : goal.returns-clause-ended
returns-clause-ended c =
    let f = c.give_back_all-locks.new.self in
    let s = c.args.session in
    let locker = c.index_mut-locker.result.now in
    let new = c.end.new.self in
    let is = c.end.ensures in
    let e : LockTable = record { count = f.count; lockers = with_item f.lockers c.position_of.result new; cells = f.cells; waits = c.set_number.new.waits; ended = f.ended } in
    let lt = within f s c.position_of.ensures (session-on c.give_back_all-locks.ensures.kept c.requires.may_serve.session) in
    let at = c.index_mut-locker.ensures.value in
    let w = c.give_back_all-locks.ensures.kept.whole in
    has-given_up (λ o. None) s c.args.self.now f e c.requires.may_serve.whole c.requires.idle c.give_back_all-locks.ensures.back c.give_back_all-locks.ensures.none refl (λ q. refl)
    (transaction-each f s None locker new e w lt at (ap standing_of is) (ap (λ (x : Locker). x.held) is) (ap (λ (x : Locker). x.wanted) is) refl refl)

pub returns-clause-kept : goal.returns-clause-kept
returns-clause-kept c =
    let f = c.give_back_all-locks.new.self in
    let s = c.args.session in
    let locker = c.index_mut-locker.result.now in
    let new = c.end.new.self in
    let is = c.end.ensures in
    let e : LockTable = record { count = f.count; lockers = with_item f.lockers c.position_of.result new; cells = f.cells; waits = c.set_number.new.waits; ended = f.ended } in
    let kept = c.give_back_all-locks.ensures.kept in
    let lt = within f s c.position_of.ensures (session-on kept c.requires.may_serve.session) in
    let at = c.index_mut-locker.ensures.value in
    let number = c.set_number.ensures in
    let whole = told-whole f s None locker new e kept.whole lt at (ap standing_of is) (ap (λ (x : Locker). x.held) is) (ap (λ (x : Locker). x.wanted) is) refl refl in
    record {
      whole = whole;
      lockers = search rules;
      ready = ready-numbered f e s 0 None refl kept.whole whole (λ q. refl) (search rules) refl (transaction-each f s None locker new e kept.whole lt at (ap standing_of is) (ap (λ (x : Locker). x.held) is) (ap (λ (x : Locker). x.wanted) is) refl refl)
          number.rows number.len number.numbers kept.ready;
    }

pub returns-clause-waits_ended : goal.returns-clause-waits_ended
returns-clause-waits_ended c =
    let f = c.give_back_all-locks.new.self in
    let s = c.args.session in
    let here = within f s c.position_of.ensures (session-on c.give_back_all-locks.ensures.kept c.requires.may_serve.session) in
    list-on s c.args.self.now.lockers.items f.lockers.items _ c.args.self.now.ended f.ended _ c.give_back_all-locks.ensures.waits_ended (list-own s f.lockers.items c.end.new.self f.ended here.session)
