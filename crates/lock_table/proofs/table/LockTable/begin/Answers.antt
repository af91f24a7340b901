use Rattle.std.proofs.Common.{rules, refl, Option, Some, false, ◌+◌, ap}
use Rattle.std.specs.Vec.{with_item}
use Rattle.lock_rules.specs.declared.calls.Transaction.{Transaction}
use Rattle.lock_table.specs.declared.table.LockTable.{LockTable}
use Rattle.lock_table.specs.declared.lockers.Locker.{Locker}
use Rattle.lock_table.specs.inner.Lockers.{standing_of}
use Rattle.lock_table.proofs.Asking.{within}
use Rattle.lock_table.proofs.BeginAndEnd.{told-whole, transaction-each, has-begun}
use Rattle.lock_table.proofs.RowsOfTheTable.{ready-numbered}
use Rattle.lock_table.proofs.EndedWaits.{list-own}
use Rattle.lock_table.proofs.table.LockTable.begin.Goals as goal

pub returns-clause-begun : goal.returns-clause-begun
returns-clause-begun c =
    let d = c.args.self.now in
    let new = c.begin.ensures in
    has-begun d c.args.session (Some (record { number = d.count + 1; doomed = false })) c.index_mut-locker.result.now c.begin.new.self _ c.requires.may_serve.whole (within d c.args.session c.position_of.ensures c.requires.may_serve.session) c.index_mut-locker.ensures.value
    (ap standing_of new) (ap (λ (x : Locker). x.held) new) (ap (λ (x : Locker). x.wanted) new) refl refl refl refl

pub returns-clause-kept : goal.returns-clause-kept
returns-clause-kept c =
    let d = c.args.self.now in
    let s = c.args.session in
    let o : Option Transaction = Some (record { number = d.count + 1; doomed = false }) in
    let locker = c.index_mut-locker.result.now in
    let new = c.begin.new.self in
    let is = c.begin.ensures in
    let lt = within d s c.position_of.ensures c.requires.may_serve.session in
    let at = c.index_mut-locker.ensures.value in
    let number = c.set_number.ensures in
    let e : LockTable = record { count = d.count + 1; lockers = with_item d.lockers c.position_of.result new; cells = d.cells; waits = c.set_number.new.waits; ended = d.ended } in
    let whole = told-whole d s o locker new e c.requires.may_serve.whole lt at (ap standing_of is) (ap (λ (x : Locker). x.held) is) (ap (λ (x : Locker). x.wanted) is) refl refl in
    record {
      whole = whole;
      lockers = search rules;
      ready = ready-numbered d e s (d.count + 1) o refl c.requires.may_serve.whole whole (λ q. refl) (search rules) refl (transaction-each d s o locker new e c.requires.may_serve.whole lt at (ap standing_of is) (ap (λ (x : Locker). x.held) is) (ap (λ (x : Locker). x.wanted) is) refl refl)
          number.rows number.len number.numbers c.requires.may_serve.ready;
    }

pub returns-clause-waits_ended : goal.returns-clause-waits_ended
returns-clause-waits_ended c =
    let d = c.args.self.now in
    list-own c.args.session d.lockers.items c.begin.new.self d.ended (within d c.args.session c.position_of.ensures c.requires.may_serve.session).session
