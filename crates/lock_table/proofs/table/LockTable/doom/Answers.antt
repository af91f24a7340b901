use Rattle.std.proofs.Common.{ap, rules, refl}
use Rattle.std.specs.Vec.{with_item}
use Rattle.lock_table.specs.declared.lockers.Locker.{Locker}
use Rattle.lock_table.specs.declared.table.LockTable.{LockTable}
use Rattle.lock_rules.specs.Waits.{doom}
use Rattle.lock_table.specs.inner.Lockers.{standing_of}
use Rattle.lock_table.proofs.Asking.{session-on, within}
use Rattle.lock_table.proofs.BeginAndEnd.{told-whole, transaction-each, has-doomed, changed-each}
use Rattle.lock_table.proofs.RowsOfTheTable.{ready-changed, doom-number}
use Rattle.lock_table.proofs.EndedWaits.{list-on, list-wanted}
use Rattle.lock_table.proofs.table.LockTable.doom.Goals as goal

pub returns-clause-doomed : goal.returns-clause-doomed
returns-clause-doomed c =
    let f = c.end_wait.new.self in
    let s = c.args.session in
    let locker = c.index_mut-locker.result.now in
    let new = c.doom.new.self in
    let is = c.doom.ensures in
    let e : LockTable = record { count = f.count; lockers = with_item f.lockers c.position_of.result new; cells = f.cells; waits = f.waits; ended = f.ended } in
    let lt = within f s c.position_of.ensures (session-on c.end_wait.ensures.kept c.requires.may_serve.session) in
    let at = c.index_mut-locker.ensures.value in
    has-doomed s c.args.self.now f e c.end_wait.ensures.cancelled refl (λ q. refl)
    (changed-each doom f s locker (doom locker.transaction) lt at refl e (transaction-each f s (doom locker.transaction) locker new e c.end_wait.ensures.kept.whole lt at (ap standing_of is) (ap (λ (x : Locker). x.held) is) (ap (λ (x : Locker). x.wanted) is) refl refl))

pub returns-clause-kept : goal.returns-clause-kept
returns-clause-kept c =
    let f = c.end_wait.new.self in
    let s = c.args.session in
    let locker = c.index_mut-locker.result.now in
    let new = c.doom.new.self in
    let is = c.doom.ensures in
    let e : LockTable = record { count = f.count; lockers = with_item f.lockers c.position_of.result new; cells = f.cells; waits = f.waits; ended = f.ended } in
    let kept = c.end_wait.ensures.kept in
    let lt = within f s c.position_of.ensures (session-on kept c.requires.may_serve.session) in
    let at = c.index_mut-locker.ensures.value in
    let whole = told-whole f s (doom locker.transaction) locker new e kept.whole lt at (ap standing_of is) (ap (λ (x : Locker). x.held) is) (ap (λ (x : Locker). x.wanted) is) refl refl in
    record {
      whole = whole;
      lockers = search rules;
      ready = ready-changed doom doom-number f e s kept.whole whole (λ q. refl) (search rules) refl
          (changed-each doom f s locker (doom locker.transaction) lt at refl e (transaction-each f s (doom locker.transaction) locker new e kept.whole lt at (ap standing_of is) (ap (λ (x : Locker). x.held) is) (ap (λ (x : Locker). x.wanted) is) refl refl)) refl kept.ready;
    }

pub returns-clause-waits_ended : goal.returns-clause-waits_ended
returns-clause-waits_ended c =
    let d = c.args.self.now in
    let f = c.end_wait.new.self in
    let s = c.args.session in
    let here = within f s c.position_of.ensures (session-on c.end_wait.ensures.kept c.requires.may_serve.session) in
    list-on 0 d.lockers.items f.lockers.items _ d.ended f.ended _ c.end_wait.ensures.waits_ended (list-wanted 0 s f.lockers.items c.index_mut-locker.result.now c.doom.new.self f.ended here c.index_mut-locker.ensures.value (ap (λ (x : Locker). x.wanted) c.doom.ensures))
