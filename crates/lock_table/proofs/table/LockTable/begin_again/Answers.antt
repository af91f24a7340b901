use Rattle.std.proofs.Common.{◌∙◌, ap, rules, refl, arith}
use Rattle.std.specs.Vec.{with_item}
use Rattle.lock_rules.specs.Step.{restarted}
use Rattle.lock_table.specs.declared.lockers.Locker.{Locker}
use Rattle.lock_table.specs.declared.table.LockTable.{LockTable}
use Rattle.lock_table.specs.inner.Lockers.{standing_of}
use Rattle.lock_table.proofs.Asking.{session-on, within}
use Rattle.lock_table.proofs.BeginAndEnd.{few-at, told-whole, transaction-each, has-given_up, changed-each, changed-there}
use Rattle.lock_table.proofs.RowsOfTheTable.{ready-changed, restart-number}
use Rattle.lock_table.proofs.EndedWaits.{list-on, list-own}
use Rattle.lock_table.proofs.table.LockTable.begin_again.Goals as goal

pub returns-clause-few : goal.returns-clause-few
returns-clause-few c = omega (arith, few-at c.args.self.now.lockers.items c.args.session, c.give_back_all-locks.ensures.locks)

pub returns-clause-restarted : goal.returns-clause-restarted
returns-clause-restarted c =
    let f = c.give_back_all-locks.new.self in
    let s = c.args.session in
    let locker = c.index_mut-locker.result.now in
    let new = c.restart.new.self in
    let is = c.restart.ensures in
    let e : LockTable = record { count = f.count; lockers = with_item f.lockers c.position_of.result new; cells = f.cells; waits = f.waits; ended = f.ended } in
    let lt = within f s c.position_of.ensures (session-on c.give_back_all-locks.ensures.kept c.requires.may_serve.session) in
    let at = c.index_mut-locker.ensures.value in
    let w = c.give_back_all-locks.ensures.kept.whole in
    let each = changed-each restarted f s locker (restarted locker.transaction) lt at refl e
    (transaction-each f s (restarted locker.transaction) locker new e w lt at (ap standing_of is) (ap (λ (x : Locker). x.held) is) (ap (λ (x : Locker). x.wanted) is) refl refl) in
    has-given_up restarted s c.args.self.now f e c.requires.may_serve.whole c.requires.idle c.give_back_all-locks.ensures.back c.give_back_all-locks.ensures.none refl (λ q. refl) (λ u. each u ∙ changed-there restarted f s u)

pub returns-clause-kept : goal.returns-clause-kept
returns-clause-kept c =
    let f = c.give_back_all-locks.new.self in
    let s = c.args.session in
    let locker = c.index_mut-locker.result.now in
    let new = c.restart.new.self in
    let is = c.restart.ensures in
    let e : LockTable = record { count = f.count; lockers = with_item f.lockers c.position_of.result new; cells = f.cells; waits = f.waits; ended = f.ended } in
    let kept = c.give_back_all-locks.ensures.kept in
    let lt = within f s c.position_of.ensures (session-on kept c.requires.may_serve.session) in
    let at = c.index_mut-locker.ensures.value in
    let whole = told-whole f s (restarted locker.transaction) locker new e kept.whole lt at (ap standing_of is) (ap (λ (x : Locker). x.held) is) (ap (λ (x : Locker). x.wanted) is) refl refl in
    record {
      whole = whole;
      lockers = search rules;
      ready = ready-changed restarted restart-number f e s kept.whole whole (λ q. refl) (search rules) refl
          (changed-each restarted f s locker (restarted locker.transaction) lt at refl e (transaction-each f s (restarted locker.transaction) locker new e kept.whole lt at (ap standing_of is) (ap (λ (x : Locker). x.held) is) (ap (λ (x : Locker). x.wanted) is) refl refl)) refl kept.ready;
    }

pub returns-clause-waits_ended : goal.returns-clause-waits_ended
returns-clause-waits_ended c =
    let f = c.give_back_all-locks.new.self in
    let s = c.args.session in
    let here = within f s c.position_of.ensures (session-on c.give_back_all-locks.ensures.kept c.requires.may_serve.session) in
    list-on s c.args.self.now.lockers.items f.lockers.items _ c.args.self.now.ended f.ended _ c.give_back_all-locks.ensures.waits_ended (list-own s f.lockers.items c.restart.new.self f.ended here.session)
