use Rattle.std.proofs.Common.{◌≡◌, ℕ, List, refl, sym, ap, arith, subst, rules}
use Rattle.lock_table.specs.declared.lockers.Locker.{Locker}
use Rattle.lock_table.specs.inner.Blocking.{IsSizedFor}
use Rattle.lock_table.specs.inner.Lockers.{Standing, no_standing, standings_of, standing_at}
use Rattle.lock_table.proofs.LockerStandings.{none-push}
use Rattle.lock_table.proofs.RowsOfTheTable.{ready-new}
use Rattle.lock_table.proofs.table.LockTable.new.Goals as goal

pub loop-locker-preserved : goal.loop-locker-preserved
loop-locker-preserved c =
    let k = c.loop-locker.invariant in
    record {
      long = omega (arith, c.in_ok-push.ensures.len, k.long);
      none = subst (λ (ws : List Locker). (s : ℕ) → standing_at s (standings_of ws) ≡ no_standing) (sym {A = List Locker} c.in_ok-push.ensures.items) (none-push c.loop-locker.lockers.items c.new-in-loop-locker.result k.none c.new-in-loop-locker.ensures);
    }

pub returns-clause-shows : goal.returns-clause-shows
returns-clause-shows c = record {
  count = refl;
  transactions = λ s. ap (λ (x : Standing). x.transaction) (c.loop-locker.invariant.none s);
  views = search rules;
}

pub returns-clause-ready : goal.returns-clause-ready
returns-clause-ready c =
    let ready = c.in_ok-waits.ensures.ready in
    ready-new _ (omega (arith, ready.sessions, c.loop-locker.invariant.long)) (omega (arith, c.in_ok-ended.ensures.sized, c.loop-locker.invariant.long)) (subst (λ (n : ℕ). IsSizedFor n c.in_ok-waits.waits) (sym ready.sessions) ready) c.in_ok-waits.ensures.pairs c.in_ok-waits.ensures.numbers c.loop-locker.invariant.none
