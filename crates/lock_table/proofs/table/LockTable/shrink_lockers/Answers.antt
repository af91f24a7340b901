use Rattle.std.proofs.Common.{refl}
use Rattle.lock_table.proofs.Agreement.{keeps-on, same-on}
use Rattle.lock_table.proofs.table.LockTable.shrink_lockers.Goals as goal

pub loop-session-init : goal.loop-session-init
loop-session-init c = record {
  same = record { count = refl; standings_same = refl; views = λ q. refl; ended = refl };
  kept = record { whole = c.requires.whole; lockers = refl; ready = c.requires.ready };
}

pub loop-session-preserved : goal.loop-session-preserved
loop-session-preserved c =
    let k = c.loop-session.invariant in record {
      same = same-on k.same c.shrink_locker.ensures.same;
      kept = keeps-on k.kept c.shrink_locker.ensures.kept;
    }
