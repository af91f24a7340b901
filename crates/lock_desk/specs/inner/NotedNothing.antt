-- Internal to this crate, cited by no public contract: a log that stays as it is has noted nothing.
use Rattle.std.proofs.Common.{List, [], append-nil, refl, sym, subst}
use Rattle.lock_table.specs.Deadlocks.{Moment}
use Rattle.lock_desk.specs.Deadlocks.{AreDeadlocksTold, newest}
use Rattle.lock_desk.specs.declared.wait_counts.WaitCounts.{WaitCounts}
use Rattle.lock_desk.specs.inner.WaitCounts.{AreVictimsCounted}
use Rattle.lock_desk.specs.inner.Noting.{LogView, HasCounted, HasNoted}

-- its victims are those that were counted
pub counted-none : (c : WaitCounts) → HasCounted [] c c
counted-none c = record {
  victims = λ before few h. subst (λ (ms : List Moment). AreVictimsCounted ms c) (sym (append-nil before)) h;
  aborted = refl;
  restarted = refl;
}

-- and it tells what it told
pub noted-none : (l : LogView) → HasNoted [] l l
noted-none l = record {
  most = refl;
  told = λ before h. subst (λ (ms : List Moment). AreDeadlocksTold (newest l.most ms) l.told) (sym (append-nil before)) h;
  counted = counted-none l.counts;
}
