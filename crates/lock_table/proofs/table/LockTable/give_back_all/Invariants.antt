use Rattle.std.proofs.Common.{◌≡◌, ◌+◌, length}
use Rattle.lock_table.specs.Changes.{standing, DoesKeep, HasGivenBackAll, HasNotedEnded}
use Rattle.lock_table.proofs.table.LockTable.give_back_all.Given as goal

abbrev pub invariant-loop-lock : goal.invariant-loop-lock
invariant-loop-lock l = record {
  back : HasGivenBackAll l.session l.initial.self l.self;
  kept : DoesKeep l.initial.self l.self;
  waits_ended : HasNotedEnded l.session l.initial.self l.self;
  left : length (standing l.session l.self).held + l._lock ≡ l.locks;
}
