use Rattle.lock_table.specs.Changes.{IsSameSeen, DoesKeep}
use Rattle.lock_table.proofs.table.LockTable.shrink_lockers.Given as goal

abbrev pub invariant-loop-session : goal.invariant-loop-session
invariant-loop-session l = record {
  same : IsSameSeen l.initial.self l.self;
  kept : DoesKeep l.initial.self l.self;
}
