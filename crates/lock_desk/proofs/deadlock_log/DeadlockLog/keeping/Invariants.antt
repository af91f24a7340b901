use Rattle.std.proofs.Common.{◌≡◌, ◌≤◌, length}
use Rattle.std.specs.Prelude.{vec_capacity}
use Rattle.std.specs.List.{All}
use Rattle.lock_desk.specs.declared.deadlock_log.Deadlock.{Deadlock}
use Rattle.lock_desk.proofs.deadlock_log.DeadlockLog.keeping.Given as goal

-- The first slots have room for a cycle of all sessions.
abbrev pub invariant-loop-slot : goal.invariant-loop-slot
invariant-loop-slot l = record {
  long : length l.slots.items ≡ l._slot;
  room : All (λ (d : Deadlock). l.sessions ≤ vec_capacity d.cycle) l.slots.items;
}
