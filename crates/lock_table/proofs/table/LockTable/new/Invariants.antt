use Rattle.std.proofs.Common.{◌≡◌, ℕ, vec_len}
use Rattle.lock_table.specs.inner.Lockers.{no_standing, standings_of, standing_at}
use Rattle.lock_table.proofs.table.LockTable.new.Given as goal

abbrev pub invariant-loop-locker : goal.invariant-loop-locker
invariant-loop-locker l = record {
  long : vec_len l.lockers ≡ l._locker;
  none : (s : ℕ) → standing_at s (standings_of l.lockers.items) ≡ no_standing;
}
