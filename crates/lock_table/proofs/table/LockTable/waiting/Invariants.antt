use Rattle.std.proofs.Common.{◌≡◌, is_some, take}
use Rattle.lock_rules.specs.Counts.{count_if}
use Rattle.lock_table.specs.declared.lockers.Locker.{Locker}
use Rattle.lock_table.specs.inner.Lockers.{standing_of}
use Rattle.lock_table.proofs.table.LockTable.waiting.Given as goal

-- those of the first lockers that wait are counted
abbrev pub invariant-loop-index : goal.invariant-loop-index
invariant-loop-index l = l.count ≡ count_if (λ (w : Locker). is_some (standing_of w).wanted) (take l.index l.fn.self.lockers.items)
