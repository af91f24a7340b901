use Rattle.std.proofs.Common.{◌≡◌, ◌+◌, ◌≤◌, ◌++◌, length, take}
use Rattle.combining.specs.inner.EndedList.{marked}
use Rattle.combining.proofs.woken_set.write_marked.Given as goal

-- Those that are left stand behind those that are written.
abbrev pub invariant-loop-left : goal.invariant-loop-left
invariant-loop-left l = record {
  told : take l.written l.list ++ marked l.words l.left ≡ marked l.words l.sessions;
  few : l.written + l.left ≤ l.sessions;
  len : length l.list ≡ length l.fn.list;
}

-- Fewer are left.
abbrev pub decreases-loop-left : goal.decreases-loop-left
decreases-loop-left l = l.left
