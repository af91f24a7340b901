use Rattle.std.proofs.Common.{◌≡◌, ◌++◌, take}
use Rattle.session_locks.specs.inner.ChildCounts.{resources_of}
use Rattle.session_locks.specs.Resources.{those_behind}
use Rattle.session_locks.proofs.locks.pages.push_recent.Given as goal

abbrev pub invariant-loop-index : goal.invariant-loop-index
invariant-loop-index l = l.list.items ≡ l.initial.list.items ++ those_behind l.after (resources_of (take l.index l.locks))
