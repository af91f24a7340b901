use Rattle.std.proofs.Common.{◌≡◌, drop}
use Rattle.session_locks.specs.Resources.{has_path}
use Rattle.session_locks.specs.inner.ChildCounts.{resources_of}
use Rattle.session_locks.proofs.locks.search.Given as goal

abbrev pub invariant-loop-index : goal.invariant-loop-index
invariant-loop-index l = has_path l.resource (resources_of l.list) ≡ has_path l.resource (resources_of (drop l.index l.list))
