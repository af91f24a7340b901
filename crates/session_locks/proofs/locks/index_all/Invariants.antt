use Rattle.std.proofs.Common.{◌≡◌, ◌+◌, ◌≤◌, ◌++◌, drop}
use Rattle.indexmap.specs.IndexMap.{keys, values, spare}
use Rattle.session_locks.specs.inner.ChildCounts.{AreUnder, DoCount, resources_of}
use Rattle.session_locks.proofs.locks.index_all.Given as goal

abbrev pub invariant-loop-index : goal.invariant-loop-index
invariant-loop-index l = record {
  all : keys l.indexed ++ resources_of (drop l.index l.recent) ≡ keys l.initial.indexed ++ resources_of l.recent;
  counted : DoCount (keys l.indexed) (values l.indexed);
  under : AreUnder (keys l.indexed) (resources_of (drop l.index l.recent));
  spare : spare l.initial.indexed ≤ spare l.indexed + l.index;
}
