-- Internal to this crate, cited by no public contract: the invariant of the locks of a session.
use Rattle.std.specs.Prelude.{◌≡◌, ◌-◌, ◌≤◌, true, ◌++◌, vec_len, vec_capacity}
use Rattle.indexmap.specs.IndexMap.{keys, values, spare}
use Rattle.session_locks.specs.LockLists.{LockList}
use Rattle.session_locks.specs.inner.ChildCounts.{DoCount, AreUnder, resources_of}
use Rattle.session_locks.specs.declared.locks.Locks.TheInside.{Inside}

-- what contracts see of the locks
abbrev pub locks_of : Inside → LockList
locks_of a = record {
  items = keys a.indexed ++ resources_of a.recent.items;
  room = a.reserved - vec_len a.recent;
}

-- the list and the index have room for the reserved locks, and the recent locks are no more than those; while the counts are
-- valid they are right, and each lock came after its parent
pub record AreIndexed (a : Inside) : Type 0 where
  pub room : vec_len a.recent ≤ a.reserved
  pub listed : a.reserved ≤ vec_capacity a.recent
  pub indexable : a.reserved ≤ spare a.indexed
  pub counted : a.counts_valid ≡ true → DoCount (keys a.indexed) (values a.indexed)
  pub under : a.counts_valid ≡ true → AreUnder (keys a.indexed) (resources_of a.recent.items)
