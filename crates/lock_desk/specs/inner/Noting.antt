-- Internal to this crate, cited by no public contract: the log of deadlocks.
use Rattle.std.specs.Prelude.{◌≡◌, ℕ, ◌+◌, ◌-◌, ◌<◌, ◌≤◌, ◌^◌, List, [], ◌∷◌, ◌++◌, length, drop, vec_capacity}
use Rattle.std.specs.List.{All}
use Rattle.lock_table.specs.Deadlocks.{Moment}
use Rattle.lock_table.specs.Noting.{IsCopyFor}
use Rattle.lock_desk.specs.Deadlocks.{AreDeadlocksTold, newest}
use Rattle.lock_desk.specs.declared.deadlock_log.Deadlock.{Deadlock}
use Rattle.lock_desk.specs.declared.deadlock_log.DeadlockLog.TheInside.{Inside}
use Rattle.lock_desk.specs.declared.wait_counts.WaitCounts.{WaitCounts}
use Rattle.lock_desk.specs.inner.WaitCounts.{AreVictimsCounted}

-- a log: how many deadlocks it keeps at most, for how many sessions, those that it tells, oldest first, and what it counts
pub record LogView : Type 0 where
  pub most : ℕ
  pub sessions : ℕ
  pub told : List Deadlock
  pub counts : WaitCounts

-- what contracts see of a log
abbrev pub log_view_of : Inside → LogView
log_view_of a = record {
  most = length a.slots.items;
  sessions = a.search.sessions;
  told = drop (length a.slots.items - a.count) a.slots.items;
  counts = a.counts;
}

-- no more slots are in use than there are, each has room for a cycle of all sessions, and the copy of the graph has all sessions
pub record HasSlots (a : Inside) : Type 0 where
  pub few : a.count ≤ length a.slots.items
  pub room : All (λ (d : Deadlock). a.search.sessions ≤ vec_capacity d.cycle) a.slots.items
  pub copy : IsCopyFor a.search.sessions a.copy

-- a log that keeps deadlocks is for n sessions
abbrev pub IsLogFor : ℕ → LogView → Type 0
IsLogFor n log = 0 < log.most → log.sessions ≡ n

-- these deadlocks are told: if the log told the newest of those before, it tells the newest of all
pub record HasTold (ms : List Moment) (old new : LogView) : Type 0 where
  pub most : new.most ≡ old.most
  pub told : (before : List Moment) → AreDeadlocksTold (newest old.most before) old.told → AreDeadlocksTold (newest old.most (before ++ ms)) new.told

-- their victims are counted, if 64 bits suffice, and nothing else is
pub record HasCounted (ms : List Moment) (old new : WaitCounts) : Type 0 where
  pub victims : (before : List Moment) → length before + length ms < 2 ^ 64 → AreVictimsCounted before old → AreVictimsCounted (before ++ ms) new
  pub aborted : new.aborted ≡ old.aborted
  pub restarted : new.restarted ≡ old.restarted

-- these deadlocks are noted: they are told, and counted
pub record HasNoted (ms : List Moment) (old new : LogView) : Type 0 where
  pub most : new.most ≡ old.most
  pub told : (before : List Moment) → AreDeadlocksTold (newest old.most before) old.told → AreDeadlocksTold (newest old.most (before ++ ms)) new.told
  pub counted : HasCounted ms old.counts new.counts
