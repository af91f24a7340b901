-- The invariant of the lock table, the tests of each call, and how
-- each operation changes the count of transactions, the standings of the sessions and the views of the resources.
use Rattle.std.specs.Prelude.{◌≡◌, ℕ, ◌+◌, ◌<◌, ◌≤◌, Bool, true, false, not, ◌&&◌, ◌==◌, nat_le, if◌then◌else◌, List, [], ◌∷◌, ◌++◌, length, Option, Some, None, is_some, vec_len}
use Rattle.lock_modes.specs.declared.Mode.{Mode}
use Rattle.lock_modes.specs.Order.{at_or_below, need_of}
use Rattle.lock_tree.specs.Paths.{same_path, parent_of, has_parent}
use Rattle.lock_rules.specs.declared.calls.Call.{Call}
use Rattle.lock_rules.specs.declared.calls.Call.TheVariants.{Begin, Lock, Convert, Poll, Release, Commit, Abort, Try, Withdraw, Restart}
use Rattle.lock_rules.specs.declared.calls.Why.{Why}
use Rattle.lock_rules.specs.declared.calls.Why.TheVariants.{AlreadyOpen, NoTransaction, IsWaiting, IsDoomed, NothingAsked, NotHeld, ParentNotHeld, ChildHeld, TooManyLocks, WouldWait, NotWaiting}
use Rattle.lock_rules.specs.declared.calls.TheConstants.{MAX_LOCKS}
use Rattle.lock_rules.specs.State.{mode_or_nothing, doomed_in}
use Rattle.lock_rules.specs.declared.calls.Transaction.{Transaction}
use Rattle.lock_rules.specs.Step.{is_nothing, target_of, is_held, restarted}
use Rattle.lock_rules.specs.Waits.{doom}
use Rattle.lock_table.specs.declared.table.LockTable.{LockTable}
use Rattle.lock_table.specs.declared.cells.GivenUp.{GivenUp}
use Rattle.lock_table.specs.declared.cells.GivenUp.TheVariants as claim
use Rattle.lock_table.specs.inner.Cells.{View, cell_view, can_grant, view_after_asking, view_after_freeing, AreKeptCells}
use Rattle.lock_holders.specs.SessionModes.{has_session, mode_of}
use Rattle.session_locks.specs.Resources.{has_path}
use Rattle.session_locks.specs.LockLists.{has_child, IsUnder}
use Rattle.lock_table.specs.inner.Lockers.{Standing, standings_of, standing_at, DoAgree}
use Rattle.lock_holders.specs.Woken.{WokenListView}
use Rattle.lock_table.specs.inner.Ended.{DoNoteEnded}
use Rattle.lock_table.specs.Ready.{IsReadyTable}

-- the view of resource `r` in lock table `d`: its holders and its queue
abbrev pub view_at : List ℕ → LockTable → View
view_at r d = cell_view r d.cells.entries

-- the standing of each session, by its locker
abbrev pub standings : LockTable → List Standing
standings d = standings_of d.lockers.items

-- the standing of session `s`, by its locker: its transaction, the resources that it holds, and the one that it waits
-- for
abbrev pub standing : ℕ → LockTable → Standing
standing s d = standing_at s (standings d)

-- the lock table with another list of ended waits
abbrev pub with_ended : WokenListView → LockTable → LockTable
with_ended v d = record { count = d.count; lockers = d.lockers; cells = d.cells; waits = d.waits; ended = v }

-- the lock table with `n` sessions listed, those at the front
abbrev pub with_ended_count : ℕ → LockTable → LockTable
with_ended_count n d = with_ended (record { places = d.ended.places; count = n }) d

-- the invariant of the lock table between two operations: that of its cells, that of its lockers, and that both agree
-- on each resource
pub record IsWhole (d : LockTable) : Type 0 where
  pub cells : AreKeptCells d.cells.entries
  pub agree : (r : List ℕ) → DoAgree r (view_at r d) (standings d)

-- what each operation keeps: the invariant, the number of lockers, and a waits-for graph that is current
pub record DoesKeep (d e : LockTable) : Type 0 where
  pub whole : IsWhole e
  pub lockers : vec_len e.lockers ≡ vec_len d.lockers
  pub ready : IsReadyTable e

-- session `s` has a locker
pub record IsSession (s : ℕ) (d : LockTable) : Type 0 where
  pub some : 1 ≤ s
  pub within : s ≤ vec_len d.lockers

-- the lock table may serve session `s`: it has a locker for it, the invariant holds, and the waits-for graph is current
pub record MayServe (s : ℕ) (d : LockTable) : Type 0 where
  pub session : IsSession s d
  pub whole : IsWhole d
  pub ready : IsReadyTable d

-- the mode that session `s` holds on resource `r` itself
abbrev pub mode_held : LockTable → ℕ → List ℕ → Option Mode
mode_held d s r = mode_of s (view_at r d).holders

-- resource `r` has a parent that session `s` does not hold in a mode that covers the need of `m`
abbrev pub lacks_need : LockTable → ℕ → List ℕ → Mode → Bool
lacks_need d s r m = has_parent r && not (at_or_below (need_of m) (mode_or_nothing (mode_held d s (parent_of r))))

-- the tests of each call in their order: whether a test fails, and the refusal that it gives then

-- the tests of a lock that look at its resource and its mode
abbrev pub lock_tests : LockTable → ℕ → List ℕ → Mode → List (Bool × Why)
lock_tests d s r m =
    (is_nothing m, NothingAsked)
    ∷ (lacks_need d s r (target_of (mode_held d s r) m), ParentNotHeld)
    ∷ (not (is_some (mode_held d s r)) && nat_le MAX_LOCKS (length (standing s d).held), TooManyLocks)
    ∷ []

-- a request of the session for the target `m` would wait: its lock doesn't cover the target, and it isn't granted at once
abbrev pub would_wait : LockTable → ℕ → List ℕ → Mode → Bool
would_wait d s r m = not (is_held (mode_held d s r) m) && not (can_grant (record { session = s; mode = m }) (view_at r d))

-- the tests of a try that look at its resource and its mode
abbrev pub try_tests : LockTable → ℕ → List ℕ → Mode → List (Bool × Why)
try_tests d s r m = lock_tests d s r m ++ (would_wait d s r (target_of (mode_held d s r) m), WouldWait) ∷ []

-- the tests of a conversion that look at its resource and its mode
abbrev pub convert_tests : LockTable → ℕ → List ℕ → Mode → List (Bool × Why)
convert_tests d s r m =
    (is_nothing m, NothingAsked)
    ∷ (not (is_some (mode_held d s r)), NotHeld)
    ∷ (lacks_need d s r (target_of (mode_held d s r) m), ParentNotHeld)
    ∷ []

-- the tests of a release that look at its resource
abbrev pub release_tests : LockTable → ℕ → List ℕ → List (Bool × Why)
release_tests d s r = (not (is_some (mode_held d s r)), NotHeld) ∷ (has_child r (standing s d).held, ChildHeld) ∷ []

-- the session must have a transaction
abbrev pub open_tests : LockTable → ℕ → List (Bool × Why)
open_tests d s = (not (is_some (standing s d).transaction), NoTransaction) ∷ []

-- the session must have a transaction, must not wait, and must not be doomed
abbrev pub idle_tests : LockTable → ℕ → List (Bool × Why)
idle_tests d s = open_tests d s ++ (is_some (standing s d).wanted, IsWaiting) ∷ (doomed_in (standing s d).transaction, IsDoomed) ∷ []

-- the tests of a call that look at its session alone
abbrev pub standing_tests : LockTable → ℕ → Call → List (Bool × Why)
standing_tests d s Begin = (is_some (standing s d).transaction, AlreadyOpen) ∷ []
standing_tests d s Poll = open_tests d s
standing_tests d s Abort = open_tests d s
standing_tests d s (Lock r m) = idle_tests d s
standing_tests d s (Convert r m) = idle_tests d s
standing_tests d s (Release r) = idle_tests d s
standing_tests d s Commit = idle_tests d s
standing_tests d s (Try r m) = idle_tests d s
standing_tests d s Withdraw = open_tests d s ++ (doomed_in (standing s d).transaction, IsDoomed) ∷ (not (is_some (standing s d).wanted), NotWaiting) ∷ []
standing_tests d s Restart = open_tests d s

-- the tests of a call that look at its resource and its mode
abbrev pub request_tests : LockTable → ℕ → Call → List (Bool × Why)
request_tests d s (Lock r m) = lock_tests d s r m
request_tests d s (Convert r m) = convert_tests d s r m
request_tests d s (Release r) = release_tests d s r
request_tests d s Begin = []
request_tests d s Poll = []
request_tests d s Commit = []
request_tests d s Abort = []
request_tests d s (Try r m) = try_tests d s r m
request_tests d s Withdraw = []
request_tests d s Restart = []

-- all tests of a call
abbrev pub call_tests : LockTable → ℕ → Call → List (Bool × Why)
call_tests d s c = standing_tests d s c ++ request_tests d s c

-- count, standings and views are unchanged, and so is the list of ended waits
pub record IsSameSeen (d e : LockTable) : Type 0 where
  pub count : e.count ≡ d.count
  pub standings_same : standings e ≡ standings d
  pub views : (q : List ℕ) → view_at q e ≡ view_at q d
  pub ended : e.ended ≡ d.ended

-- the sessions whose wait has ended are listed, without session `s`
abbrev pub HasNotedEnded : ℕ → LockTable → LockTable → Type 0
HasNotedEnded s d e = DoNoteEnded s d.lockers.items e.lockers.items d.ended e.ended

-- session `s` may request resource `r`: it does not wait, holds `r` or fewer locks than the limit, and holds the parent
-- of `r`, if there is one
pub record CanAsk (s : ℕ) (r : List ℕ) (d : LockTable) : Type 0 where
  pub idle : (standing s d).wanted ≡ None
  pub few : (not (is_some (mode_held d s r)) && nat_le MAX_LOCKS (length (standing s d).held)) ≡ false
  pub under : IsUnder (standing s d).held r

-- session `s` may request mode `m` on resource `r`: all tests of the request are passed
pub record MayAsk (s : ℕ) (r : List ℕ) (m : Mode) (d : LockTable) : Type 0 where
  pub can : CanAsk s r d
  pub opened : is_some (standing s d).transaction ≡ true
  pub sound : doomed_in (standing s d).transaction ≡ false
  pub something : is_nothing m ≡ false
  pub under : lacks_need d s r (target_of (mode_held d s r) m) ≡ false

-- session `s` may lock resource `r`, which it does not hold
pub record CanLock (s : ℕ) (r : List ℕ) (d : LockTable) : Type 0 where
  pub idle : (standing s d).wanted ≡ None
  pub new : is_some (mode_held d s r) ≡ false
  pub few : length (standing s d).held < MAX_LOCKS
  pub under : IsUnder (standing s d).held r

-- session `s` may convert its lock on resource `r`
pub record CanConvert (s : ℕ) (r : List ℕ) (d : LockTable) : Type 0 where
  pub idle : (standing s d).wanted ≡ None
  pub held : is_some (mode_held d s r) ≡ true

-- session `s` has requested mode `m` on resource `r`, and was granted it or queued; transactions and other resources
-- are unchanged
pub record HasAsked (s : ℕ) (r : List ℕ) (m : Mode) (granted : Bool) (d e : LockTable) : Type 0 where
  pub granted_is : granted ≡ can_grant (record { session = s; mode = m }) (view_at r d)
  pub count : e.count ≡ d.count
  pub transactions : (u : ℕ) → (standing u e).transaction ≡ (standing u d).transaction
  pub views : (q : List ℕ) → view_at q e ≡ (if same_path r q then view_after_asking (record { session = s; mode = m }) (view_at r d) else view_at q d)

-- session `s` may release resource `r`: it does not wait, holds `r`, and holds no child of it
pub record CanRelease (s : ℕ) (r : List ℕ) (d : LockTable) : Type 0 where
  pub idle : (standing s d).wanted ≡ None
  pub held : is_some (mode_held d s r) ≡ true
  pub free : has_child r (standing s d).held ≡ false

-- session `s` has given up its lock on resource `r` or its request, and the queue of `r` is promoted; transactions and
-- other resources are unchanged
pub record HasFreed (p : GivenUp) (s : ℕ) (r : List ℕ) (d e : LockTable) : Type 0 where
  pub count : e.count ≡ d.count
  pub transactions : (u : ℕ) → (standing u e).transaction ≡ (standing u d).transaction
  pub views : (q : List ℕ) → view_at q e ≡ (if same_path r q then view_after_freeing p s (view_at r d) else view_at q d)

-- the last lock in the session's list is released
pub record HasGivenBack (s : ℕ) (d e : LockTable) : Type 0 where
  pub resource : List ℕ
  pub held : (standing s d).held ≡ (standing s e).held ++ resource ∷ []
  pub idle : (standing s e).wanted ≡ None
  pub freed : HasFreed claim.Lock s resource d e

-- the view of a resource after session `s` has released it, if it held it
abbrev pub view_after_unlock : ℕ → View → View
view_after_unlock s v = if has_session s v.holders then view_after_freeing claim.Lock s v else v

-- the session has released all its locks but those that its locker still lists
pub record HasGivenBackAll (s : ℕ) (d e : LockTable) : Type 0 where
  pub count : e.count ≡ d.count
  pub idle : (standing s e).wanted ≡ None
  pub transactions : (u : ℕ) → (standing u e).transaction ≡ (standing u d).transaction
  pub views : (q : List ℕ) → view_at q e ≡ (if has_path q (standing s e).held then view_at q d else view_after_unlock s (view_at q d))

-- the view of a resource after the request of session `s` is removed, if it waited there
abbrev pub view_after_cancel : ℕ → View → View
view_after_cancel s v = if has_session s v.waiting then view_after_freeing claim.Request s v else v

-- session `s` does not wait any more: its request is removed, if it had one, and its locks are unchanged
pub record HasCancelled (s : ℕ) (d e : LockTable) : Type 0 where
  pub count : e.count ≡ d.count
  pub idle : (standing s e).wanted ≡ None
  pub held : (standing s e).held ≡ (standing s d).held
  pub transactions : (u : ℕ) → (standing u e).transaction ≡ (standing u d).transaction
  pub views : (q : List ℕ) → view_at q e ≡ view_after_cancel s (view_at q d)

-- the transaction of session `s` is a deadlock's victim: it is doomed, and its request is removed
pub record HasDoomed (s : ℕ) (d e : LockTable) : Type 0 where
  pub count : e.count ≡ d.count
  pub transactions : (u : ℕ) → (standing u e).transaction ≡ (if u == s then doom (standing u d).transaction else (standing u d).transaction)
  pub views : (q : List ℕ) → view_at q e ≡ view_after_cancel s (view_at q d)

-- session `s` has begun a transaction with the next number
pub record HasBegun (s : ℕ) (d e : LockTable) : Type 0 where
  pub count : e.count ≡ d.count + 1
  pub transactions : (u : ℕ) → (standing u e).transaction ≡ (if u == s then Some (record { number = d.count + 1; doomed = false }) else (standing u d).transaction)
  pub views : (q : List ℕ) → view_at q e ≡ view_at q d

-- the view of a resource after session `s` has left it: its request is removed, and its lock is released
abbrev pub view_after_end : ℕ → View → View
view_after_end s v = view_after_unlock s (view_after_cancel s v)

-- session `s` has given up all that it had: its request is removed, and all its locks are released; its transaction is what
-- `after` makes of it
pub record HasGivenUpAll (after : Option Transaction → Option Transaction) (s : ℕ) (d e : LockTable) : Type 0 where
  pub count : e.count ≡ d.count
  pub transactions : (u : ℕ) → (standing u e).transaction ≡ (if u == s then after (standing u d).transaction else (standing u d).transaction)
  pub views : (q : List ℕ) → view_at q e ≡ view_after_end s (view_at q d)

-- the transaction of session `s` has ended
abbrev pub HasEnded : ℕ → LockTable → LockTable → Type 0
HasEnded s d e = HasGivenUpAll (λ o. None) s d e

-- the transaction of session `s` has begun again, with its number
abbrev pub HasRestarted : ℕ → LockTable → LockTable → Type 0
HasRestarted s d e = HasGivenUpAll restarted s d e
