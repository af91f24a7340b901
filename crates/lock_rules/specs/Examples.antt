-- Histories worked by hand. The prover computes each reply, in the law that cites them.
use Rattle.std.specs.Prelude.{ℕ, zero, suc, List, [], ◌∷◌}
use Rattle.lock_modes.specs.declared.Mode.TheVariants.{NL, IS, IX, S, SIX, X}
use Rattle.lock_rules.specs.declared.calls.Call.{Call}
use Rattle.lock_rules.specs.declared.calls.Call.TheVariants.{Begin, Lock, Convert, Poll, Release, Commit, Abort, Try, Withdraw}
use Rattle.lock_rules.specs.declared.calls.Reply.{Reply}
use Rattle.lock_rules.specs.declared.calls.Reply.TheVariants.{Began, Granted, Waiting, Deadlock, Clear, Released, Committed, Aborted, Refused, Withdrawn}
use Rattle.lock_rules.specs.declared.calls.Why.TheVariants.{AlreadyOpen, NoTransaction, IsWaiting, IsDoomed, NothingAsked, NotHeld, ParentNotHeld, ChildHeld, WouldWait, NotWaiting}
use Rattle.lock_rules.specs.Entries.{Entry}

-- a call of a session with its reply
abbrev pub entry : ℕ → Call → Reply → Entry
entry s c r = record { session = s; call = c; reply = r }

-- the history with reply r at this place
abbrev pub with_reply : ℕ → Reply → List Entry → List Entry
with_reply place r [] = []
with_reply zero r (e ∷ es) = entry e.session e.call r ∷ es
with_reply (suc place) r (e ∷ es) = e ∷ with_reply place r es

-- the database with this number, at the root of the resource tree
abbrev pub database : ℕ → List ℕ
database n = n ∷ []

-- Reader 3 comes after writer 2 and waits behind it, though its mode fits beside reader 1.
abbrev pub queue_in_order : List Entry
queue_in_order =
    entry 1 Begin (Began 1) ∷ entry 2 Begin (Began 2) ∷ entry 3 Begin (Began 3)
    ∷ entry 1 (Lock (database 1) S) (Granted S)
    ∷ entry 2 (Lock (database 1) X) Waiting
    ∷ entry 3 (Lock (database 1) S) Waiting
    ∷ entry 2 (Lock (database 2) S) (Refused IsWaiting)
    ∷ entry 1 Commit (Committed 1) ∷ entry 2 Commit (Committed 1) ∷ entry 3 Commit (Committed 1)
    ∷ []

-- A commit promotes the first of the queue. The next request doesn't fit beside it and waits on.
abbrev pub promotion_stops : List Entry
promotion_stops =
    entry 1 Begin (Began 1) ∷ entry 2 Begin (Began 2) ∷ entry 3 Begin (Began 3)
    ∷ entry 1 (Lock (database 1) S) (Granted S)
    ∷ entry 2 (Lock (database 1) X) Waiting
    ∷ entry 3 (Lock (database 1) S) Waiting
    ∷ entry 1 Commit (Committed 1)
    ∷ entry 2 Poll Clear
    ∷ entry 3 Poll Waiting
    ∷ entry 3 (Lock (database 1) NL) (Refused IsWaiting)
    ∷ []

-- One promotion grants several readers.
abbrev pub readers_together : List Entry
readers_together =
    entry 1 Begin (Began 1) ∷ entry 2 Begin (Began 2) ∷ entry 3 Begin (Began 3)
    ∷ entry 1 (Lock (database 1) X) (Granted X)
    ∷ entry 2 (Lock (database 1) S) Waiting
    ∷ entry 3 (Lock (database 1) IS) Waiting
    ∷ entry 1 Commit (Committed 1)
    ∷ entry 2 Poll Clear ∷ entry 3 Poll Clear
    ∷ entry 2 Commit (Committed 1) ∷ entry 3 Commit (Committed 1)
    ∷ []

-- The first request that doesn't fit ends a promotion, even if a later one would fit.
abbrev pub promotion_in_order : List Entry
promotion_in_order =
    entry 1 Begin (Began 1) ∷ entry 2 Begin (Began 2) ∷ entry 3 Begin (Began 3) ∷ entry 4 Begin (Began 4)
    ∷ entry 1 (Lock (database 1) S) (Granted S)
    ∷ entry 2 (Lock (database 1) S) (Granted S)
    ∷ entry 3 (Lock (database 1) X) Waiting
    ∷ entry 4 (Lock (database 1) S) Waiting
    ∷ entry 2 Commit (Committed 1)
    ∷ entry 4 Poll Waiting
    ∷ []

-- IS is compatible with SIX, and IX isn't.
abbrev pub intentions : List Entry
intentions =
    entry 1 Begin (Began 1) ∷ entry 2 Begin (Began 2) ∷ entry 3 Begin (Began 3)
    ∷ entry 1 (Lock (database 1) SIX) (Granted SIX)
    ∷ entry 2 (Lock (database 1) IS) (Granted IS)
    ∷ entry 3 (Lock (database 1) IX) Waiting
    ∷ []

-- Refusals of several kinds. A session's next transaction has a new number.
abbrev pub refusals : List Entry
refusals =
    entry 1 Commit (Refused NoTransaction)
    ∷ entry 1 Begin (Began 1) ∷ entry 1 Begin (Refused AlreadyOpen)
    ∷ entry 1 (Lock (database 1) NL) (Refused NothingAsked)
    ∷ entry 1 (Convert (database 1) S) (Refused NotHeld) ∷ entry 1 (Convert (database 1) NL) (Refused NothingAsked)
    ∷ entry 1 (Lock (database 1) S) (Granted S) ∷ entry 1 Poll Clear
    ∷ entry 1 Commit (Committed 1) ∷ entry 1 Begin (Began 2) ∷ entry 1 Commit (Committed 0)
    ∷ entry 1 (Lock (database 1) S) (Refused NoTransaction)
    ∷ entry 1 (Convert (database 1) S) (Refused NoTransaction) ∷ entry 1 Poll (Refused NoTransaction)
    ∷ entry 1 (Release (database 1)) (Refused NoTransaction) ∷ entry 1 Abort (Refused NoTransaction)
    ∷ entry 1 Begin (Began 3) ∷ entry 1 (Convert (1 ∷ 2 ∷ []) X) (Refused NotHeld)
    ∷ entry 1 (Lock (1 ∷ 2 ∷ []) NL) (Refused NothingAsked)
    ∷ []

-- A lock needs its parent, in IS or above for S, in IX or above for X. A lock on the grandparent isn't enough.
abbrev pub down_the_tree : List Entry
down_the_tree =
    entry 1 Begin (Began 1)
    ∷ entry 1 (Lock (1 ∷ 2 ∷ []) S) (Refused ParentNotHeld)
    ∷ entry 1 (Lock (database 1) IS) (Granted IS)
    ∷ entry 1 (Lock (1 ∷ 2 ∷ []) X) (Refused ParentNotHeld)
    ∷ entry 1 (Lock (1 ∷ 2 ∷ []) S) (Granted S)
    ∷ entry 1 (Lock (1 ∷ 3 ∷ 4 ∷ []) S) (Refused ParentNotHeld)
    ∷ entry 1 (Lock (1 ∷ 2 ∷ 5 ∷ []) S) (Granted S)
    ∷ entry 1 Commit (Committed 3)
    ∷ []

-- Locks are released from leaf to root.
abbrev pub up_the_tree : List Entry
up_the_tree =
    entry 1 Begin (Began 1)
    ∷ entry 1 (Lock (database 1) IX) (Granted IX)
    ∷ entry 1 (Lock (1 ∷ 2 ∷ []) IX) (Granted IX)
    ∷ entry 1 (Lock (1 ∷ 2 ∷ 3 ∷ []) X) (Granted X)
    ∷ entry 1 (Release (1 ∷ 2 ∷ [])) (Refused ChildHeld)
    ∷ entry 1 (Release (1 ∷ 2 ∷ 3 ∷ [])) Released
    ∷ entry 1 (Release (1 ∷ 2 ∷ [])) Released
    ∷ entry 1 (Release (1 ∷ 2 ∷ [])) (Refused NotHeld)
    ∷ entry 1 Commit (Committed 1)
    ∷ []

-- A release promotes the queue of its resource.
abbrev pub release_promotes : List Entry
release_promotes =
    entry 1 Begin (Began 1) ∷ entry 2 Begin (Began 2)
    ∷ entry 1 (Lock (database 1) S) (Granted S)
    ∷ entry 2 (Lock (database 1) IX) Waiting
    ∷ entry 2 (Release (database 1)) (Refused IsWaiting)
    ∷ entry 1 (Release (database 1)) Released
    ∷ entry 2 (Release (database 1)) Released
    ∷ entry 1 (Release (database 1)) (Refused NotHeld)
    ∷ []

-- A release gives back the lock of its own session alone.
abbrev pub release_of_one : List Entry
release_of_one =
    entry 1 Begin (Began 1) ∷ entry 2 Begin (Began 2)
    ∷ entry 1 (Lock (database 1) S) (Granted S)
    ∷ entry 2 (Lock (database 1) S) (Granted S)
    ∷ entry 1 (Release (database 1)) Released
    ∷ entry 1 Commit (Committed 0)
    ∷ entry 2 Commit (Committed 1)
    ∷ []

-- A holder that asks again gets the least mode at or above both. Its own lock doesn't block it.
abbrev pub asks_again : List Entry
asks_again =
    entry 1 Begin (Began 1)
    ∷ entry 1 (Lock (database 1) IX) (Granted IX)
    ∷ entry 1 (Lock (database 1) S) (Granted SIX)
    ∷ entry 1 (Lock (database 1) IS) (Granted SIX)
    ∷ entry 1 (Convert (database 2) S) (Refused NotHeld)
    ∷ entry 1 (Lock (database 1) NL) (Refused NothingAsked)
    ∷ entry 1 (Convert (database 2) NL) (Refused NothingAsked)
    ∷ entry 1 Commit (Committed 1)
    ∷ []

-- A conversion that has to wait is queued before a fresh request that came earlier.
abbrev pub conversion_first : List Entry
conversion_first =
    entry 1 Begin (Began 1) ∷ entry 2 Begin (Began 2) ∷ entry 3 Begin (Began 3)
    ∷ entry 1 (Lock (database 1) S) (Granted S)
    ∷ entry 2 (Lock (database 1) S) (Granted S)
    ∷ entry 3 (Lock (database 1) X) Waiting
    ∷ entry 1 (Lock (database 1) IX) Waiting
    ∷ entry 2 Commit (Committed 1)
    ∷ entry 1 Poll Clear
    ∷ entry 3 Poll Waiting
    ∷ entry 1 Commit (Committed 1)
    ∷ entry 3 Poll Clear
    ∷ []

-- A conversion that fits is granted at once, though a fresh request waits.
abbrev pub conversion_at_once : List Entry
conversion_at_once =
    entry 1 Begin (Began 1) ∷ entry 2 Begin (Began 2) ∷ entry 3 Begin (Began 3)
    ∷ entry 1 (Lock (database 1) IS) (Granted IS)
    ∷ entry 2 (Lock (database 1) IX) (Granted IX)
    ∷ entry 3 (Lock (database 1) X) Waiting
    ∷ entry 1 (Lock (database 1) IX) (Granted IX)
    ∷ entry 3 Poll Waiting
    ∷ []

-- A conversion needs the parent in what its target needs.
abbrev pub conversion_under_parent : List Entry
conversion_under_parent =
    entry 1 Begin (Began 1)
    ∷ entry 1 (Lock (database 1) IS) (Granted IS)
    ∷ entry 1 (Lock (1 ∷ 1 ∷ []) S) (Granted S)
    ∷ entry 1 (Convert (1 ∷ 1 ∷ []) X) (Refused ParentNotHeld)
    ∷ entry 1 (Convert (database 1) IX) (Granted IX)
    ∷ entry 1 (Convert (1 ∷ 1 ∷ []) X) (Granted X)
    ∷ entry 1 Abort (Aborted 2)
    ∷ []

-- A waiting session can't commit but can abort. Its request goes, and the one behind it is granted.
abbrev pub abort_while_waiting : List Entry
abort_while_waiting =
    entry 1 Begin (Began 1) ∷ entry 2 Begin (Began 2) ∷ entry 3 Begin (Began 3)
    ∷ entry 1 (Lock (database 1) S) (Granted S)
    ∷ entry 2 (Lock (database 1) X) Waiting
    ∷ entry 3 (Lock (database 1) IS) Waiting
    ∷ entry 2 Commit (Refused IsWaiting)
    ∷ entry 2 Abort (Aborted 0)
    ∷ entry 3 Poll Clear
    ∷ entry 2 Poll (Refused NoTransaction)
    ∷ []

-- Two readers both ask to convert to X. The second is the younger: it is doomed, and keeps its lock until it aborts.
abbrev pub readers_that_convert : List Entry
readers_that_convert =
    entry 1 Begin (Began 1) ∷ entry 2 Begin (Began 2)
    ∷ entry 1 (Lock (database 1) S) (Granted S)
    ∷ entry 2 (Lock (database 1) S) (Granted S)
    ∷ entry 1 (Lock (database 1) X) Waiting
    ∷ entry 2 (Lock (database 1) X) Deadlock
    ∷ entry 1 Poll Waiting
    ∷ entry 2 (Lock (database 2) NL) (Refused IsDoomed)
    ∷ entry 2 (Release (database 1)) (Refused IsDoomed)
    ∷ entry 2 Commit (Refused IsDoomed)
    ∷ entry 2 Poll Deadlock
    ∷ entry 2 Abort (Aborted 1)
    ∷ entry 1 Poll Clear
    ∷ []

-- The victim is the youngest transaction on the cycle, not the one that asked last.
abbrev pub youngest_of_two : List Entry
youngest_of_two =
    entry 1 Begin (Began 1) ∷ entry 2 Begin (Began 2)
    ∷ entry 1 (Lock (database 1) IX) (Granted IX)
    ∷ entry 1 (Lock (1 ∷ 1 ∷ []) X) (Granted X)
    ∷ entry 2 (Lock (database 1) IX) (Granted IX)
    ∷ entry 2 (Lock (1 ∷ 2 ∷ []) X) (Granted X)
    ∷ entry 2 (Lock (1 ∷ 1 ∷ []) X) Waiting
    ∷ entry 1 (Lock (1 ∷ 2 ∷ []) X) Waiting
    ∷ entry 2 Poll Deadlock
    ∷ entry 2 (Lock (1 ∷ 3 ∷ []) S) (Refused IsDoomed)
    ∷ entry 2 Abort (Aborted 2)
    ∷ entry 1 Poll Clear
    ∷ []

-- The victim is ahead of the asker in a queue. Once its request is gone, the asker is granted.
abbrev pub victim_in_the_way : List Entry
victim_in_the_way =
    entry 1 Begin (Began 1) ∷ entry 2 Begin (Began 2) ∷ entry 3 Begin (Began 3)
    ∷ entry 1 (Lock (database 2) X) (Granted X)
    ∷ entry 2 (Lock (database 1) S) (Granted S)
    ∷ entry 3 (Lock (database 1) X) Waiting
    ∷ entry 2 (Lock (database 2) S) Waiting
    ∷ entry 1 (Lock (database 1) S) (Granted S)
    ∷ entry 3 Poll Deadlock
    ∷ entry 2 Poll Waiting
    ∷ []

-- A refused request blocks nobody. Two conversions on one resource make a cycle.
abbrev pub conversions_that_meet : List Entry
conversions_that_meet =
    entry 1 Begin (Began 1) ∷ entry 2 Begin (Began 2)
    ∷ entry 1 (Lock (database 1) IS) (Granted IS)
    ∷ entry 2 (Lock (database 1) IS) (Granted IS)
    ∷ entry 1 (Lock (1 ∷ 1 ∷ []) S) (Granted S)
    ∷ entry 2 (Lock (1 ∷ 1 ∷ []) X) (Refused ParentNotHeld)
    ∷ entry 2 (Lock (database 1) X) Waiting
    ∷ entry 1 (Lock (database 1) X) Waiting
    ∷ entry 2 Poll Deadlock
    ∷ []

-- A cycle through a place in the queue: 3 waits for 2 only because 2 is ahead of it.
abbrev pub circle_through_the_queue : List Entry
circle_through_the_queue =
    entry 1 Begin (Began 1) ∷ entry 2 Begin (Began 2) ∷ entry 3 Begin (Began 3)
    ∷ entry 1 (Lock (database 1) S) (Granted S)
    ∷ entry 3 (Lock (database 2) X) (Granted X)
    ∷ entry 2 (Lock (database 1) X) Waiting
    ∷ entry 3 (Lock (database 1) S) Waiting
    ∷ entry 1 (Lock (database 2) S) Waiting
    ∷ entry 3 Poll Deadlock
    ∷ entry 2 Poll Waiting
    ∷ entry 3 Abort (Aborted 1)
    ∷ entry 1 Poll Clear
    ∷ entry 1 Commit (Committed 2)
    ∷ entry 2 Poll Clear
    ∷ []

-- Two cycles go through the asker. The youngest transaction of all on them is doomed first, then the other.
abbrev pub two_victims : List Entry
two_victims =
    entry 1 Begin (Began 1) ∷ entry 2 Begin (Began 2) ∷ entry 3 Begin (Began 3)
    ∷ entry 1 (Lock (database 1) X) (Granted X)
    ∷ entry 1 (Lock (database 2) X) (Granted X)
    ∷ entry 2 (Lock (database 3) S) (Granted S)
    ∷ entry 3 (Lock (database 3) S) (Granted S)
    ∷ entry 2 (Lock (database 1) S) Waiting
    ∷ entry 3 (Lock (database 2) S) Waiting
    ∷ entry 1 (Lock (database 3) X) Waiting
    ∷ entry 3 Poll Deadlock ∷ entry 2 Poll Deadlock
    ∷ entry 3 Abort (Aborted 1)
    ∷ entry 1 Poll Waiting
    ∷ entry 2 Abort (Aborted 1)
    ∷ entry 1 Poll Clear
    ∷ []

-- A begin changes nothing for others: a waiting session waits on, a doomed one stays doomed.
abbrev pub begin_beside_others : List Entry
begin_beside_others =
    entry 1 Begin (Began 1) ∷ entry 2 Begin (Began 2)
    ∷ entry 1 (Lock (database 1) S) (Granted S)
    ∷ entry 2 (Lock (database 1) S) (Granted S)
    ∷ entry 1 (Lock (database 1) X) Waiting
    ∷ entry 2 (Lock (database 1) X) Deadlock
    ∷ entry 3 Begin (Began 3)
    ∷ entry 1 Poll Waiting
    ∷ entry 2 Poll Deadlock
    ∷ entry 3 Poll Clear
    ∷ entry 2 Abort (Aborted 1)
    ∷ entry 1 Poll Clear
    ∷ []

-- A poll reports the session's own request: a holder is clear, though another session waits for it.
abbrev pub polls : List Entry
polls =
    entry 1 Begin (Began 1) ∷ entry 2 Begin (Began 2)
    ∷ entry 1 Poll Clear
    ∷ entry 1 (Lock (database 1) S) (Granted S)
    ∷ entry 1 (Lock (database 2) X) (Granted X)
    ∷ entry 1 Poll Clear
    ∷ entry 2 (Lock (database 1) X) Waiting
    ∷ entry 1 Poll Clear
    ∷ entry 2 Poll Waiting
    ∷ entry 1 Commit (Committed 2)
    ∷ entry 2 Poll Clear
    ∷ []

-- Another session's locks below a resource don't prevent a release.
abbrev pub release_above_another : List Entry
release_above_another =
    entry 1 Begin (Began 1) ∷ entry 2 Begin (Began 2)
    ∷ entry 1 (Lock (database 1) IX) (Granted IX)
    ∷ entry 2 (Lock (database 1) IX) (Granted IX)
    ∷ entry 2 (Lock (1 ∷ 1 ∷ []) X) (Granted X)
    ∷ entry 1 (Release (database 1)) Released
    ∷ entry 2 (Release (database 1)) (Refused ChildHeld)
    ∷ entry 1 Commit (Committed 0)
    ∷ entry 2 Commit (Committed 2)
    ∷ []

-- A commit releases any number of locks, here four.
abbrev pub commit_of_four : List Entry
commit_of_four =
    entry 1 Begin (Began 1)
    ∷ entry 1 (Lock (database 1) IX) (Granted IX)
    ∷ entry 1 (Lock (1 ∷ 1 ∷ []) X) (Granted X)
    ∷ entry 1 (Lock (database 2) S) (Granted S)
    ∷ entry 1 (Lock (database 3) IS) (Granted IS)
    ∷ entry 1 Commit (Committed 4)
    ∷ []

-- A Convert gets the least mode at or above the mode held and the mode asked: S over IX gives SIX.
abbrev pub conversion_to_the_upper_bound : List Entry
conversion_to_the_upper_bound =
    entry 1 Begin (Began 1)
    ∷ entry 1 (Lock (database 1) IX) (Granted IX)
    ∷ entry 1 (Convert (database 1) S) (Granted SIX)
    ∷ entry 1 (Convert (database 1) IS) (Granted SIX)
    ∷ entry 1 Commit (Committed 1)
    ∷ []

-- A conversion whose target is SIX needs IX of the parent. The refused conversion changes nothing.
abbrev pub conversion_needs_more_of_the_parent : List Entry
conversion_needs_more_of_the_parent =
    entry 1 Begin (Began 1)
    ∷ entry 1 (Lock (database 1) IS) (Granted IS)
    ∷ entry 1 (Lock (1 ∷ 1 ∷ []) IS) (Granted IS)
    ∷ entry 1 (Convert (1 ∷ 1 ∷ []) S) (Granted S)
    ∷ entry 1 (Convert (1 ∷ 1 ∷ []) IX) (Refused ParentNotHeld)
    ∷ entry 1 (Lock (1 ∷ 1 ∷ []) IX) (Refused ParentNotHeld)
    ∷ entry 1 (Convert (database 1) IX) (Granted IX)
    ∷ entry 1 (Convert (1 ∷ 1 ∷ []) IX) (Granted SIX)
    ∷ entry 1 Abort (Aborted 2)
    ∷ []

-- On each level a lock needs its own parent, in what its mode needs. Locks further up, or in another tree, are not enough.
abbrev pub parents_on_each_level : List Entry
parents_on_each_level =
    entry 1 Begin (Began 1)
    ∷ entry 1 (Lock (database 1) IX) (Granted IX)
    ∷ entry 1 (Lock (5 ∷ 2 ∷ []) IS) (Refused ParentNotHeld)
    ∷ entry 1 (Lock (1 ∷ 2 ∷ 3 ∷ []) IS) (Refused ParentNotHeld)
    ∷ entry 1 (Lock (1 ∷ 2 ∷ []) IS) (Granted IS)
    ∷ entry 1 (Lock (1 ∷ 2 ∷ 3 ∷ []) IX) (Refused ParentNotHeld)
    ∷ entry 1 (Lock (1 ∷ 2 ∷ 3 ∷ []) IS) (Granted IS)
    ∷ entry 1 (Lock (1 ∷ 2 ∷ 3 ∷ 4 ∷ []) X) (Refused ParentNotHeld)
    ∷ entry 1 (Lock (1 ∷ 2 ∷ 3 ∷ 4 ∷ []) S) (Granted S)
    ∷ entry 1 (Release (1 ∷ 2 ∷ [])) (Refused ChildHeld)
    ∷ entry 1 Commit (Committed 4)
    ∷ []

-- Each release of a file promotes its queue, up to the first request that doesn't fit.
abbrev pub releases_promote_one_after_another : List Entry
releases_promote_one_after_another =
    entry 1 Begin (Began 1) ∷ entry 2 Begin (Began 2) ∷ entry 3 Begin (Began 3)
    ∷ entry 1 (Lock (database 1) IX) (Granted IX)
    ∷ entry 2 (Lock (database 1) IS) (Granted IS)
    ∷ entry 3 (Lock (database 1) IX) (Granted IX)
    ∷ entry 1 (Lock (1 ∷ 1 ∷ []) X) (Granted X)
    ∷ entry 2 (Lock (1 ∷ 1 ∷ []) S) Waiting
    ∷ entry 3 (Lock (1 ∷ 1 ∷ []) X) Waiting
    ∷ entry 1 (Release (1 ∷ 1 ∷ [])) Released
    ∷ entry 2 Poll Clear
    ∷ entry 3 Poll Waiting
    ∷ entry 2 (Release (1 ∷ 1 ∷ [])) Released
    ∷ entry 3 Poll Clear
    ∷ entry 1 Commit (Committed 1)
    ∷ entry 3 Commit (Committed 2)
    ∷ []

-- A begin is refused if a transaction is open, whether or not it waits. It takes no number and ends nothing.
abbrev pub begins_again : List Entry
begins_again =
    entry 1 Begin (Began 1) ∷ entry 2 Begin (Began 2)
    ∷ entry 1 (Lock (database 1) S) (Granted S)
    ∷ entry 2 (Lock (database 1) X) Waiting
    ∷ entry 1 Begin (Refused AlreadyOpen)
    ∷ entry 2 Begin (Refused AlreadyOpen)
    ∷ entry 2 Poll Waiting
    ∷ entry 3 Begin (Began 3)
    ∷ entry 1 Commit (Committed 1)
    ∷ entry 2 Commit (Committed 1)
    ∷ entry 1 Begin (Began 4)
    ∷ []

-- Polls change nothing: a request waits on, a doom is reported at each poll, and locks are kept.
abbrev pub polls_again : List Entry
polls_again =
    entry 1 Begin (Began 1) ∷ entry 2 Begin (Began 2) ∷ entry 3 Begin (Began 3)
    ∷ entry 1 (Lock (database 1) S) (Granted S)
    ∷ entry 2 (Lock (database 1) S) (Granted S)
    ∷ entry 1 (Lock (database 1) X) Waiting
    ∷ entry 3 (Lock (database 1) X) Waiting
    ∷ entry 1 Poll Waiting ∷ entry 1 Poll Waiting
    ∷ entry 2 (Lock (database 1) X) Deadlock
    ∷ entry 2 Poll Deadlock ∷ entry 2 Poll Deadlock
    ∷ entry 2 Abort (Aborted 1)
    ∷ entry 1 Poll Clear ∷ entry 1 Poll Clear
    ∷ entry 3 Poll Waiting
    ∷ entry 1 Commit (Committed 1)
    ∷ entry 3 Poll Clear
    ∷ []

-- A cycle of five sessions: each waits for the next, and 5, the asker, for 1. The youngest transaction is that of session 2.
abbrev pub circle_of_five : List Entry
circle_of_five =
    entry 1 Begin (Began 1) ∷ entry 3 Begin (Began 2) ∷ entry 4 Begin (Began 3) ∷ entry 5 Begin (Began 4) ∷ entry 2 Begin (Began 5)
    ∷ entry 1 (Lock (database 1) X) (Granted X)
    ∷ entry 2 (Lock (database 2) X) (Granted X)
    ∷ entry 3 (Lock (database 3) X) (Granted X)
    ∷ entry 4 (Lock (database 4) X) (Granted X)
    ∷ entry 5 (Lock (database 5) X) (Granted X)
    ∷ entry 1 (Lock (database 2) S) Waiting
    ∷ entry 2 (Lock (database 3) S) Waiting
    ∷ entry 3 (Lock (database 4) S) Waiting
    ∷ entry 4 (Lock (database 5) S) Waiting
    ∷ entry 5 (Lock (database 1) S) Waiting
    ∷ entry 2 Poll Deadlock
    ∷ entry 3 Poll Waiting
    ∷ entry 2 Abort (Aborted 1)
    ∷ entry 1 Poll Clear
    ∷ entry 5 Poll Waiting
    ∷ []

-- The asker is on a cycle with each of the three readers of database 2. Its call makes three victims.
abbrev pub three_victims : List Entry
three_victims =
    entry 1 Begin (Began 1) ∷ entry 2 Begin (Began 2) ∷ entry 3 Begin (Began 3) ∷ entry 4 Begin (Began 4)
    ∷ entry 1 (Lock (database 1) X) (Granted X)
    ∷ entry 2 (Lock (database 2) S) (Granted S)
    ∷ entry 3 (Lock (database 2) S) (Granted S)
    ∷ entry 4 (Lock (database 2) S) (Granted S)
    ∷ entry 2 (Lock (database 1) S) Waiting
    ∷ entry 3 (Lock (database 1) S) Waiting
    ∷ entry 4 (Lock (database 1) S) Waiting
    ∷ entry 1 (Lock (database 2) X) Waiting
    ∷ entry 4 Poll Deadlock ∷ entry 3 Poll Deadlock ∷ entry 2 Poll Deadlock
    ∷ entry 2 Abort (Aborted 1) ∷ entry 3 Abort (Aborted 1)
    ∷ entry 1 Poll Waiting
    ∷ entry 4 Abort (Aborted 1)
    ∷ entry 1 Poll Clear
    ∷ []

-- Only a session on a cycle with the asker becomes a victim, here 2: not the younger 3, for which the asker waits, and not
-- the younger 4, which waits for the asker. Session 3 waits for 5, which waits for nobody; nobody waits for 4.
abbrev pub beside_the_circle : List Entry
beside_the_circle =
    entry 1 Begin (Began 1) ∷ entry 2 Begin (Began 2) ∷ entry 3 Begin (Began 3) ∷ entry 4 Begin (Began 4) ∷ entry 5 Begin (Began 5)
    ∷ entry 1 (Lock (database 1) X) (Granted X)
    ∷ entry 2 (Lock (database 2) S) (Granted S)
    ∷ entry 3 (Lock (database 2) S) (Granted S)
    ∷ entry 5 (Lock (database 3) X) (Granted X)
    ∷ entry 2 (Lock (database 1) S) Waiting
    ∷ entry 3 (Lock (database 3) S) Waiting
    ∷ entry 4 (Lock (database 1) S) Waiting
    ∷ entry 1 (Lock (database 2) X) Waiting
    ∷ entry 2 Poll Deadlock
    ∷ entry 3 Poll Waiting
    ∷ entry 4 Poll Waiting
    ∷ []

-- A try is granted where a lock would be, and refused where a lock would wait: for another holder, as a conversion too, and
-- for a request that is ahead in the queue. It leaves no request.
abbrev pub tries : List Entry
tries =
    entry 1 Begin (Began 1)
    ∷ entry 1 (Try (database 1) S) (Granted S)
    ∷ entry 2 (Try (database 1) X) (Refused NoTransaction)
    ∷ entry 2 Begin (Began 2)
    ∷ entry 2 (Try (database 1) S) (Granted S)
    ∷ entry 2 (Try (database 1) NL) (Refused NothingAsked)
    ∷ entry 2 (Try (database 1) X) (Refused WouldWait)
    ∷ entry 2 Poll Clear
    ∷ entry 3 Begin (Began 3) ∷ entry 3 (Lock (database 1) X) Waiting
    ∷ entry 4 Begin (Began 4)
    ∷ entry 4 (Try (database 1) S) (Refused WouldWait)
    ∷ entry 4 Poll Clear
    ∷ entry 3 (Try (database 2) S) (Refused IsWaiting)
    ∷ entry 1 (Try (database 1) IS) (Granted S)
    ∷ entry 1 (Try (1 ∷ 2 ∷ []) X) (Refused ParentNotHeld)
    ∷ entry 4 (Try (database 2) X) (Granted X)
    ∷ entry 1 Commit (Committed 1) ∷ entry 2 Commit (Committed 1) ∷ entry 3 Poll Clear
    ∷ []

-- A lock of session 1 would close a cycle with session 2, and does so later. A try is refused, and nobody becomes a victim.
abbrev pub try_closes_no_circle : List Entry
try_closes_no_circle =
    entry 1 Begin (Began 1) ∷ entry 2 Begin (Began 2)
    ∷ entry 1 (Lock (database 1) X) (Granted X)
    ∷ entry 2 (Lock (database 2) X) (Granted X)
    ∷ entry 2 (Lock (database 1) S) Waiting
    ∷ entry 1 (Try (database 2) S) (Refused WouldWait)
    ∷ entry 2 Poll Waiting
    ∷ entry 1 (Lock (database 2) S) Waiting
    ∷ entry 2 Poll Deadlock
    ∷ entry 2 (Try (database 3) S) (Refused IsDoomed)
    ∷ entry 2 Withdraw (Refused IsDoomed)
    ∷ entry 2 Abort (Aborted 1)
    ∷ entry 1 Poll Clear
    ∷ []

-- Requests are taken back: twice from the front of the queue, which grants the next that fits, and a conversion. The session
-- keeps its transaction and its locks.
abbrev pub withdrawals : List Entry
withdrawals =
    entry 1 Withdraw (Refused NoTransaction)
    ∷ entry 1 Begin (Began 1) ∷ entry 2 Begin (Began 2) ∷ entry 3 Begin (Began 3) ∷ entry 4 Begin (Began 4)
    ∷ entry 1 Withdraw (Refused NotWaiting)
    ∷ entry 1 (Lock (database 1) S) (Granted S)
    ∷ entry 2 (Lock (database 2) S) (Granted S)
    ∷ entry 2 (Lock (database 1) X) Waiting
    ∷ entry 3 (Lock (database 1) S) Waiting
    ∷ entry 4 (Lock (database 1) X) Waiting
    ∷ entry 2 Withdraw Withdrawn
    ∷ entry 3 Poll Clear ∷ entry 4 Poll Waiting ∷ entry 2 Poll Clear
    ∷ entry 2 Withdraw (Refused NotWaiting)
    ∷ entry 2 (Lock (database 1) S) Waiting
    ∷ entry 4 Withdraw Withdrawn
    ∷ entry 2 Commit (Committed 2)
    ∷ entry 3 (Convert (database 1) X) Waiting
    ∷ entry 3 Withdraw Withdrawn
    ∷ entry 3 (Release (database 1)) Released
    ∷ entry 3 Commit (Committed 0) ∷ entry 4 Commit (Committed 0) ∷ entry 1 Commit (Committed 1)
    ∷ []

-- A request is taken back from the midst of a queue. Those ahead and behind wait on.
abbrev pub withdrawal_from_the_midst : List Entry
withdrawal_from_the_midst =
    entry 1 Begin (Began 1) ∷ entry 2 Begin (Began 2) ∷ entry 3 Begin (Began 3) ∷ entry 4 Begin (Began 4)
    ∷ entry 1 (Lock (database 1) S) (Granted S)
    ∷ entry 2 (Lock (database 1) X) Waiting
    ∷ entry 3 (Lock (database 1) X) Waiting
    ∷ entry 4 (Lock (database 1) S) Waiting
    ∷ entry 3 Withdraw Withdrawn
    ∷ entry 4 Poll Waiting ∷ entry 2 Poll Waiting
    ∷ entry 1 Commit (Committed 1)
    ∷ entry 2 Poll Clear ∷ entry 4 Poll Waiting
    ∷ entry 2 Commit (Committed 1)
    ∷ entry 4 Poll Clear
    ∷ []

-- A withdrawal comes too late, since the request was granted.
abbrev pub withdrawal_too_late : List Entry
withdrawal_too_late =
    entry 1 Begin (Began 1) ∷ entry 2 Begin (Began 2)
    ∷ entry 1 (Lock (database 1) X) (Granted X)
    ∷ entry 2 (Lock (database 1) S) Waiting
    ∷ entry 1 Commit (Committed 1)
    ∷ entry 2 Withdraw (Refused NotWaiting)
    ∷ entry 2 Poll Clear
    ∷ entry 2 Commit (Committed 1)
    ∷ []
