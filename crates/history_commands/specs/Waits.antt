-- The waits of a state, each session's first blocker first, with the place since when the session waits.
use Rattle.std.specs.Prelude.{◌≡◌, ℕ, ◌+◌, ◌<◌, Bool, true, false, not, ◌&&◌, if◌then◌else◌, ◌==◌, List, [], ◌∷◌, ◌++◌, length, map, slice_index_or, Option, Some, None}
use Rattle.std.specs.List.{flat_map, range_with_len}
use Rattle.lock_rules.specs.declared.calls.Call.{Call}
use Rattle.lock_rules.specs.declared.calls.Call.TheVariants.{Lock, Convert}
use Rattle.lock_rules.specs.declared.calls.Reply.{Reply}
use Rattle.lock_rules.specs.declared.calls.Reply.TheVariants.{Waiting}
use Rattle.lock_rules.specs.Entries.{Entry}
use Rattle.lock_rules.specs.State.{Claim, Table, State, holders, request_of}
use Rattle.lock_rules.specs.Queue.{queue}
use Rattle.lock_rules.specs.Waits.{waits_for}
use Rattle.lock_report.specs.declared.snapshot.WaitLine.{WaitLine}

-- the call asks for a lock that it may wait for
abbrev pub may_wait : Call → Bool
may_wait (Lock r m) = true
may_wait (Convert r m) = true
may_wait _ = false

-- the reply is Waiting
abbrev pub is_waiting_reply : Reply → Bool
is_waiting_reply Waiting = true
is_waiting_reply _ = false

-- with the entry a request of the session began to wait
abbrev pub begins_wait : ℕ → Entry → Bool
begins_wait s e = (e.session == s) && (may_wait e.call && is_waiting_reply e.reply)

-- the place of the last of these entries with which a request of the session began to wait, where the first of them is at `place`
-- and `last` is the answer for those before it
abbrev pub since_from : ℕ → ℕ → ℕ → List Entry → ℕ
since_from s last place [] = last
since_from s last place (e ∷ es) = since_from s (if begins_wait s e then place else last) (place + 1) es

-- the place of the last entry with which a request of the session began to wait, 0 if there is none
abbrev pub waits_since : ℕ → List Entry → ℕ
waits_since s history = since_from s 0 0 history

-- for each session below their number these are the places of the last entries with which its request began to wait
abbrev pub AreSince : List Entry → List ℕ → Type 0
AreSince history places = (s : ℕ) → s < length places → slice_index_or places s 0 ≡ waits_since s history

-- the sessions that have a claim on the resource, in the order of a listing: its holders by session number, then its queue
abbrev pub claimants : Table → List ℕ → List ℕ
claimants t r = map (λ h. h.0) (holders r t.held) ++ map (λ q. q.session) (queue t r)

-- the first of the list that passes the test
abbrev pub first_passing : (ℕ → Bool) → List ℕ → Option ℕ
first_passing test [] = None
first_passing test (u ∷ us) = if test u then Some u else first_passing test us

-- the first that blocks the request of session s, of those that have a claim on its resource
abbrev pub first_blocker_of : Table → ℕ → Option Claim → Option ℕ
first_blocker_of t s None = None
first_blocker_of t s (Some q) = first_passing (waits_for t s) (claimants t q.resource)

-- the first blocker of the session, None if it waits for nobody
abbrev pub first_blocker : Table → ℕ → Option ℕ
first_blocker t s = first_blocker_of t s (request_of s t.requests)

-- the wait of session s for u in a list, the empty list if it doesn't wait for u, or u is its first blocker
abbrev pub other_wait : Table → ℕ → ℕ → ℕ → List WaitLine
other_wait t s first u =
    if not (u == first) && waits_for t s u
    then record { wait = record { session = s; other = u }; first = false; since = None } ∷ [] else []

-- the waits of a session that waits since this place: that for its first blocker, then those for others, by session number
abbrev pub waits_behind : ℕ → Table → ℕ → ℕ → Option ℕ → List WaitLine
waits_behind n t s since None = []
waits_behind n t s since (Some first) =
    record { wait = record { session = s; other = first }; first = true; since = Some since } ∷ [] ++ flat_map (other_wait t s first) (range_with_len 1 n)

-- the waits of session s for others, of the sessions 1 to n, in this lock table, to which the history has led
abbrev pub waits_of : ℕ → Table → List Entry → ℕ → List WaitLine
waits_of n t history s = waits_behind n t s (waits_since s history) (first_blocker t s)

-- the waits of the sessions 1 to n in this state of the lock table, to which the history has led, by session number
abbrev pub waits_told : ℕ → State → List Entry → List WaitLine
waits_told n st history = flat_map (λ s. waits_behind n st.table s (waits_since s history) (first_blocker st.table s)) (range_with_len 1 n)

-- a wait that is told with the place since when its session waits, if it is for the first blocker
abbrev pub with_since : List Entry → WaitLine → WaitLine
with_since history w = record { wait = w.wait; first = w.first; since = if w.first then Some (waits_since w.wait.session history) else w.since }
