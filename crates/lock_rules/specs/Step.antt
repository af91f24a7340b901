-- The sequential lock manager: the tests of each call, what it changes, and its reply.
use Rattle.std.specs.Prelude.{ℕ, ◌+◌, Bool, true, false, not, ◌&&◌, if◌then◌else◌, ◌==◌, nat_le, List, [], ◌∷◌, ◌++◌, length, map, Option, Some, None, is_some}
use Rattle.std.specs.List.{list_any}
use Rattle.lock_modes.specs.declared.Mode.{Mode}
use Rattle.lock_modes.specs.declared.Mode.TheVariants.{NL}
use Rattle.lock_modes.specs.Order.{at_or_below, sup_of, need_of}
use Rattle.lock_tree.specs.Paths.{is_ancestor, parent_of, has_parent}
use Rattle.lock_rules.specs.declared.calls.Call.{Call}
use Rattle.lock_rules.specs.declared.calls.Call.TheVariants.{Begin, Lock, Convert, Poll, Release, Commit, Abort, Try, Withdraw, Restart}
use Rattle.lock_rules.specs.declared.calls.Reply.{Reply}
use Rattle.lock_rules.specs.declared.calls.Reply.TheVariants.{Began, Granted, Waiting, Deadlock, Clear, Released, Committed, Aborted, Refused, Withdrawn, Restarted}
use Rattle.lock_rules.specs.declared.calls.Why.{Why}
use Rattle.lock_rules.specs.declared.calls.Why.TheVariants.{AlreadyOpen, NoTransaction, IsWaiting, IsDoomed, NothingAsked, NotHeld, ParentNotHeld, ChildHeld, TooManyLocks, WouldWait, NotWaiting}
use Rattle.lock_rules.specs.declared.calls.Transaction.{Transaction}
use Rattle.lock_rules.specs.declared.calls.TheConstants.{MAX_LOCKS}
use Rattle.lock_rules.specs.State.{Table, State, held_mode, mode_or_nothing, request_of, claims_of, claims_but, is_open, is_waiting, is_doomed, with_begun, with_table}
use Rattle.lock_rules.specs.Waits.{resource_of_request, after_cancel, after_victims}
use Rattle.lock_rules.specs.Queue.{locks_but, after_grant, is_granted_at_once, with_request, after_promotion, after_promotions}

-- the state after a call, and its reply
pub record Outcome : Type 0 where
  pub state : State
  pub reply : Reply

-- the mode is NL, which asks for nothing
abbrev pub is_nothing : Mode → Bool
is_nothing NL = true
is_nothing _ = false

-- the target of a request: the least mode at or above both the mode held, if any, and the mode asked
abbrev pub target_of : Option Mode → Mode → Mode
target_of o m = sup_of (mode_or_nothing o) m

-- the parent rule is broken: r has a parent, and the session's lock on it doesn't cover what mode m needs
abbrev pub lacks_parent : Table → ℕ → List ℕ → Mode → Bool
lacks_parent t s r m = has_parent r && not (at_or_below (need_of m) (mode_or_nothing (held_mode t s (parent_of r))))

-- there is a held mode, and it covers m
abbrev pub is_held : Option Mode → Mode → Bool
is_held None m = false
is_held (Some k) m = at_or_below m k

-- a request for the target m would wait: the session's lock doesn't cover it, and it isn't granted at once
abbrev pub would_wait : Table → ℕ → List ℕ → Mode → Bool
would_wait t s r m = not (is_held (held_mode t s r) m) && not (is_granted_at_once t s r m)

-- the session holds a lock on a descendant of the resource
abbrev pub holds_child : Table → ℕ → List ℕ → Bool
holds_child t s r = list_any (λ c. (c.session == s) && is_ancestor r c.resource) t.held

-- the tests of a request for a lock, in order: whether each fails, and the refusal that it gives
abbrev pub lock_tests : State → ℕ → List ℕ → Mode → List (Bool × Why)
lock_tests st s r m =
    (not (is_open st s), NoTransaction)
    ∷ (is_waiting st s, IsWaiting)
    ∷ (is_doomed st s, IsDoomed)
    ∷ (is_nothing m, NothingAsked)
    ∷ (lacks_parent st.table s r (target_of (held_mode st.table s r) m), ParentNotHeld)
    ∷ (not (is_some (held_mode st.table s r)) && nat_le MAX_LOCKS (length (claims_of s st.table.held)), TooManyLocks)
    ∷ []

-- the tests of a call, in order: whether each fails, and the refusal that it gives
abbrev pub tests : State → ℕ → Call → List (Bool × Why)
tests st s Begin = (is_open st s, AlreadyOpen) ∷ []
tests st s (Lock r m) = lock_tests st s r m
tests st s (Convert r m) =
    (not (is_open st s), NoTransaction)
    ∷ (is_waiting st s, IsWaiting)
    ∷ (is_doomed st s, IsDoomed)
    ∷ (is_nothing m, NothingAsked)
    ∷ (not (is_some (held_mode st.table s r)), NotHeld)
    ∷ (lacks_parent st.table s r (target_of (held_mode st.table s r) m), ParentNotHeld)
    ∷ []
tests st s Poll = (not (is_open st s), NoTransaction) ∷ []
tests st s (Release r) =
    (not (is_open st s), NoTransaction)
    ∷ (is_waiting st s, IsWaiting)
    ∷ (is_doomed st s, IsDoomed)
    ∷ (not (is_some (held_mode st.table s r)), NotHeld)
    ∷ (holds_child st.table s r, ChildHeld)
    ∷ []
tests st s Commit = (not (is_open st s), NoTransaction) ∷ (is_waiting st s, IsWaiting) ∷ (is_doomed st s, IsDoomed) ∷ []
tests st s Abort = (not (is_open st s), NoTransaction) ∷ []
tests st s (Try r m) = lock_tests st s r m ++ (would_wait st.table s r (target_of (held_mode st.table s r) m), WouldWait) ∷ []
tests st s Withdraw = (not (is_open st s), NoTransaction) ∷ (is_doomed st s, IsDoomed) ∷ (not (is_waiting st s), NotWaiting) ∷ []
tests st s Restart = (not (is_open st s), NoTransaction) ∷ []

-- the refusal of the first test that fails, None if all pass
abbrev pub first_failing : List (Bool × Why) → Option Why
first_failing [] = None
first_failing (t ∷ ts) = if t.0 then Some t.1 else first_failing ts

-- the state after a request begins to wait and its deadlocks are resolved
-- Each victim has a waiting request and loses it, so this number of rounds is enough.
abbrev pub after_wait : State → ℕ → List ℕ → Mode → State
after_wait st s r m = after_victims (length st.table.requests + 2) s (with_table (with_request s r m st.table) st)

-- the state after a request for the target m: unchanged if the session's lock covers it, else after a grant or a wait
abbrev pub after_asking : State → ℕ → List ℕ → Mode → State
after_asking st s r m =
    if is_held (held_mode st.table s r) m then st
    else (if is_granted_at_once st.table s r m then with_table (after_grant s r m st.table) st else after_wait st s r m)

-- a request for the target m; its reply is Deadlock if the asker became a victim, Waiting if it still waits, else Granted
abbrev pub ask : State → ℕ → List ℕ → Mode → Outcome
ask st s r m =
    let after = after_asking st s r m in
    record { state = after; reply = if is_doomed after s then Deadlock else (if is_waiting after s then Waiting else Granted m) }

-- the table after a release: the lock is removed, and its resource is promoted
abbrev pub after_release : ℕ → List ℕ → Table → Table
after_release s r t = after_promotion r (record { held = locks_but s r t.held; requests = t.requests })

-- the table without the session's locks and its request
abbrev pub without_claims : ℕ → Table → Table
without_claims s t = record { held = claims_but s t.held; requests = claims_but s t.requests }

-- the table after a transaction ends: its locks and its request are removed, and each of their resources is promoted
abbrev pub after_end : ℕ → Table → Table
after_end s t = after_promotions (resource_of_request (request_of s t.requests) ++ map (λ c. c.resource) (claims_of s t.held)) (without_claims s t)

-- the transaction as a restart leaves it: with its number, not doomed
abbrev pub restarted : Option Transaction → Option Transaction
restarted None = None
restarted (Some x) = Some (record { number = x.number; doomed = false })

-- what a call does if all its tests pass, and its reply
abbrev pub act : State → ℕ → Call → Outcome
act st s Begin = record {
  state = with_begun s (Some (record { number = st.count + 1; doomed = false })) (record { count = st.count + 1; begun = st.begun; table = st.table });
  reply = Began (st.count + 1);
}
act st s (Lock r m) = ask st s r (target_of (held_mode st.table s r) m)
act st s (Convert r m) = ask st s r (target_of (held_mode st.table s r) m)
act st s Poll = record { state = st; reply = if is_doomed st s then Deadlock else (if is_waiting st s then Waiting else Clear) }
act st s (Release r) = record { state = with_table (after_release s r st.table) st; reply = Released }
act st s Commit = record {
  state = with_begun s None (with_table (after_end s st.table) st);
  reply = Committed (length (claims_of s st.table.held));
}
act st s Abort = record {
  state = with_begun s None (with_table (after_end s st.table) st);
  reply = Aborted (length (claims_of s st.table.held));
}
act st s (Try r m) = ask st s r (target_of (held_mode st.table s r) m)
act st s Withdraw = record { state = with_table (after_cancel s st.table) st; reply = Withdrawn }
act st s Restart = record {
  state = with_begun s (restarted (st.begun s)) (with_table (after_end s st.table) st);
  reply = Restarted (length (claims_of s st.table.held));
}

-- a refused call changes nothing; any other call acts
abbrev pub outcome_of : Option Why → State → ℕ → Call → Outcome
outcome_of (Some why) st s call = record { state = st; reply = Refused why }
outcome_of None st s call = act st s call

-- one call of one session: refused by the first test that fails, else it acts
abbrev pub step : State → ℕ → Call → Outcome
step st s call = outcome_of (first_failing (tests st s call)) st s call
