-- A request that begins to wait, the sessions that it waits for, and through what each of them blocks it.
use Rattle.std.specs.Prelude.{◌≡◌, ◌≢◌, ℕ, if◌then◌else◌, List, [], ◌∷◌, Option, Some, None, option_map}
use Rattle.std.specs.List.{flat_map, range_with_len}
use Rattle.lock_modes.specs.declared.Mode.{Mode}
use Rattle.lock_rules.specs.declared.calls.Call.{Call}
use Rattle.lock_rules.specs.declared.calls.Call.TheVariants.{Begin, Lock, Convert, Poll, Release, Commit, Abort, Try, Withdraw, Restart}
use Rattle.lock_rules.specs.State.{Claim, Table, State, held_mode, is_waiting, request_of, number_of, with_table}
use Rattle.lock_rules.specs.Queue.{queue, with_request}
use Rattle.lock_rules.specs.Waits.{conflicts, stands_before, waits_for}
use Rattle.lock_rules.specs.Step.{target_of}
use Rattle.lock_rules.specs.Effects.{IsNotRefused, IsFree, request}
use Rattle.lock_explain.specs.declared.explanation.Party.{Party}
use Rattle.lock_explain.specs.declared.explanation.Blocker.{Blocker}

-- what `f` lists of each of the sessions 1 to n, by session number
abbrev pub for_sessions : {X : Type 0} → ℕ → (ℕ → List X) → List X
for_sessions n f = flat_map f (range_with_len 1 n)

-- the session with its open transaction
abbrev pub party_of : State → ℕ → Party
party_of st s = record { session = s; transaction = number_of st s }

-- the request that a call of the session makes, with its target, None if the call requests no lock; a try makes that of a lock
abbrev pub request_made : State → ℕ → Call → Option Claim
request_made st s (Lock r m) = Some (request s r (target_of (held_mode st.table s r) m))
request_made st s (Convert r m) = Some (request s r (target_of (held_mode st.table s r) m))
request_made st s Begin = None
request_made st s Poll = None
request_made st s (Release r) = None
request_made st s Commit = None
request_made st s Abort = None
request_made st s (Try r m) = Some (request s r (target_of (held_mode st.table s r) m))
request_made st s Withdraw = None
request_made st s Restart = None

-- the request that a call of the session would make, None also if the session waits already
abbrev pub request_if_free : State → ℕ → Call → Option Claim
request_if_free st s call = if is_waiting st s then None else request_made st s call

-- the call of the session makes this request, which isn't refused, isn't held already, and isn't free to be granted at once
pub record BeginsToWait (st : State) (s : ℕ) (call : Call) (q : Claim) : Type 0 where
  pub accepted : IsNotRefused st s call
  pub made : request_made st s call ≡ Some q
  pub not_held : held_mode st.table q.session q.resource ≢ Some q.mode
  pub not_free : IsFree st.table q.session q.resource q.mode → ⊥

-- the state in which the request waits, before any victim is chosen
abbrev pub waiting_state : State → Claim → State
waiting_state st q = with_table (with_request q.session q.resource q.mode st.table) st

-- the mode held, if it conflicts with the target
abbrev pub held_in_conflict : Mode → Option Mode → Option Mode
held_in_conflict m o = if conflicts m o then o else None

-- the target of session u's request, if it stands ahead of q in the queue of q's resource
abbrev pub request_ahead : Table → Claim → ℕ → Option Mode
request_ahead t q u = if stands_before u q.session (queue t q.resource) then option_map (λ p. p.mode) (request_of u t.requests) else None

-- session u in a list, with what it blocks the waiting request q through, the empty list if q doesn't wait for u
abbrev pub blocker_of : State → Claim → ℕ → List Blocker
blocker_of st q u =
    if waits_for st.table q.session u
    then record { party = party_of st u; held = held_in_conflict q.mode (held_mode st.table u q.resource); ahead = request_ahead st.table q u } ∷ []
    else []

-- the sessions, of 1 to n, that the waiting request q waits for
abbrev pub blockers_of : ℕ → State → Claim → List Blocker
blockers_of n st q = for_sessions n (blocker_of st q)
