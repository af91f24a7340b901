-- The deadlocks that a call makes.
use Rattle.std.specs.Prelude.{ℕ, zero, suc, ◌+◌, if◌then◌else◌, List, [], ◌∷◌, length, map, Option, Some, None}
use Rattle.lock_modes.specs.declared.Mode.{Mode}
use Rattle.lock_rules.specs.declared.calls.Call.{Call}
use Rattle.lock_rules.specs.declared.calls.Call.TheVariants.{Begin, Lock, Convert, Poll, Release, Commit, Abort, Try, Withdraw, Restart}
use Rattle.lock_rules.specs.declared.calls.Why.{Why}
use Rattle.lock_rules.specs.State.{State, held_mode, with_table}
use Rattle.lock_rules.specs.Queue.{is_granted_at_once, with_request}
use Rattle.lock_rules.specs.Waits.{reaches, victim_of, after_victim}
use Rattle.lock_rules.specs.Step.{target_of, is_held, tests, first_failing}

-- the states in which victims are chosen one after another while session s is on a cycle, at most n of them
abbrev pub deadlocked_states : ℕ → ℕ → State → List State
deadlocked_states zero s st = []
deadlocked_states (suc n) s st = if reaches st.table s s then st ∷ deadlocked_states n s (after_victim (victim_of st s) st) else []

-- those of a request for the target m: none if the session's lock covers it or it is granted at once, else those that begin with
-- its wait
abbrev pub deadlocks_of_request : State → ℕ → List ℕ → Mode → List State
deadlocks_of_request st s r m =
    if is_held (held_mode st.table s r) m then []
    else (if is_granted_at_once st.table s r m then [] else deadlocked_states (length st.table.requests + 2) s (with_table (with_request s r m st.table) st))

-- those of a call that asks for mode m on the resource, none if the call is refused
abbrev pub deadlocks_unless_refused : Option Why → State → ℕ → List ℕ → Mode → List State
deadlocks_unless_refused (Some why) st s r m = []
deadlocks_unless_refused None st s r m = deadlocks_of_request st s r (target_of (held_mode st.table s r) m)

-- the deadlocks that the call of the session makes: the state of each before its victim is doomed
abbrev pub deadlocks_of : State → ℕ → Call → List State
deadlocks_of st s (Lock r m) = deadlocks_unless_refused (first_failing (tests st s (Lock r m))) st s r m
deadlocks_of st s (Convert r m) = deadlocks_unless_refused (first_failing (tests st s (Convert r m))) st s r m
deadlocks_of st s (Try r m) = deadlocks_unless_refused (first_failing (tests st s (Try r m))) st s r m
deadlocks_of st s Begin = []
deadlocks_of st s Poll = []
deadlocks_of st s (Release r) = []
deadlocks_of st s Commit = []
deadlocks_of st s Abort = []
deadlocks_of st s Withdraw = []
deadlocks_of st s Restart = []

-- a deadlock of a history: the place of the call that made it, the session of the call, and the state before the victim is
-- doomed
pub record Moment : Type 0 where
  pub place : ℕ
  pub session : ℕ
  pub state : State

-- the moments of the deadlocks of one call
abbrev pub moments_at : ℕ → ℕ → List State → List Moment
moments_at place s sts = map (λ st. record { place = place; session = s; state = st }) sts
