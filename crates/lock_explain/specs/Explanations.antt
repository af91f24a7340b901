-- What an explanation tells of a call.
use Rattle.std.specs.Prelude.{◌≡◌, ℕ, Bool, true, false, ◌&&◌, not, List, [], ◌∷◌, Option, Some, None, IfSome, IfNone, Contains}
use Rattle.lock_rules.specs.declared.calls.Call.{Call}
use Rattle.lock_rules.specs.declared.calls.Call.TheVariants.{Lock, Convert}
use Rattle.lock_rules.specs.declared.calls.Reply.{Reply}
use Rattle.lock_rules.specs.declared.calls.Reply.TheVariants.{Waiting, Deadlock, Refused}
use Rattle.lock_rules.specs.State.{Claim, State, is_waiting, is_doomed}
use Rattle.lock_rules.specs.Step.{step}
use Rattle.lock_rules.specs.Effects.{IsNotRefused}
use Rattle.lock_rules.specs.Listing.{listed_as, kind_of_request}
use Rattle.lock_explain.specs.declared.explanation.Edge.{Edge}
use Rattle.lock_explain.specs.declared.explanation.Party.{Party}
use Rattle.lock_explain.specs.declared.explanation.Wait.{Wait}
use Rattle.lock_explain.specs.declared.explanation.Explanation.{Explanation}
use Rattle.lock_explain.specs.Refused.{IsRefusalOf}
use Rattle.lock_explain.specs.Waiting.{BeginsToWait, waiting_state, blockers_of}
use Rattle.lock_explain.specs.Cycles.{cycle_of, edges_of}
use Rattle.lock_explain.specs.Endings.{AreNewVictims, granted_requests}

-- with sessions 1 to n, the request with which the call of session s begins to wait, what it waits for, and the cycles that it closes
pub record IsWaitOfCall (n : ℕ) (st : State) (s : ℕ) (call : Call) (w : Wait) : Type 0 where
  pub request : Claim
  pub begins : BeginsToWait st s call request
  pub told : w.request ≡ listed_as st (kind_of_request st request) request
  pub blockers : w.blockers.items ≡ blockers_of n (waiting_state st request) request
  pub cycle : w.cycle.items ≡ cycle_of n (waiting_state st request) s
  pub edges : w.edges.items ≡ edges_of n (waiting_state st request) s
  -- after the call the session neither waits nor is a victim
  pub granted : w.granted ≡ (not (is_waiting (step st s call).state s) && not (is_doomed (step st s call).state s))

-- with sessions 1 to n, what the call of session s did in this state, and why
pub record IsExplanation (n : ℕ) (st : State) (s : ℕ) (call : Call) (e : Explanation) : Type 0 where
  -- the refusal is told exactly if the call was refused
  pub refused : IfSome e.refusal (IsRefusalOf n st s call)
  pub accepted : IfNone e.refusal (IsNotRefused st s call)
  -- the wait is told exactly if a request of the call began to wait
  pub wait : IfSome e.wait (IsWaitOfCall n st s call)
  pub no_wait : IfNone e.wait ((q : Claim) → BeginsToWait st s call q → ⊥)
  pub victims : AreNewVictims n st (step st s call).state e.victims.items
  pub granted : e.granted.items ≡ granted_requests n s st (step st s call).state

-- the sessions that are told as on a cycle with the caller, none if no wait is told
abbrev pub cycle_told : Option Wait → List Party
cycle_told None = []
cycle_told (Some w) = w.cycle.items

-- the waits for one another that are told of these sessions, none if no wait is told
abbrev pub edges_told : Option Wait → List Edge
edges_told None = []
edges_told (Some w) = w.edges.items

-- the session is told as on a cycle with the caller
abbrev pub IsToldOnCycle : Option Wait → ℕ → Type 0
IsToldOnCycle o u = (p : Party) × Contains (cycle_told o) p × (p.session ≡ u)

-- each session told as on a cycle is told to wait for another of them, and every wait told is of one of them for another
pub record AreWaitsToldClosed (e : Explanation) : Type 0 where
  pub onward : (u : ℕ) → IsToldOnCycle e.wait u → (v : ℕ) × Contains (edges_told e.wait) (record { session = u; other = v })
  pub among : (edge : Edge) → Contains (edges_told e.wait) edge → IsToldOnCycle e.wait edge.session × IsToldOnCycle e.wait edge.other

-- each victim told is among the sessions told as on a cycle, and a cycle is told only with a victim
pub record AreVictimsOnCycleTold (e : Explanation) : Type 0 where
  pub on_cycle : (p : Party) → Contains e.victims.items p → Contains (cycle_told e.wait) p
  pub no_victim : e.victims.items ≡ [] → cycle_told e.wait ≡ []

-- a reply that tells of a wait: the caller waits, or is a victim
abbrev pub tells_of_wait : Reply → Bool
tells_of_wait Waiting = true
tells_of_wait Deadlock = true
tells_of_wait _ = false

-- the call was refused, its own request waited, or it ended the wait of another session
abbrev pub is_eventful : Call → Reply → List ℕ → Bool
is_eventful call (Refused why) ended = true
is_eventful (Lock r m) reply [] = tells_of_wait reply
is_eventful (Convert r m) reply [] = tells_of_wait reply
is_eventful call reply [] = false
is_eventful call reply (u ∷ us) = true
