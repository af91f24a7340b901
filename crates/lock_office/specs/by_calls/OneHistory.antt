-- What holds of a history of calls in which each session finds those that it collected.
use Rattle.std.specs.Prelude.{◌≡◌, ℕ, ◌↔◌, List, ◌++◌, All, Any, Contains}
use Rattle.lock_rules.specs.Entries.{Entry, Answered}
use Rattle.lock_rules.specs.Legal.{state_of}
use Rattle.lock_rules.specs.Laws.{AreRepliesOfSteps, AreHoldersCompatible, IsAccessCompatible, HasNoCircle, DoesGrantStand, DoesDoomStand, DoesRequestStand}
use Rattle.sequential.specs.Histories.{IsEntryOf, ArePlacesRising}
use Rattle.lock_rules.specs.Lawful.{IsLawfulState}

-- One sequential history of these sessions, in which each session, by its number, finds the calls that it collected.
pub record IsOneHistoryOf {T : Type 0} (number : T → ℕ) (collected : T → List Answered) (sessions : List T) (history : List Entry) : Type 0 where
  -- every reply is the one that the sequential lock manager gives at its place
  pub replies : AreRepliesOfSteps history
  -- no two transactions ever hold one resource in modes that conflict in both orders
  pub modes : (front rest : List Entry) → history ≡ front ++ rest → AreHoldersCompatible (state_of front)
  -- no two transactions ever have incompatible access to a resource, directly or through an ancestor
  pub access : (front rest : List Entry) → history ≡ front ++ rest → IsAccessCompatible (state_of front)
  -- no waits ever form a circle
  pub circles : (front rest : List Entry) → history ≡ front ++ rest → HasNoCircle (state_of front)
  -- every state on the way obeys all other laws of states
  pub lawful : (front rest : List Entry) → history ≡ front ++ rest → IsLawfulState (state_of front)
  -- a grant lasts until it is given back, a doom until its session aborts or restarts, and a request until it is granted, its session
  -- becomes a victim, aborts or restarts, or takes it back
  pub grants : (front later rest : List Entry) → history ≡ front ++ later ++ rest → DoesGrantStand front later
  pub dooms : (front later rest : List Entry) → history ≡ front ++ later ++ rest → DoesDoomStand front later
  pub requests : (front later rest : List Entry) → history ≡ front ++ later ++ rest → DoesRequestStand front later
  -- what a session collected are exactly its entries of the history
  pub entries : All (λ session. (a : Answered) → Contains (collected session) a ↔ IsEntryOf (number session) history a) sessions
  -- each session's answers have rising places: each call is in the history once, in the session's order
  pub in_order : All (λ session. ArePlacesRising (collected session)) sessions
  -- every entry is a call of one of these sessions
  pub whose : All (λ entry. Any (λ session. number session ≡ entry.session) sessions) history
