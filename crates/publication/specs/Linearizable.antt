-- The calls that sessions make of a board, as events, and the run of the board in which they are carried out.
use Rattle.std.specs.Prelude.{◌≡◌, ◌⊎◌, ℕ, ◌≤◌, Option, Some, None, List, [], ◌∷◌, ◌++◌, map}
use Rattle.sequential.specs.Histories.{Answered}
use Rattle.sequential.specs.Linearizable.{Event, Calls, calls_in, IsWellFormed}
use Rattle.sequential.specs.declared.object.Sequential.{Ghosts}
use Rattle.publication.specs.Views.{Pending}
use Rattle.publication.specs.Rule.{BoardState}
use Rattle.publication.specs.Collected.{HasCollected}
use Rattle.publication.specs.Runs.{IsRun}

-- The pending call, if it is there, is the one that hasn't returned.
abbrev pub IsOfPending : {C : Type 0} → Option (Pending C) → Option C → Type 0
IsOfPending None call = Unit {0}
IsOfPending (Some p) call = call ≡ Some p.call

module _ {C R : Type 0} where
  -- The answered calls with their replies.
  abbrev pub told_in : List (Answered C R) → List (C × R)
  told_in answers = map (λ a. (a.call, a.reply)) answers

  -- What a session has collected and has pending at the board, where these are its calls. Each call that has returned is collected, with
  -- this reply. The one that hasn't isn't published yet, or is pending; or it is collected, and its reply is on the way.
  abbrev pub IsCarriedOut : Calls C R → List (Answered C R) → Option (Pending C) → Type 0
  IsCarriedOut calls answers pending = ((told_in answers ≡ calls.returned) × IsOfPending pending calls.pending)
      ⊎ ((call : C) × (reply : R) × (calls.pending ≡ Some call) × (told_in answers ≡ calls.returned ++ (call, reply) ∷ []) × (pending ≡ None))

module _ {O C R : Type 0} where
  -- After these events, the calls of sessions 1 to n are carried out as far as state s has them.
  abbrev pub AreCarriedOut : ℕ → List (Event C R) → BoardState O C R → Type 0
  AreCarriedOut n before s = (i : ℕ) → 1 ≤ i → i ≤ n
      → (answers : List (Answered C R)) × (pending : Option (Pending C)) × HasCollected s i answers pending × IsCarriedOut (calls_in i before) answers pending

module _ {O C R : Type 0} (obj : Ghosts O C R) where
  -- These are the events of calls that sessions 1 to n make in a run from state s to state t. A call begins before the board's steps for it,
  -- and returns after them: so at each moment between two events the board was in a state, between s
  -- and t, that has carried the calls out. (If several runs lead from s to t, these states may be on any of them.)
  pub record AreEventsOfRun (n : ℕ) (s t : BoardState O C R) (events : List (Event C R)) : Type 0 where
    pub well_formed : IsWellFormed n events
    pub moments : (before after : List (Event C R)) → events ≡ before ++ after → (m : BoardState O C R) × IsRun obj s m × IsRun obj m t × AreCarriedOut n before m
    pub ends : AreCarriedOut n events t
