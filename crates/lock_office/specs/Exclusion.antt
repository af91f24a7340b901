-- What goes together of what the sessions of a board were told.
use Rattle.std.specs.Prelude.{◌≢◌, ◌⊎◌, ℕ, Option, List}
use Rattle.lock_modes.specs.declared.Mode.{Mode}
use Rattle.lock_modes.specs.declared.Mode.TheVariants.{X}
use Rattle.lock_rules.specs.Laws.{GoTogether}
use Rattle.sequential.specs.Histories.{Answered as AnsweredOf}
use Rattle.publication.specs.Views.{Pending as PendingOf}
use Rattle.publication.specs.Rule.{BoardState as BoardStateOf}
use Rattle.publication.specs.Collected.{HasCollected}
use Rattle.lock_office.specs.by_calls.HoldsAsTold.{MayReadAsTold, MayWriteAsTold}

-- Of any board, by what says which lock a session with these answers and this pending call holds as told.
module _ {O C R : Type 0} (Told : List (AnsweredOf C R) → Option (PendingOf C) → List ℕ → Mode → Type 0) where
  -- The modes in which two sessions were told that they hold one resource are compatible in at least one order.
  abbrev pub DoToldModesGoTogether : BoardStateOf O C R → Type 0
  DoToldModesGoTogether s = (i j : ℕ) (mine theirs : List (AnsweredOf C R)) (my_pending their_pending : Option (PendingOf C))
      → i ≢ j → HasCollected s i mine my_pending → HasCollected s j theirs their_pending
      → (r : List ℕ) (m k : Mode) → Told mine my_pending r m → Told theirs their_pending r k → GoTogether m k

  -- If one session was told that it holds a resource in X, no other session was told that it holds it in any mode.
  abbrev pub IsExclusiveAsTold : BoardStateOf O C R → Type 0
  IsExclusiveAsTold s = (i j : ℕ) (mine theirs : List (AnsweredOf C R)) (my_pending their_pending : Option (PendingOf C))
      → i ≢ j → HasCollected s i mine my_pending → HasCollected s j theirs their_pending
      → (r : List ℕ) (k : Mode) → Told mine my_pending r X → Told theirs their_pending r k → ⊥

  -- If one session was told that it may write a resource, outright or through an ancestor, no other session was told that
  -- it may read or write it, outright or through an ancestor.
  abbrev pub IsAccessApartAsTold : BoardStateOf O C R → Type 0
  IsAccessApartAsTold s = (i j : ℕ) (mine theirs : List (AnsweredOf C R)) (my_pending their_pending : Option (PendingOf C))
      → i ≢ j → HasCollected s i mine my_pending → HasCollected s j theirs their_pending
      → (x : List ℕ) → MayWriteAsTold (Told mine my_pending) x → MayReadAsTold (Told theirs their_pending) x ⊎ MayWriteAsTold (Told theirs their_pending) x → ⊥
