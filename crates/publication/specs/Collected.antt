-- What the sessions of a board were told, as the board's state has it, and what goes together of that.
use Rattle.std.specs.Prelude.{◌≡◌, ◌⊎◌, ℕ, ◌<◌, Option, None, List}
use mathlib.Core.Option as opt
use lib.ListN.{get_elem?}
use Rattle.sequential.specs.Histories.{Answered}
use Rattle.publication.specs.Views.{Pending, Handed}
use Rattle.publication.specs.Rule.{BoardState, seat}

module _ {O C R : Type 0} where
  -- The session with this number has its seat at the board, collected these answers and has this call pending.
  pub record IsSeated (s : BoardState O C R) (number : ℕ) (answers : List (Answered C R)) (pending : Option (Pending C)) : Type 0 where
    pub some : 0 < number
    pub named : (seat s number).number ≡ number
    pub answers_are : (seat s number).own.collected ≡ answers
    pub pending_is : (seat s number).own.pending ≡ pending

  -- The session with this number was handed in to close the board, with these answers and no call pending.
  pub record IsHandedIn (s : BoardState O C R) (number : ℕ) (answers : List (Answered C R)) (pending : Option (Pending C)) : Type 0 where
    pub closing : ℕ
    pub place : ℕ
    pub handed : Handed C R
    pub there : get_elem? (seat s closing).others.handed place ≡ opt.some handed
    pub named : handed.number ≡ number
    pub answers_are : handed.collected ≡ answers
    pub settled : pending ≡ None

  -- The session with this number has collected these answers so far, and has this call pending.
  abbrev pub HasCollected : BoardState O C R → ℕ → List (Answered C R) → Option (Pending C) → Type 0
  HasCollected s number answers pending = IsSeated s number answers pending ⊎ IsHandedIn s number answers pending
