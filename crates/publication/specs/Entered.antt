-- Which session entered which places of the history.
use Rattle.std.specs.Prelude.{◌≡◌, ◌⊎◌, ℕ, ◌<◌, List, length, slice_index, Contains}
use mathlib.Core.Option as opt
use lib.ListN.{get_elem?}
use Rattle.publication.specs.Views.{Handed}
use Rattle.publication.specs.Rule.{BoardState, seat}
use Rattle.publication.specs.BoardHistory.{history_of}
use Rattle.sequential.specs.declared.object.Sequential.{Ghosts}

module _ {O C R : Type 0} where
  -- The session with this number has its seat at the board, and has entered these places of the history as the combiner.
  pub record HasEnteredAtSeat (s : BoardState O C R) (number : ℕ) (places : List ℕ) : Type 0 where
    pub some : 0 < number
    pub named : (seat s number).number ≡ number
    pub places_are : (seat s number).combiner.entered ≡ places

  -- The session with this number was handed in to close the board, and had entered these places of the history.
  pub record HasEnteredHandedIn (s : BoardState O C R) (number : ℕ) (places : List ℕ) : Type 0 where
    pub closing : ℕ
    pub place : ℕ
    pub handed : Handed C R
    pub there : get_elem? (seat s closing).others.handed place ≡ opt.some handed
    pub named : handed.number ≡ number
    pub places_are : handed.entered ≡ places

  -- The session with this number has entered these places of the history so far: it answered a call there, or entered one of
  -- its own directly.
  abbrev pub HasEnteredPlaces : BoardState O C R → ℕ → List ℕ → Type 0
  HasEnteredPlaces s number places = HasEnteredAtSeat s number places ⊎ HasEnteredHandedIn s number places

-- Each place is later than the one before it.
abbrev pub AreRising : List ℕ → Type 0
AreRising places = (j k : ℕ) → j < k → k < length places → slice_index places j < slice_index places k

module _ {O C R : Type 0} (obj : Ghosts O C R) where
  -- Each place of the history was entered by exactly one session, once.
  pub record AreEnteredOnce (s : BoardState O C R) : Type 0 where
    -- each place of the history is among those of some session
    pub each : (place : ℕ) → place < length (history_of obj s) → (number : ℕ) × (places : List ℕ) × HasEnteredPlaces s number places × Contains places place
    -- and among those of no other
    pub apart : (i j : ℕ) (mine theirs : List ℕ) (place : ℕ) → HasEnteredPlaces s i mine → HasEnteredPlaces s j theirs → Contains mine place → Contains theirs place → i ≡ j
    -- what a session entered are places of the history
    pub within : (number : ℕ) (places : List ℕ) (place : ℕ) → HasEnteredPlaces s number places → Contains places place → place < length (history_of obj s)
    -- and it entered them in their order, each once
    pub rising : (number : ℕ) (places : List ℕ) → HasEnteredPlaces s number places → AreRising places
