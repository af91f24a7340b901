-- The state of a ticket's seat between two calls, and what a step needs of a seat.
use Rattle.std.specs.Prelude.{◌≡◌, ◌≢◌, ℕ, ◌+◌, ◌<◌, ◌≤◌, Bool, true, false, cond, is_some, None, List, [], ◌∷◌, length, slice_index}
use mathlib.Core.Option as opt
use lib.ListN.{get_elem?}
use Rattle.atomic_table.specs.Seated.{TableId}
use Rattle.atomic_table.specs.declared.shared.Seat.{Seat}
use Rattle.publication.specs.Words.{word_of}
use Rattle.publication.specs.Views.{IsAccountedIn}
use Rattle.publication.specs.Rule.{new_session}
use Rattle.publication.specs.StepKinds.{Seated}
use Rattle.publication.specs.declared.view.View.{View}
use Rattle.publication.specs.declared.slot.SlotValue.{SlotValue}
use Rattle.publication.specs.declared.slot.SlotValue.TheVariants.{Empty}

module _ {O C R : Type 0} where
  -- The slots that a session carries between two calls: its own record's slot if no call is pending, else none.
  abbrev pub own_slot : Bool → ℕ → List (ℕ × SlotValue O C R)
  own_slot is_pending number = cond is_pending [] ((number, Empty) ∷ [])

  -- The slots that a session carries: the combiner has the lock's slot in front of the others.
  abbrev pub object_slot : Bool → List (ℕ × SlotValue O C R) → List (ℕ × SlotValue O C R)
  object_slot has_object others = cond has_object ((0, Empty) ∷ others) others

  -- The seat of a ticket between two calls. The ticket's plain fields (session number, number of known entries, four
  -- flags) agree with the seat's view, no step is half done, and the seat carries the slots that the flags say.
  pub record IsBetweenCalls (m : Seated O C R) (number seen : ℕ) (has_object is_pending is_listed is_retired : Bool) : Type 0 where
    pub number_is : m.0.number ≡ number
    pub some_number : 0 < number
    pub seen_is : length m.0.front ≡ seen
    pub started : m.0.own.started ≡ true
    pub retired : m.0.own.retired ≡ is_retired
    pub pending : is_some m.0.own.pending ≡ is_pending
    pub object : m.0.combiner.has_object ≡ has_object
    pub hand : m.0.combiner.hand ≡ 0
    pub listed : m.0.own.listed ≡ is_listed
    pub heard_few : slice_index m.0.heard number ≤ length m.0.own.collected + cond is_pending 1 0
    pub heard : is_pending ≡ true → is_listed ≡ true → slice_index m.0.heard number ≡ length m.0.own.collected + 1
    pub wide : number < length m.0.heard
    pub all_made : m.0.others.all_made ≡ true
    pub accounted : IsAccountedIn m.0.front m.0.number m.0.own.collected m.0.own.pending
    pub no_head_seen : m.0.listing.head_seen ≡ None
    pub whole : m.0.listing.off ≡ 0
    pub routed : has_object ≡ false → m.0.listing.route ≡ []
    pub unknown : has_object ≡ false → m.0.pieces.all ≡ []
    pub carried : m.1 ≡ object_slot has_object (own_slot is_pending number)

module _ {C R : Type 0} where
  -- The session is the combiner, and has no record's slot in hand.
  pub record IsCombiner (v : View C R) : Type 0 where
    pub session : v.number ≢ 0
    pub object : v.combiner.has_object ≡ true
    pub empty : v.combiner.hand ≡ 0

-- A table with one record and one slot for the lock and for each session.
pub record IsBoard (id : TableId) : Type 0 where
  pub words : id.words ≡ word_of id.slots
  pub some : 0 < id.slots
  pub few : id.slots < 65535

-- `at` is a session's number, below the number of slots.
pub record IsAt (id : TableId) (at : ℕ) : Type 0 where
  pub some : 0 < at
  pub there : at < id.slots

module _ {O C R : Type 0} where
  -- The seat at index k is that of the new session k + 1, which carries no slot.
  abbrev pub AreNewSeats : TableId → ℕ → List (Seat (SlotValue O C R) (View C R)) → Type 0
  AreNewSeats id slots seats = (k : ℕ) (seat : Seat (SlotValue O C R) (View C R)) → get_elem? seats k ≡ opt.some seat → (seat.table_id ≡ id) × (seat.me ≡ (new_session slots (k + 1), []))
