-- The events of a state: what the sessions of a board have noted of their own calls by then, each with its moment.
use Rattle.std.specs.Prelude.{◌≡◌, ◌≢◌, ◌⊎◌, ℕ, ◌+◌, Option, List, [], ◌∷◌, map}
use mathlib.Core.Option as opt
use lib.ListN.{get_elem?}
use Rattle.sequential.specs.Histories.{Answered}
use Rattle.sequential.specs.Linearizable.{Event, Calls}
use Rattle.publication.specs.Moments.{noted_by}
use Rattle.publication.specs.Views.{Pending}
use Rattle.publication.specs.Rule.{BoardState, call_of}
use Rattle.publication.specs.declared.view.View.{View}

module _ {O C R : Type 0} where
  -- The view of this seat is v.
  abbrev pub HasView : BoardState O C R → ℕ → View C R → Type 0
  HasView s k v = get_elem? s.views k ≡ opt.some v

module _ {C R : Type 0} where
  -- The view says that this is all that session i has noted: the session's own view, or that of the seat to which it was handed in.
  abbrev pub Tells : View C R → ℕ → List (ℕ × Event C R) → Type 0
  Tells v i log = ((v.number ≢ 0) × (v.number ≡ i) × (v.own.log ≡ log)) ⊎ ((p : ℕ) × (get_elem? v.others.logs p ≡ opt.some (i, log)))

module _ {O C R : Type 0} where
  -- These are the events of a state: what each session has noted is what it has of them, and there are no others.
  pub record AreEventsOf (s : BoardState O C R) (events : List (Event C R)) : Type 0 where
    pub noted_so : (k : ℕ) (v : View C R) (i : ℕ) (log : List (ℕ × Event C R)) → HasView s k v → Tells v i log → log ≡ noted_by i events
    pub no_others : (i : ℕ) → noted_by i events ≢ [] → (k : ℕ) × (v : View C R) × HasView s k v × Tells v i (noted_by i events)

module _ {C R : Type 0} where
  -- The calls of a session that has collected these answers and has this call pending: the answered ones have returned.
  abbrev pub calls_told : List (Answered C R) → Option (Pending C) → Calls C R
  calls_told answers pending = record { returned = map (λ a. (a.call, a.reply)) answers; pending = call_of pending }

  -- These events have the moments from this one on, one after another.
  abbrev pub AreFrom : ℕ → List (ℕ × Event C R) → Type 0
  AreFrom moment [] = Unit {0}
  AreFrom moment (x ∷ xs) = (x.0 ≡ moment) × AreFrom (moment + 1) xs
