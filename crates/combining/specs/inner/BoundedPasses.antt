-- A combiner in a pass that serves calls within a bound.
use Rattle.std.specs.Prelude.{◌≡◌, ◌≢◌, ◌⊎◌, ℕ, ◌*◌, ◌<◌, ◌≤◌, ◌↔◌, Bool, true, false, IsTrue, None, List, length, vec_len}
use Rattle.std.specs.Global.{Vec}
use mathlib.Core.List.{IsPrefix}
use Rattle.sequential.specs.declared.entry.Entry.{Entry}
use Rattle.sequential.specs.declared.entry.Item.{Item}
use Rattle.sequential.specs.Batches.{asked_by}
use Rattle.sequential.specs.Histories.{calls_of}
use Rattle.publication.specs.Views.{TicketView}
use Rattle.publication.specs.Boards.{heard_from, published_by}
use Rattle.publication.specs.declared.slot.Load.{Load}
use Rattle.combining.specs.Rounds.{weight_of, IsLight, IsUnmet, HaveLed, IsFull}
use Rattle.combining.specs.declared.bounds.PassBound.{PassBound}
use Rattle.combining.specs.declared.bounds.TheConstants.{MAX_WEIGHT}
use Rattle.combining.specs.inner.Passes.{HasPassed}

-- A round that has opened so many calls, of so much weight, takes no further one.
abbrev pub IsFilled : PassBound → ℕ → ℕ → Type 0
IsFilled bound opened weight = (bound.calls ≤ opened) ⊎ (bound.weight ≤ weight)

module _ {C R : Type 0} (weight : List (Entry C R) → ℕ → C → ℕ) where
  -- The calls that a round has opened behind this history keep within the bound, and weigh so much in all.
  pub record IsWithin (bound : PassBound) (history : List (Entry C R)) (row : Vec (Item C R)) (opened : ℕ) : Type 0 where
    pub few : vec_len row ≤ bound.calls
    pub weight_is : opened ≡ weight_of weight history (asked_by row.items)
    pub light : IsLight weight bound.weight history (asked_by row.items)
    pub slight : opened ≤ length row.items * MAX_WEIGHT

module _ {O C R : Type 0} (weight : List (Entry C R) → ℕ → C → ℕ) where
  -- So many rounds within the bound.
  pub record HasServedWithin (n : ℕ) (bound : PassBound) (made : ℕ) (before after : TicketView C R) (old new : Load O C R) (served : ℕ) (starved left : Bool) : Type 0 where
    pub passed : HasPassed before after served
    pub longer : IsPrefix before.front after.front
    pub few : served ≤ made * bound.calls
    pub led : starved ≡ false → HaveLed weight bound made before.front after.front
    -- a call was left only by a round that served as much as it may
    pub full : starved ≡ false → left ≡ true → IsFull weight bound served after.front
    pub put_back : IsTrue starved ↔ (before.put_backs < after.put_backs)
    pub kept : starved ≡ false → after.put_backs ≡ before.put_backs
    -- no call is left by a bound that no pass meets
    pub all : IsUnmet bound → left ≡ false
    -- the session's own call is served, also if others are left
    pub own : starved ≡ false → before.pending ≢ None → published_by before ≤ length (calls_of before.number after.front)
    pub heard : starved ≡ false → left ≡ false → (j : ℕ) → 0 < j → j ≤ n → heard_from before j ≤ length (calls_of j after.front)
    -- no piece of the history was taken
    pub taken : new.pieces.items ≡ old.pieces.items
