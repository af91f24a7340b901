-- Whose waits a session's passes have ended.
use Rattle.std.specs.Prelude.{◌≡◌, ◌≢◌, ◌⊎◌, ℕ, ◌<◌, ◌≤◌, ◌↔◌, Option, IfSome, List, length, take, drop, slice_index, max, Contains}
use mathlib.Core.List.{IsPrefix}
use Rattle.sequential.specs.declared.entry.Entry.{Entry}
use Rattle.sequential.specs.EndedWaits.{HasEndedIn, HasEndedAt}
use Rattle.publication.specs.Views.{TicketView}

-- What contracts see of a list of sessions: for how many sessions it has room, and which are in it.
pub record WokenView : Type 0 where
  pub room : ℕ
  pub list : List ℕ

-- There is room for the sessions from 1 to n: room for so many, or none is needed.
abbrev pub HasRoom : Option ℕ → ℕ → Type 0
HasRoom room n = IfSome room (λ most. n ≤ most)

-- No session is in the list twice.
abbrev pub IsOnce : List ℕ → Type 0
IsOnce list = (j k : ℕ) → j < k → k < length list → slice_index list j ≢ slice_index list k

module _ {C R : Type 0} where
  -- The places of the history that the session has entered meanwhile.
  abbrev pub entered_since : TicketView C R → TicketView C R → List ℕ
  entered_since before after = drop (length before.entered) after.entered

module _ {C R : Type 0} (ends : List (Entry C R) → Entry C R → ℕ → Type 0) where
  -- Session u is one of those from 1 to n, and its wait was ended by an entry from this place of the history on.
  abbrev pub IsEndedFrom : ℕ → List (Entry C R) → ℕ → ℕ → Type 0
  IsEndedFrom n history from u = (1 ≤ u) × (u ≤ n) × HasEndedIn ends (take from history) (drop from history) u

  -- The list has exactly the sessions from 1 to n whose wait the entry at one of these places of the history has ended, each
  -- once.
  pub record AreToldBy (n : ℕ) (history : List (Entry C R)) (places list : List ℕ) : Type 0 where
    pub members : (u : ℕ) → Contains list u ↔ ((1 ≤ u) × (u ≤ n) × HasEndedAt ends history places u)
    pub once : IsOnce list

module _ {C R : Type 0} (ends : List (Entry C R) → Entry C R → ℕ → Type 0) where
  -- Exactly the sessions were added to the list whose wait the entry at one of these places of the known history has ended, each
  -- if it wasn't in it.
  pub record HasAddedTold (n : ℕ) (history : List (Entry C R)) (places old new : List ℕ) : Type 0 where
    pub members : (u : ℕ) → Contains new u ↔ (Contains old u ⊎ ((1 ≤ u) × (u ≤ n) × HasEndedAt ends history places u))
    pub once : IsOnce old → IsOnce new
    pub within : (p : ℕ) → Contains places p → p < length history

module _ {C R : Type 0} (notes : List (Entry C R) → Type 0) where
  -- What was noted is true of a front of the history. This front is the whole, or the history ends with its first `known` entries: an
  -- answer has told of those since.
  pub record IsNotedUpTo (history : List (Entry C R)) (known : ℕ) : Type 0 where
    pub front : List (Entry C R)
    pub noted : notes front
    pub longer : IsPrefix front history
    pub length_is : length history ≡ max (length front) known
