-- Who has ended the wait of a session, where programs are published, and who was told of it.
use Rattle.std.specs.Prelude.{◌≡◌, ◌⊎◌, ℕ, ◌<◌, List, [], ◌++◌, length, take, slice_index, Contains}
use mathlib.Core.Option as opt
use mathlib.Core.List.{IsPrefix}
use lib.ListN.{get_elem?}
use Rattle.lock_rules.specs.Entries.{Entry}
use Rattle.lock_rules.specs.Legal.{state_of}
use Rattle.lock_rules.specs.Laws.{HasRequest}
use Rattle.lock_desk.specs.Batches.{ends_wait}
use Rattle.publication.specs.Entered.{HasEnteredPlaces}
use Rattle.lock_office.specs.ProgramBoards.{ProgramEntry, BoardState, flat_history, history_of}
use Rattle.lock_office.specs.Ended.{AreToldBy, places_within}

-- Of the places that session k has entered, a call of the program at the one with this index has ended the wait of session u. It stands
-- at `place` of the history of calls. The wait began at place `since` there or was there before, and ended behind it.
pub record HasEndedWait (s : BoardState) (since u k index : ℕ) : Type 0 where
  pub places : List ℕ
  pub entered : HasEnteredPlaces s k places
  pub small : index < length places
  pub place : ℕ
  pub within : Contains (places_within (history_of s) (slice_index places index)) place
  pub late : since < place
  pub entry : Entry
  pub stands : get_elem? (flat_history (history_of s)) place ≡ opt.some entry
  pub ended : ends_wait (take place (flat_history (history_of s))) entry u

-- Session u, which was told to wait at place `since`, has a waiting request, or some session has entered the program that ended its wait.
abbrev pub WaitsOrEnded : BoardState → ℕ → ℕ → Type 0
WaitsOrEnded s since u = HasRequest (state_of (flat_history (history_of s))) u ⊎ ((k : ℕ) × (index : ℕ) × HasEndedWait s since u k index)

-- Calls have told of these places of the history, and have listed these sessions, one call behind the other: each exactly the sessions from
-- 1 to n whose wait the programs at its own places have ended, as its clause `told` says of the places that it has entered.
pub data HaveTold (n : ℕ) (history : List ProgramEntry) : List ℕ → List ℕ → Type 0 where
  nothing : HaveTold n history [] []
  behind : (places listed : List ℕ) → HaveTold n history places listed → (known : List ProgramEntry) (own list : List ℕ) → IsPrefix known history
      → ((p : ℕ) → Contains own p → p < length known) → AreToldBy n known own list → HaveTold n history (places ++ own) (listed ++ list)
