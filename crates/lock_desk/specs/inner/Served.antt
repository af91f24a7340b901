-- Internal to this crate, cited by no public contract: a lock table with its history, and a batch of which some items are served.
use Rattle.std.specs.Prelude.{◌≡◌, ℕ, ◌≤◌, List, ◌++◌, length, map, take, drop, vec_len}
use Rattle.std.specs.List.{All}
use Rattle.lock_rules.specs.Entries.{Entry}
use Rattle.lock_rules.specs.Legal.{state_of, IsLegal}
use Rattle.lock_desk.specs.Batches.{Item, entries_from, ended_waits_in}
use Rattle.lock_table.specs.declared.table.LockTable.{LockTable}
use Rattle.sequential.specs.Histories.{IsEntryWithin}
use Rattle.sequential.specs.Batches.{item_of}
use Rattle.lock_table.specs.Changes.{IsWhole}
use Rattle.lock_table.specs.Ready.{IsReadyTable}
use Rattle.lock_table.specs.Shows.{Shows}

-- a lock table with its history: the history is legal, and the table represents the state that the history leads to
pub record AreKept (d : LockTable) (h : List Entry) : Type 0 where
  pub legal : IsLegal h
  pub within : All (IsEntryWithin (vec_len d.lockers)) h
  pub shows : Shows d (state_of h)
  pub whole : IsWhole d
  pub ready : IsReadyTable d
  pub counted : d.count ≤ length h

-- the first `k` items of a batch are served in a book of `n` sessions: their entries follow the history `start`, their replies
-- are written, the other items are unchanged, and the sessions whose wait they have ended are `ended`
pub record AreServed (n k : ℕ) (batch : List Item) (start : List Entry) (ended : List ℕ) (h : List Entry) (items : List Item) : Type 0 where
  pub few : k ≤ length batch
  pub entries : h ≡ start ++ entries_from (state_of start) (take k batch)
  pub replies : items ≡ map item_of (entries_from (state_of start) (take k batch)) ++ drop k batch
  pub waits : ended ≡ ended_waits_in n (state_of start) (take k batch)
