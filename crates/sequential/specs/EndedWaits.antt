-- Whose waits the calls of a batch have ended.
use Rattle.std.specs.Prelude.{◌≡◌, ℕ, List, ◌∷◌, ◌++◌, take, Contains}
use mathlib.Core.Option as opt
use lib.ListN.{get_elem?}
use Rattle.sequential.specs.declared.entry.Entry.{Entry}

-- One of these entries, which follow this front of the history, has ended the wait of session u.
pub record HasEndedIn {C R : Type 0} (ends : List (Entry C R) → Entry C R → ℕ → Type 0) (front entries : List (Entry C R)) (u : ℕ) : Type 0 where
  pub earlier : List (Entry C R)
  pub entry : Entry C R
  pub later : List (Entry C R)
  pub entries_are : entries ≡ earlier ++ entry ∷ later
  pub ended : ends (front ++ earlier) entry u

-- The entry at one of these places of the history has ended the wait of session u.
pub record HasEndedAt {C R : Type 0} (ends : List (Entry C R) → Entry C R → ℕ → Type 0) (history : List (Entry C R)) (places : List ℕ) (u : ℕ) : Type 0 where
  pub place : ℕ
  pub among : Contains places place
  pub entry : Entry C R
  pub stands : get_elem? history place ≡ opt.some entry
  pub ended : ends (take place history) entry u
