-- Internal to this crate, cited by no public contract: the steps of a search.
use Rattle.std.specs.Prelude.{◌≡◌, ℕ, ◌<◌, ◌≤◌, true, false, List, length, slice_index_or, nat_eq}
use Rattle.std.specs.List.{IsDistinct, list_any}
use Rattle.waits_for.specs.Pairs.{Pairs, pairs_of}
use Rattle.waits_for.specs.Marks.{Marking, is_marked}

-- the positions met, each once, and those marked, are the same; each but the first has a parent, met before it, that waits for it
-- directly, whose index `parents` has; one met later has no earlier parent
pub record IsMeeting (p : Pairs) (met parents : List ℕ) (marks : Marking) : Type 0 where
  pub long : length parents ≡ length met
  pub once : IsDistinct nat_eq met
  pub within : (u : ℕ) → list_any (nat_eq u) met ≡ true → u < p.sessions
  pub marked : (u : ℕ) → is_marked marks u ≡ list_any (nat_eq u) met
  pub before : (j : ℕ) → 0 < j → j < length met → slice_index_or parents j 0 < j
  pub rising : (i j : ℕ) → i < j → j < length met → slice_index_or parents i 0 ≤ slice_index_or parents j 0
  pub waits : (j : ℕ) → 0 < j → j < length met → pairs_of p (slice_index_or met (slice_index_or parents j 0) 0) (slice_index_or met j 0) ≡ true

-- none of the first `done` positions that are met waits for t; each one that they wait for is met, and its parent is the one that waits
-- for it, or was met before that one
pub record IsLookedAt (p : Pairs) (t : ℕ) (met parents : List ℕ) (done : ℕ) : Type 0 where
  pub few : done ≤ length met
  pub all : (j u : ℕ) → j < done → pairs_of p (slice_index_or met j 0) u ≡ true → (i : ℕ) × (i < length met) × (slice_index_or met i 0 ≡ u) × (slice_index_or parents i 0 ≤ j)
  pub not_closed : (j : ℕ) → j < done → pairs_of p (slice_index_or met j 0) t ≡ false

-- what was in the list is in it still, at the same index
pub record HasKept (old new : List ℕ) : Type 0 where
  pub long : length old ≤ length new
  pub same : (j : ℕ) → j < length old → slice_index_or new j 0 ≡ slice_index_or old j 0
