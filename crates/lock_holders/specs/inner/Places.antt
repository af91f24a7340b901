-- Internal to this crate, cited by no public contract: the places of sessions in the list of all.
use Rattle.std.specs.Prelude.{◌≡◌, ℕ, ◌+◌, ◌-◌, ◌<◌, ◌≤◌, List, length, slice_index_or}
use Rattle.lock_holders.specs.declared.woken_list.WokenList.TheInside.{Inside}
use Rattle.lock_holders.specs.Woken.{WokenListView}

-- what contracts see of the list
abbrev pub ended_view_of : Inside → WokenListView
ended_view_of a = record { places = a.places.items; count = a.count }

-- each session from 1 on is once in the first list, and the second has its index there, by position
pub record ArePlaced (ss ps : List ℕ) : Type 0 where
  pub long : length ss ≡ length ps
  pub some : (i : ℕ) → i < length ps → 1 ≤ slice_index_or ss i 0
  pub within : (i : ℕ) → i < length ps → slice_index_or ss i 0 ≤ length ps
  pub back : (i : ℕ) → i < length ps → slice_index_or ps (slice_index_or ss i 0 - 1) 0 ≡ i
  pub placed : (p : ℕ) → p < length ps → slice_index_or ps p 0 < length ps
  pub there : (p : ℕ) → p < length ps → slice_index_or ss (slice_index_or ps p 0) 0 ≡ p + 1

-- each session has its place, and no more are listed than there are
pub record IsPlaced (a : Inside) : Type 0 where
  pub all : ArePlaced a.sessions.items a.places.items
  pub short : length a.places.items ≤ 65535
  pub few : a.count ≤ length a.places.items
