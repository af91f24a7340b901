-- The set of the sessions whose wait has ended.
use Rattle.std.specs.Prelude.{ℕ, ◌-◌, Bool, ◌&&◌, nat_le, nat_lt, List, length, filter, slice_index_or}
use Rattle.std.specs.List.{range_with_len}

-- all sessions are in an order in which those at the front are listed: the place of each in it, by position, and how many are
-- listed
pub record WokenListView : Type 0 where
  pub places : List ℕ
  pub count : ℕ

-- session `u` is listed
abbrev pub is_ended : WokenListView → ℕ → Bool
is_ended v u = (nat_le 1 u && nat_le u (length v.places)) && nat_lt (slice_index_or v.places (u - 1) 0) v.count

-- the listed sessions, by number
abbrev pub ended_in : WokenListView → List ℕ
ended_in v = filter (is_ended v) (range_with_len 1 (length v.places))
