-- Sets of sessions, by position.
use Rattle.std.specs.Prelude.{ℕ, Bool, false, ◌&&◌, nat_lt, List, map, slice_index_or}
use Rattle.std.specs.List.{range_with_len}

-- The number of sessions, and for each position whether it is marked.
pub record Marking : Type 0 where
  pub sessions : ℕ
  pub marks : List Bool

-- Position t is marked; false if t is no session's position.
unfoldable pub is_marked : Marking → ℕ → Bool
is_marked m t = nat_lt t m.sessions && slice_index_or m.marks t false

-- The set of the positions below n that pass the test.
abbrev pub marked_by : ℕ → (ℕ → Bool) → Marking
marked_by n test = record { sessions = n; marks = map test (range_with_len 0 n) }
