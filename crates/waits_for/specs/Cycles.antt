-- A cycle of the waits-for graph, written out.
use Rattle.std.specs.Prelude.{◌≡◌, ℕ, ◌+◌, ◌<◌, Bool, true, List, length, slice_index_or, nat_eq}
use Rattle.std.specs.List.{IsDistinct}

-- a cycle through t: t first, each waits directly for the next and the last for t, and none is there twice
pub record IsCycle (pairs : ℕ → ℕ → Bool) (t : ℕ) (cycle : List ℕ) : Type 0 where
  pub some : 0 < length cycle
  pub first : slice_index_or cycle 0 0 ≡ t
  pub waits : (k : ℕ) → k + 1 < length cycle → pairs (slice_index_or cycle k 0) (slice_index_or cycle (k + 1) 0) ≡ true
  pub closed : (k : ℕ) → k + 1 ≡ length cycle → pairs (slice_index_or cycle k 0) t ≡ true
  pub once : IsDistinct nat_eq cycle
