-- What contracts see of a search for cycles.
use Rattle.std.specs.Prelude.{ℕ, List}

-- the number of sessions, and the cycle that was found last, by position
pub record CycleView : Type 0 where
  pub sessions : ℕ
  pub cycle : List ℕ
