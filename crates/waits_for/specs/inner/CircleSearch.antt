-- What contracts see of the memory of a search for circles. Only private contracts cite this definition.
use Rattle.std.specs.Prelude.{ℕ, List}

-- The number of sessions, the session number whose circle is kept, or 0, and the sessions on that circle, as bits.
pub record Searched : Type 0 where
  pub sessions : ℕ
  pub searched : ℕ
  pub circle : List ℕ
