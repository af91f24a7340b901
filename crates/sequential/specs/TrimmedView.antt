-- What contracts see of a trimmed list.
use Rattle.std.specs.Prelude.{ℕ, List}

-- all items that were pushed, oldest first; the place up to which they were let go; how many are kept at most; and for how
-- many more there is room
pub record TrimmedView (T : Type 0) : Type 0 where
  pub items : List T
  pub cut : ℕ
  pub bound : ℕ
  pub room : ℕ
