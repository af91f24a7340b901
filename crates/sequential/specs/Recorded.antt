-- What contracts see of an object with the history of its calls.
use Rattle.std.specs.Prelude.{ℕ, List}
use Rattle.sequential.specs.declared.entry.Entry.{Entry}

-- The object; its number of sessions; the calls that it has served with their replies, oldest first; the place up to which
-- entries were let go; and how many are kept at most.
pub record RecordedView (S C R : Type 0) : Type 0 where
  pub object : S
  pub sessions : ℕ
  pub history : List (Entry C R)
  pub cut : ℕ
  pub bound : ℕ
