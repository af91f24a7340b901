-- What contracts see of a book.
use Rattle.std.specs.Prelude.{ℕ, List, length}
use Rattle.sequential.specs.Kept.{first_kept, kept}
use Rattle.lock_rules.specs.Entries.{Entry}

-- a book: its number of sessions; the calls that it has served with their replies, oldest first; the place up to which
-- entries were let go; how many are kept at most; the sessions whose wait the last call or batch has ended, by number; and how
-- many of the newest deadlocks are kept at most
pub record BookView : Type 0 where
  pub sessions : ℕ
  pub history : List Entry
  pub cut : ℕ
  pub bound : ℕ
  pub ended : List ℕ
  pub deadlocks : ℕ

-- the place of the first entry of the history that is kept
abbrev pub first_kept_by : BookView → ℕ
first_kept_by b = first_kept b.cut b.bound (length b.history)

-- the entries of the history that are kept
abbrev pub kept_by : BookView → List Entry
kept_by b = kept b.cut b.bound b.history
