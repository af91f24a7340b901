-- What an object keeps in memory at most.
use Rattle.std.specs.Prelude.{ℕ}

-- Two numbers that an object is given before its first call, or between its calls, and that no call changes.
pub record Bounds : Type 0 where
  -- how many lines of its history it keeps
  pub lines : ℕ
  -- how many notes it keeps of what its calls did, beside its history
  pub notes : ℕ

-- Nothing is kept.
abbrev pub keeping_nothing : Bounds
keeping_nothing = record { lines = 0; notes = 0 }
