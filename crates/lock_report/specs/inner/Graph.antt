-- The waits of a dump as rows by position: position a is that of session a + 1.
use Rattle.std.specs.Prelude.{◌≡◌, ◌≤◌, ◌+◌, ℕ, true, List}
use Rattle.waits_for.specs.Pairs.{Pairs, pairs_of}
use Rattle.lock_report.specs.declared.snapshot.WaitFor.{WaitFor}
use Rattle.lock_report.specs.Jam.{does_wait}

-- the edges are the waits, which are all by sessions of number 1 at least
pub record AreWaitsOf (p : Pairs) (waits : List WaitFor) : Type 0 where
  pub pairs : (a b : ℕ) → pairs_of p a b ≡ does_wait waits (a + 1) (b + 1)
  pub some : (s u : ℕ) → does_wait waits s u ≡ true → 1 ≤ s
