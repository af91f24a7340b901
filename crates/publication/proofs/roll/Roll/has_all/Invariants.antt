use Rattle.std.proofs.Common.{◌≡◌, ℕ, ◌<◌, ◌≤◌, true}
use Rattle.publication.specs.Rolls.{is_called}
use Rattle.publication.proofs.roll.Roll.has_all.Given as goal

-- the numbers so far were called
abbrev pub invariant-loop-before : goal.invariant-loop-before
invariant-loop-before l = (n : ℕ) → 0 < n → n ≤ l.before → is_called l.self n ≡ true
