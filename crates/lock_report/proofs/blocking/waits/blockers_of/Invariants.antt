use Rattle.std.proofs.Common.{◌≡◌, ℕ, ◌||◌, drop}
use Rattle.std.specs.Prelude.{◌==◌}
use Rattle.std.specs.List.{list_any}
use Rattle.lock_report.specs.Blocking.{is_ahead}
use Rattle.lock_report.proofs.blocking.waits.blockers_of.Given as goal

-- who is found, or is ahead from this claim on, is ahead
abbrev pub invariant-loop-claim : goal.invariant-loop-claim
invariant-loop-claim l = (u : ℕ) → (list_any (λ k. u == k) l.blockers.keys || is_ahead l.request u (drop l.claim-index l.queue)) ≡ is_ahead l.request u l.queue
