use Rattle.std.proofs.Common.{◌≡◌, ◌<◌, ℕ, false, get_or}
use Rattle.lock_report.specs.declared.snapshot.WaitLine.{WaitLine}
use Rattle.lock_report.proofs.blocking.wait_rows.others_in.Given as goal

-- the waits so far are for no first blockers
abbrev pub invariant-loop-index : goal.invariant-loop-index
invariant-loop-index l = (k : ℕ) (d : WaitLine) → k < l.index → (get_or l.told k d).first ≡ false
