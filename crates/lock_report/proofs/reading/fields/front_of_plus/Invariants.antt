use Rattle.std.proofs.Common.{◌≡◌, ◌<◌, ℕ, false, get_or}
use Rattle.lock_report.specs.inner.ReadFields.{is_plus}
use Rattle.lock_report.proofs.reading.fields.front_of_plus.Given as goal

-- the bytes so far are no plus
abbrev pub invariant-loop-index : goal.invariant-loop-index
invariant-loop-index l = (k : ℕ) → k < l.index → is_plus (get_or l.field k 0) ≡ false
