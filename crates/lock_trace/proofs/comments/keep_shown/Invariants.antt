use Rattle.lock_trace.proofs.Skipped.{KeptUpTo}
use Rattle.lock_trace.proofs.comments.keep_shown.Given as goal

-- the bytes up to the place were moved to the front without comments
abbrev pub invariant-loop-at : goal.invariant-loop-at
invariant-loop-at l = KeptUpTo l.initial.spot l.initial.bytes l.bytes l.kept l.at l.spot
