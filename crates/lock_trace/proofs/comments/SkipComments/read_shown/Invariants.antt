use Rattle.std.proofs.Common.{◌≡◌, true, length}
use Rattle.std.specs.Io.KnownBytes.{Keeps}
use Rattle.lock_trace.specs.SkippingComments.{remaining_of}
use Rattle.lock_trace.proofs.comments.SkipComments.read_shown.Given as goal

-- what was read so far was comments
abbrev pub invariant-loop : goal.invariant-loop
invariant-loop g l =
    (l.self.skips ≡ true) × (length l.bytes ≡ length l.initial.bytes)
    × Keeps (remaining_of g.R.Read.remaining l.initial.self) (remaining_of g.R.Read.remaining l.self)
