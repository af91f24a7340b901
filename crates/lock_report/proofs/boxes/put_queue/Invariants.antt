use Rattle.std.proofs.Common.{◌≡◌, ◌+◌, ◌++◌, take, string_bytes}
use Rattle.lock_report.specs.LocksDot.{queue_lines}
use Rattle.lock_report.proofs.QueueLines.{number_after}
use Rattle.lock_report.proofs.boxes.put_queue.Given as goal

-- The lines of the requests before this claim are written, and so many requests are ahead of it.
abbrev pub invariant-loop-claim : goal.invariant-loop-claim
invariant-loop-claim l = record {
  text : string_bytes l.out ≡ string_bytes l.fn.out ++ queue_lines 1 (take l.claim-index l.claims);
  numbered : l.ahead + 1 ≡ number_after 1 (take l.claim-index l.claims);
}
