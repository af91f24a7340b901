use Rattle.std.proofs.Common.{◌≡◌, ◌++◌, None, take, string_bytes}
use Rattle.lock_report.specs.StateText.{resource_lines}
use Rattle.lock_report.proofs.ResourceLines.{last_shown}
use Rattle.lock_report.proofs.text.put_lines_of_resources.Given as goal

-- The lines of the claims before this one are written, and the resource of the last of them was shown last.
abbrev pub invariant-loop-claim : goal.invariant-loop-claim
invariant-loop-claim l = record {
  text : string_bytes l.out ≡ string_bytes l.fn.out ++ resource_lines None (take l.claim-index l.claims);
  last : l.last ≡ last_shown None (take l.claim-index l.claims);
}
