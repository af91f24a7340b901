use Rattle.std.proofs.Common.{◌≡◌, ◌++◌, take, string_bytes}
use Rattle.std.specs.List.{flat_map}
use Rattle.lock_report.specs.StateText.{line_of_session}
use Rattle.lock_report.proofs.text.put_lines_of_session.Given as goal

-- The lines of the claims before this one are written.
abbrev pub invariant-loop-claim : goal.invariant-loop-claim
invariant-loop-claim l = string_bytes l.out ≡ string_bytes l.fn.out ++ flat_map line_of_session (take l.claim-index l.claims)
