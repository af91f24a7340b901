use Rattle.std.proofs.Common.{◌≡◌, ◌++◌, take, string_bytes}
use Rattle.std.specs.List.{flat_map}
use Rattle.lock_report.specs.StateRows.{row_of_claim}
use Rattle.lock_report.proofs.rows.put_claims.Given as goal

-- The rows of the claims before this one are written.
abbrev pub invariant-loop-claim : goal.invariant-loop-claim
invariant-loop-claim l = string_bytes l.out ≡ string_bytes l.fn.out ++ flat_map row_of_claim (take l.claim-index l.claims)
