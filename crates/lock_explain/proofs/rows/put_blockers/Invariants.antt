use Rattle.std.proofs.Common.{◌≡◌, ◌++◌, take, string_bytes}
use Rattle.std.specs.List.{flat_map}
use Rattle.lock_explain.specs.ExplanationRows.{rows_of_blocker}
use Rattle.lock_explain.proofs.rows.put_blockers.Given as goal

-- The rows of the blockers before this one are written.
abbrev pub invariant-loop-blocker : goal.invariant-loop-blocker
invariant-loop-blocker l = string_bytes l.out ≡ string_bytes l.fn.out ++ flat_map (rows_of_blocker l.place l.request) (take l.blocker-index l.blockers)
