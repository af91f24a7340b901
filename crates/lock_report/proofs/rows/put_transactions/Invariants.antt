use Rattle.std.proofs.Common.{◌≡◌, ◌++◌, take, string_bytes}
use Rattle.std.specs.List.{flat_map}
use Rattle.lock_report.specs.StateRows.{row_of_transaction}
use Rattle.lock_report.proofs.rows.put_transactions.Given as goal

-- The rows of the open transactions before this one are written.
abbrev pub invariant-loop-begun : goal.invariant-loop-begun
invariant-loop-begun l = string_bytes l.out ≡ string_bytes l.fn.out ++ flat_map row_of_transaction (take l.begun-index l.opens)
