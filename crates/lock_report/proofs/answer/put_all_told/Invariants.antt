use Rattle.std.proofs.Common.{◌≡◌, ◌++◌, take, string_bytes}
use Rattle.std.specs.List.{flat_map}
use Rattle.lock_report.specs.Answers.{rows_of_told}
use Rattle.lock_report.proofs.answer.put_all_told.Given as goal

-- The rows of the waits before this one are written.
abbrev pub invariant-loop-told : goal.invariant-loop-told
invariant-loop-told l = string_bytes l.out ≡ string_bytes l.fn.out ++ flat_map (rows_of_told l.place) (take l.told-index l.waits)
