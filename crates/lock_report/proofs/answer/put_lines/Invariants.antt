use Rattle.std.proofs.Common.{◌≡◌, ◌++◌, take, string_bytes}
use Rattle.std.specs.List.{flat_map}
use Rattle.lock_report.specs.Answers.{line_of_answer}
use Rattle.lock_report.proofs.answer.put_lines.Given as goal

-- The lines of the waits before this one are written.
abbrev pub invariant-loop-told : goal.invariant-loop-told
invariant-loop-told l = string_bytes l.out ≡ string_bytes l.fn.out ++ flat_map line_of_answer (take l.told-index l.waits)
