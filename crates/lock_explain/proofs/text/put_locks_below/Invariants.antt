use Rattle.std.proofs.Common.{◌≡◌, ◌++◌, take, string_bytes}
use Rattle.std.specs.List.{flat_map}
use Rattle.lock_explain.specs.ExplanationText.{line_of_lock_below}
use Rattle.lock_explain.proofs.text.put_locks_below.Given as goal

-- The lines of the locks before this one are written.
abbrev pub invariant-loop-lock : goal.invariant-loop-lock
invariant-loop-lock l = string_bytes l.out ≡ string_bytes l.fn.out ++ flat_map line_of_lock_below (take l.lock-index l.locks)
