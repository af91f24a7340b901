use Rattle.std.proofs.Common.{◌≡◌, take, string_bytes}
use Rattle.std.specs.List.{flat_map}
use Rattle.lock_shell.specs.inner.Traces.{row_of_call}
use Rattle.lock_shell.proofs.trace_text.trace_text.Given as goal

-- the rows of the entries before this one are written
abbrev pub invariant-loop-entry : goal.invariant-loop-entry
invariant-loop-entry l = string_bytes l.out ≡ flat_map row_of_call (take l.entry-index l.entries)
