use Rattle.std.proofs.Common.{◌≡◌, ◌++◌, List, None, length}
use Rattle.std.specs.List.{All}
use Rattle.std.specs.Vec.Iter.{into_iter_items, into_iter_len}
use Rattle.publication.specs.Views.{BoardView}
use Rattle.lock_trace.specs.declared.trace_row.TraceRow.{TraceRow}
use Rattle.run_commands.specs.Workers.{IsPerformed, IsStart, numbers_of, numbers_of_starts}
use Rattle.run_commands.proofs.threads.join_all.Given as goal

-- whatever the sessions were started on: if there is no reason to stop so far, the joined ones performed their rows
abbrev pub invariant-loop-start : goal.invariant-loop-start
invariant-loop-start g l = record {
  all : l.reason ≡ None → l.initial.reason ≡ None;
  whole : l.yielded ++ into_iter_items l.start-iterator ≡ l.fn.started.items;
  count : into_iter_len l.start-iterator ≡ length (into_iter_items l.start-iterator);
  rest : (office : BoardView) (rows : List TraceRow) → All (IsStart office rows) l.fn.started.items → All (IsStart office rows) (into_iter_items l.start-iterator);
  numbers : (office : BoardView) (rows : List TraceRow) → All (IsStart office rows) l.fn.started.items → l.reason ≡ None
      → numbers_of l.done.items ≡ numbers_of_starts l.yielded;
  performed : (office : BoardView) (rows : List TraceRow) → All (IsStart office rows) l.fn.started.items → l.reason ≡ None
      → All (IsPerformed office rows) l.done.items;
}
