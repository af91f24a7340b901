use Rattle.std.proofs.Common.{◌≡◌}
use Rattle.std.specs.List.{All}
use Rattle.run_commands.specs.Workers.{IsStart, numbers_of, numbers_of_starts}
use Rattle.run_commands.proofs.threads.start_all.Given as goal

-- the sessions so far are started
abbrev pub invariant-loop-session : goal.invariant-loop-session
invariant-loop-session g l = record {
  started : All (IsStart l.run.office.now l.run.rows.now) l.started.items;
  all : numbers_of_starts l.started.items ≡ numbers_of l.yielded;
}
