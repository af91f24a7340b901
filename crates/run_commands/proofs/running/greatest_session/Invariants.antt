use Rattle.std.proofs.Common.{◌<◌, ◌≤◌, take}
use Rattle.std.specs.List.{All}
use Rattle.run_commands.proofs.running.greatest_session.Given as goal

-- no row so far has a greater session number
abbrev pub invariant-loop-row : goal.invariant-loop-row
invariant-loop-row l = record {
  some : 0 < l.greatest;
  few : l.greatest ≤ l.sessions;
  within : All (λ row. row.session ≤ l.greatest) (take l.row-index l.rows);
}
