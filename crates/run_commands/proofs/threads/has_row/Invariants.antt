use Rattle.std.proofs.Common.{◌≡◌, take, []}
use Rattle.run_commands.specs.Calls.{calls_of_rows}
use Rattle.run_commands.proofs.threads.has_row.Given as goal

-- no row so far is of the session
abbrev pub invariant-loop-row : goal.invariant-loop-row
invariant-loop-row l = calls_of_rows l.number (take l.row-index l.rows) ≡ []
