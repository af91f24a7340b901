use Rattle.std.proofs.Common.{◌≡◌, ◌≤◌, ◌*◌, ℕ, length, take, None}
use Rattle.run_commands.specs.Calls.{calls_of_rows}
use Rattle.run_commands.specs.Workers.{TriedAtMost}
use Rattle.run_commands.proofs.workers.work_through.Given as goal

-- the session performed its rows so far, and no others, with at most `turns` tries for each
abbrev pub invariant-loop-row : goal.invariant-loop-row
invariant-loop-row g l = record {
  ours : g.S.Service.is_of l.service l.session;
  performed : g.S.Service.calls l.session ≡ record { number = l.number; pending = None; collected = calls_of_rows l.number (take l.row-index l.rows) };
  few : l.index ≤ l.row-index;
  tried : (before : ℕ) → g.S.Service.has_tried l.initial.session before
      → TriedAtMost (g.S.Service.has_tried l.session) before (length (calls_of_rows l.number (take l.row-index l.rows)) * l.turns);
}
