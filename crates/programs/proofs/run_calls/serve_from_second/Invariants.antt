use Rattle.std.proofs.Common.{◌≡◌, ◌≤◌, ℕ, List, length}
use Rattle.sequential.specs.declared.entry.Entry.{Entry}
use Rattle.programs.specs.Form.{AllGoOn}
use Rattle.programs.specs.inner.Running.{IsRunning}
use Rattle.programs.proofs.run_calls.serve_from_second.Given as goal

-- The calls before the index are served, the object tells of them, and the program goes on.
abbrev pub invariant-loop-at : goal.invariant-loop-at
invariant-loop-at g l = record {
  running : (before : List (Entry _ _)) → IsRunning g.O.Programmed.form l.session l.fn.program before (g.O.Sequential.history l.fn.object) l.fn.answer 1
      → IsRunning g.O.Programmed.form l.session l.program before (g.O.Sequential.history l.object) l.answer l.at;
  going : AllGoOn g.O.Programmed.form (g.O.Programmed.form.replies l.program l.answer);
  count : length (g.O.Programmed.form.replies l.program l.answer) ≡ l.at;
  longer : length (g.O.Sequential.history l.fn.object) ≤ length (g.O.Sequential.history l.object);
  tells : (from : ℕ) → from ≤ length (g.O.Sequential.history l.fn.object) → g.O.Serving.tells_from l.fn.object from → g.O.Serving.tells_from l.object from;
  legal : g.O.Sequential.is_legal (g.O.Sequential.history l.object);
  sessions : g.O.Sequential.sessions l.object ≡ g.O.Sequential.sessions l.fn.object;
  cut : g.O.Sequential.cut l.object ≡ g.O.Sequential.cut l.fn.object;
  bound : g.O.Sequential.bound l.object ≡ g.O.Sequential.bound l.fn.object;
}
