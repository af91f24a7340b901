use Rattle.std.proofs.Common.{take}
use Rattle.lock_shell.specs.Turns.{HasServedRows}
use Rattle.lock_shell.specs.inner.Desks.{AreAlike}
use Rattle.lock_shell.proofs.desk.serve_rows.Given as goal

-- the books are alike, and have served the rows so far
abbrev pub invariant-loop-row : goal.invariant-loop-row
invariant-loop-row l = record { alike : AreAlike l.fn.after.sessions l.before l.after; served : HasServedRows l.fn.after.sessions (take l.row-index l.rows) l.fn.after.history l.after.history l.fn.text.items l.text.items }
