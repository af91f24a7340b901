use Rattle.lock_shell.specs.inner.Desks.{AreAlike}
use Rattle.lock_shell.specs.inner.Parts.{HasServedLevels}
use Rattle.lock_shell.proofs.desk.serve_path.Given as goal

-- the books are alike, and have served the levels so far
abbrev pub invariant-loop-level : goal.invariant-loop-level
invariant-loop-level l = record {
  alike : AreAlike l.fn.desk.after.sessions l.desk.before l.desk.after;
  served : HasServedLevels l.fn.desk.after.sessions l.session l.resource l.mode l.level l.fn.desk.after.history l.desk.after.history l.fn.text.items l.text.items;
}
