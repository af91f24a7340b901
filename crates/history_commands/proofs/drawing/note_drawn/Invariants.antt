use Rattle.std.proofs.Common.{◌≡◌, take}
use Rattle.lock_rules.specs.Legal.{IsLegal}
use Rattle.history_commands.proofs.drawing.note_drawn.Given as goal

-- the entries so far are legal and are the history of both books
abbrev pub invariant-loop-place : goal.invariant-loop-place
invariant-loop-place l = record {
  behind : l.before.history ≡ take l.place l.entries;
  ahead : l.after.history ≡ take l.place l.entries;
  sessions : l.before.sessions ≡ l.fn.before.sessions;
  others : l.after.sessions ≡ l.fn.before.sessions;
  legal : IsLegal (take l.place l.entries);
}
