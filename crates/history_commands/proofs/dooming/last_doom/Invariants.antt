use Rattle.std.proofs.Common.{◌≡◌, length, take}
use Rattle.lock_rules.specs.Legal.{state_of}
use Rattle.history_commands.specs.Dooms.{doomed_by}
use Rattle.history_commands.proofs.dooming.last_doom.Given as goal

-- the calls of the entries so far are served, and the last of them that made a victim is known
abbrev pub invariant-loop-entry : goal.invariant-loop-entry
invariant-loop-entry l = record {
  sessions : l.book.sessions ≡ l.fn.book.sessions;
  count : length l.book.history ≡ l.entry-index;
  state : state_of l.book.history ≡ state_of (take l.entry-index l.entries);
  doom : l.doom ≡ doomed_by l.session (take l.entry-index l.entries);
}
