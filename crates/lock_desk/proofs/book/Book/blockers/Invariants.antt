use Rattle.std.proofs.Common.{◌≡◌, ◌≤◌, length}
use Rattle.lock_rules.specs.Legal.{state_of}
use Rattle.lock_desk.specs.Queries.{blockers_among}
use Rattle.lock_desk.proofs.Blockers.{over}
use Rattle.lock_desk.proofs.book.Book.blockers.Given as goal

-- The sessions so far are counted, and those that have a place are written.
abbrev pub invariant-loop-before : goal.invariant-loop-before
invariant-loop-before l = record {
  counted : l.count ≡ length (blockers_among l.before (state_of l.self.history).table l.session);
  written : l.list ≡ over (blockers_among l.before (state_of l.self.history).table l.session) l.initial.list;
  few : l.count ≤ l.before;
  long : length l.list ≡ length l.initial.list;
}
