use Rattle.std.proofs.Common.{◌≡◌}
use Rattle.lock_rules.specs.Legal.{state_of}
use Rattle.history_commands.specs.Showing.{waits_by}
use Rattle.history_commands.proofs.listing.waits_by.Given as goal

-- the edges to the sessions so far are listed
abbrev pub invariant-loop-before : goal.invariant-loop-before
invariant-loop-before l = l.waits.items ≡ waits_by l.before (state_of l.book.history) l.session
