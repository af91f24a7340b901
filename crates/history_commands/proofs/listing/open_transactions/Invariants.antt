use Rattle.std.proofs.Common.{◌≡◌}
use Rattle.lock_rules.specs.Legal.{state_of}
use Rattle.history_commands.specs.Showing.{opens_of}
use Rattle.history_commands.proofs.listing.open_transactions.Given as goal

-- the transactions of the sessions so far are listed
abbrev pub invariant-loop-before : goal.invariant-loop-before
invariant-loop-before l = l.opens.items ≡ opens_of l.before (state_of l.book.history)
