use Rattle.std.proofs.Common.{◌≡◌}
use Rattle.std.specs.List.{flat_map, range_with_len}
use Rattle.lock_rules.specs.Legal.{state_of}
use Rattle.history_commands.specs.Showing.{waits_by}
use Rattle.history_commands.proofs.listing.all_waits.Given as goal

-- the edges from the sessions so far are listed
abbrev pub invariant-loop-before : goal.invariant-loop-before
invariant-loop-before l = l.waits.items ≡ flat_map (waits_by l.book.sessions (state_of l.book.history)) (range_with_len 1 l.before)
