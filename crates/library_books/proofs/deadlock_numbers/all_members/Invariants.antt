use Rattle.std.proofs.Common.{◌≡◌, take}
use Rattle.library_books.specs.Deadlocks.{members_of}
use Rattle.library_books.proofs.deadlock_numbers.all_members.Given as goal

-- The members of the first deadlocks are there.
abbrev pub invariant-loop-deadlock : goal.invariant-loop-deadlock
invariant-loop-deadlock l = l.members.items ≡ members_of (take l.deadlock-index l.deadlocks)
