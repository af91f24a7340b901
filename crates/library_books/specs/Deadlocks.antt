-- Deadlocks as the numbers of C's structs, and what the exports write of them.
use Rattle.std.specs.Prelude.{◌≡◌, ℕ, List, [], ◌∷◌, ◌++◌, length}
use Rattle.lock_modes.specs.Codes.{code_of}
use Rattle.lock_rules.specs.State.{mode_or_nothing}
use Rattle.lock_desk.specs.Deadlocks.{Moment, AreDeadlocksTold, newest}
use Rattle.lock_desk.specs.declared.deadlock_log.Deadlock.{Deadlock}
use Rattle.lock_desk.specs.declared.deadlock_log.Member.{Member}
use Rattle.library_books.specs.declared.deadlock_numbers.DeadlockNumbers.{DeadlockNumbers}
use Rattle.library_books.specs.declared.deadlock_numbers.MemberNumbers.{MemberNumbers}
use Rattle.library_books.specs.Calls.{are_written}
use Rattle.library_books.specs.Claims.{numbers_of_claim}

-- the numbers of a session on a cycle: its request, and the code of the mode in which the next session held the resource, that of NL if it
-- held none
abbrev pub numbers_of_member : Member → MemberNumbers
numbers_of_member m = record { request = numbers_of_claim m.request; held = code_of (mode_or_nothing m.held) }

-- the numbers of a deadlock: the place of the call that made it, the session of the call, and how many sessions are on the cycle
abbrev pub numbers_of_deadlock : Deadlock → DeadlockNumbers
numbers_of_deadlock d = record { place = d.place; session = d.session; members = length d.cycle.items }

-- the members of the cycles of these deadlocks, one deadlock's behind another's
abbrev pub members_of : List Deadlock → List Member
members_of [] = []
members_of (d ∷ ds) = d.cycle.items ++ members_of ds

-- the newest deadlocks of these moments are told, `most` at most: to one array the deadlocks, as many as there is room for, to another one the
-- members of their cycles, as many as there is room for, and how many moments and how many members there are in all
abbrev pub AreDeadlocksWritten : ℕ → List Moment → List DeadlockNumbers → List DeadlockNumbers → ℕ → List MemberNumbers → List MemberNumbers → ℕ → Type 0
AreDeadlocksWritten most moments places written count member_places members member_count = (ds : List Deadlock) × AreDeadlocksTold (newest most moments) ds
    × (written ≡ are_written numbers_of_deadlock ds places) × (count ≡ length moments)
    × (members ≡ are_written numbers_of_member (members_of ds) member_places) × (member_count ≡ length (members_of ds))
