use Rattle.std.proofs.Common.{◌≡◌, ◌-◌, ℕ, ◌<◌, ◌≤◌, true, eqb, length, get_or}
use Rattle.std.specs.Prelude.{vec_capacity}
use Rattle.std.specs.List.{list_any}
use Rattle.waits_for.specs.Pairs.{pairs_of}
use Rattle.waits_for.specs.inner.CycleMeeting.{IsMeeting, HasKept}
use Rattle.waits_for.proofs.shortest_cycle.meet_waited_for.Given as goal

-- Those of the first positions that the one at the index waits for are met.
abbrev pub invariant-loop-u : goal.invariant-loop-u
invariant-loop-u l = record {
  meeting : IsMeeting l.rows l.met.items l.parents.items l.marks;
  behind : (j : ℕ) → j < length l.met.items → get_or l.parents.items j 0 ≤ l.at;
  met : HasKept l.initial.met.items l.met.items;
  parents : HasKept l.initial.parents.items l.parents.items;
  all : (u : ℕ) → u < l.from → pairs_of l.rows (get_or l.initial.met.items l.at 0) u ≡ true → list_any (eqb u) l.met.items ≡ true;
  sessions : l.marks.sessions ≡ l.initial.marks.sessions;
  met_room : vec_capacity l.met ≡ vec_capacity l.initial.met;
  parents_room : vec_capacity l.parents ≡ vec_capacity l.initial.parents;
}

-- Each round goes on behind one that is found.
abbrev pub decreases-loop-u : goal.decreases-loop-u
decreases-loop-u l = l.rows.sessions - l.from
