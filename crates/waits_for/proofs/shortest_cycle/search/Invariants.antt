use Rattle.std.proofs.Common.{◌≡◌, ◌-◌, ◌<◌, ◌≤◌, ℕ, length, get_or}
use Rattle.std.specs.Prelude.{vec_capacity}
use Rattle.waits_for.specs.inner.CycleMeeting.{IsMeeting, IsLookedAt}
use Rattle.waits_for.proofs.shortest_cycle.search.Given as goal

-- The first positions that are met are looked at.
abbrev pub invariant-loop-at : goal.invariant-loop-at
invariant-loop-at l = record {
  some : 0 < length l.met.items;
  first : get_or l.met.items 0 0 ≡ l.t;
  meeting : IsMeeting l.rows l.met.items l.parents.items l.marks;
  looked : IsLookedAt l.rows l.t l.met.items l.parents.items l.at;
  behind : (j : ℕ) → j < length l.met.items → get_or l.parents.items j 0 ≤ l.at;
  sessions : l.marks.sessions ≡ l.initial.marks.sessions;
  met_room : vec_capacity l.met ≡ vec_capacity l.initial.met;
  parents_room : vec_capacity l.parents ≡ vec_capacity l.initial.parents;
}

-- Each round looks at one more.
abbrev pub decreases-loop-at : goal.decreases-loop-at
decreases-loop-at l = l.rows.sessions - l.at
