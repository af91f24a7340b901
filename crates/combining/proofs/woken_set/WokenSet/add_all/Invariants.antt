use Rattle.std.proofs.Common.{◌≡◌, ◌↔◌, ◌⊎◌, ℕ, take}
use Rattle.std.specs.List.{Contains}
use Rattle.combining.proofs.woken_set.WokenSet.add_all.Given as goal

-- The sessions so far are added.
abbrev pub invariant-loop-session : goal.invariant-loop-session
invariant-loop-session l = record {
  room : l.self.room ≡ l.initial.self.room;
  members : (u : ℕ) → Contains l.self.list u ↔ (Contains l.initial.self.list u ⊎ Contains (take l.session-index l.sessions) u);
}
