use Rattle.std.proofs.Common.{◌≡◌, ◌≤◌, length}
use Rattle.std.specs.Prelude.{vec_capacity}
use Rattle.lock_rules.specs.State.{State}
use Rattle.lock_rules.specs.Sound.{IsSound}
use Rattle.lock_table.specs.Shows.{Shows}
use Rattle.lock_desk.proofs.CyclesTold.{AreFirstTold}
use Rattle.lock_desk.proofs.deadlock_log.write_cycle.Given as goal

-- The sessions at the first positions are told.
abbrev pub invariant-loop-index : goal.invariant-loop-index
invariant-loop-index l = record {
  room : vec_capacity l.cycle ≡ vec_capacity l.initial.cycle;
  few : length l.cycle.items ≤ l.index;
  told : (st : State) → IsSound st.table → Shows l.table st → AreFirstTold st l.positions l.index l.cycle.items;
}
