use Rattle.std.proofs.Common.{◌≡◌, ◌+◌, vec_len}
use Rattle.lock_rules.specs.State.{State}
use Rattle.lock_rules.specs.Sound.{IsNumbered, IsSound}
use Rattle.lock_table.specs.Changes.{DoesKeep, HasNotedEnded}
use Rattle.lock_table.specs.Shows.{Shows}
use Rattle.lock_table.proofs.DeadlockRounds.{IsNotedRound}
use Rattle.lock_table.proofs.table.LockTable.resolve_deadlocks.Given as goal

abbrev pub invariant-loop-round : goal.invariant-loop-round
invariant-loop-round g l = record {
  kept : DoesKeep l.initial.self l.self;
  count : l.self.count ≡ l.initial.self.count;
  waits_ended : HasNotedEnded 0 l.initial.self l.self;
  fits : g.N.DeadlockNotes.fits (vec_len l.initial.self.lockers) l.notes;
  rounds : (st : State) → IsSound st.table → IsNumbered st → Shows l.initial.self st → IsNotedRound g.N.DeadlockNotes.noted l.coming (vec_len l.initial.self.lockers + 1) l.round l.session l.place st l.self l.initial.notes l.notes;
}
