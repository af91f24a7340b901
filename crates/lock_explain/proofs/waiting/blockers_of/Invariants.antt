use Rattle.std.proofs.Common.{◌≡◌, ◌≤◌, drop}
use Rattle.std.specs.List.{flat_map, range_with_len}
use Rattle.lock_rules.specs.State.{holders}
use Rattle.lock_rules.specs.Legal.{state_of}
use Rattle.lock_explain.specs.Waiting.{blocker_of, waiting_state}
use Rattle.lock_explain.specs.inner.Asked.{claim_of}
use Rattle.lock_explain.proofs.HoldersInTurn.{AreBehind}
use Rattle.lock_explain.proofs.waiting.blockers_of.Given as goal

-- the sessions before this one are told, and the holders from `next` on are those behind them
abbrev pub invariant-loop-position : goal.invariant-loop-position
invariant-loop-position l = record {
  told : l.blockers.items ≡ flat_map (blocker_of (waiting_state (state_of l.before.history) (claim_of l.asked)) (claim_of l.asked)) (range_with_len 1 l.position);
  all : l.holders.items ≡ holders l.asked.resource (state_of l.before.history).table.held;
  behind : AreBehind (holders l.asked.resource (state_of l.before.history).table.held) l.position (drop l.next l.holders.items);
  few : l.next ≤ l.position;
}
