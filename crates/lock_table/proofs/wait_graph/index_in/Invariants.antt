use Rattle.std.proofs.Common.{◌≡◌, false, take}
use Rattle.lock_holders.specs.SessionModes.{has_session}
use Rattle.lock_table.proofs.wait_graph.index_in.Given as goal

abbrev pub invariant-loop-index : goal.invariant-loop-index
invariant-loop-index l = has_session l.session (take l.index l.queue) ≡ false
