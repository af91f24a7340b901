use Rattle.std.proofs.Common.{◌≡◌, drop}
use Rattle.lock_holders.specs.SessionModes.{mode_of}
use Rattle.lock_table.proofs.cells.target_in.Given as goal

abbrev pub invariant-loop-index : goal.invariant-loop-index
invariant-loop-index l = mode_of l.session l.queue ≡ mode_of l.session (drop l.index l.queue)
