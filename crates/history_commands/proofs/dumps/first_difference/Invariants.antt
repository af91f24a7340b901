use Rattle.std.proofs.Common.{◌≡◌, ◌≤◌, length, take}
use Rattle.history_commands.proofs.dumps.first_difference.Given as goal

-- the rows so far are as wanted
abbrev pub invariant-loop-index : goal.invariant-loop-index
invariant-loop-index l = (take l.index l.rows ≡ take l.index l.wanted) × (l.index ≤ length l.rows)
