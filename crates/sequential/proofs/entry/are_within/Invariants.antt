use Rattle.std.proofs.Common.{take}
use Rattle.std.specs.List.{All}
use Rattle.sequential.specs.Batches.{IsItemWithin}
use Rattle.sequential.proofs.entry.are_within.Given as goal

-- The items so far are of sessions 1 to `sessions`.
abbrev pub invariant-loop-item : goal.invariant-loop-item
invariant-loop-item g l = All (IsItemWithin l.sessions) (take l.item-index l.items)
