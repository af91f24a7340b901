use Rattle.std.proofs.Common.{◌≡◌, ◌++◌, replicate}
use Rattle.publication.specs.declared.slot.SlotValue.TheVariants.{Empty}
use Rattle.publication.proofs.new_board.initial_slots.Given as goal

abbrev pub invariant-loop-session : goal.invariant-loop-session
invariant-loop-session g l = l.slots.items ≡ l.initial.slots.items ++ replicate l._session Empty
