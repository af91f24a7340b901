use Rattle.std.proofs.Common.{◌≡◌, ◌++◌, take, drop}
use Rattle.lock_holders.specs.declared.session_mode.SessionMode.{SessionMode}
use Rattle.lock_table.specs.inner.Cells.{behind_conversions}
use Rattle.lock_table.proofs.cells.conversions.Given as goal

abbrev pub invariant-loop-index : goal.invariant-loop-index
invariant-loop-index l = (c : SessionMode) → behind_conversions c l.holders.items l.waiting ≡ take l.index l.waiting ++ behind_conversions c l.holders.items (drop l.index l.waiting)
