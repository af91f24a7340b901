use Rattle.std.proofs.Common.{◌≡◌, ◌≤◌, ◌-◌, ◌++◌, ◌∷◌, [], length, insert}
use Rattle.lock_holders.proofs.holder_columns.shift_down.Given as goal

abbrev pub invariant-loop-at : goal.invariant-loop-at
invariant-loop-at g l = record {
  from : l.fn.index ≤ l.at;
  within : l.at ≤ length l.items;
  shifted : insert l.items l.at l.carried ≡ l.initial.items ++ l.fn.last ∷ [];
}

abbrev pub decreases-loop-at : goal.decreases-loop-at
decreases-loop-at g l = l.at - l.fn.index
