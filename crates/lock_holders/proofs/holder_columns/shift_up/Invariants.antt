use Rattle.std.proofs.Common.{◌≡◌, ◌≤◌, length, insert}
use Rattle.lock_holders.proofs.holder_columns.shift_up.Given as goal

abbrev pub invariant-loop-at : goal.invariant-loop-at
invariant-loop-at g l = record {
  within : l.at ≤ length l.items;
  shifted : insert l.items l.at l.carried ≡ insert l.initial.items l.fn.index l.fn.one;
}
