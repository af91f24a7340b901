use Rattle.std.proofs.Common.{◌≡◌, ◌≤◌, ◌+◌, ◌++◌, length, map, take, vec_len, vec_capacity}
use Rattle.lock_holders.specs.SessionModes.{pair_of}
use Rattle.lock_holders.specs.inner.Columns.{side_by_side}
use Rattle.lock_holders.proofs.holder_columns.write_list.Given as goal

abbrev pub invariant-loop-index : goal.invariant-loop-index
invariant-loop-index l = record {
  items : l.list.items ≡ l.initial.list.items ++ map pair_of (take l.index (side_by_side l.sessions l.codes));
  len : vec_len l.list ≡ vec_len l.initial.list + l.index;
  room : vec_len l.initial.list + length l.sessions ≤ vec_capacity l.list;
}
