use Rattle.std.proofs.Common.{◌≡◌}
use Rattle.lock_trace.proofs.FastPath.{IsNumberTo}
use Rattle.lock_trace.proofs.fast_path.number_from.Given as goal

-- The bytes since the start are the decimal text of the number so far, or there are none.
abbrev pub invariant-loop-at : goal.invariant-loop-at
invariant-loop-at l = record {
  here : l.end ≡ l.at;
  read : IsNumberTo l.field l.start l.at l.number;
}
