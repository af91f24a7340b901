use Rattle.std.proofs.Common.{◌≡◌, ◌<◌, ◌^◌, length, List}
use Rattle.lock_rules.specs.Entries.{Entry}
use Rattle.lock_rules.specs.Counts.{count_if}
use Rattle.lock_rules.proofs.CountTallies.{below}
use Rattle.lock_desk.specs.inner.Counting.{AreCallsCounted}
use Rattle.lock_desk.proofs.call_counts.CallCounts.called.Given as goal

-- the calls whose replies have the numbers so far are counted
abbrev pub invariant-loop-number : goal.invariant-loop-number
invariant-loop-number l = (h : List Entry) → AreCallsCounted h l.fn.self → length h < 2 ^ 64 → l.total ≡ count_if (below l.fn.op l.number) h
