use Rattle.std.proofs.Common.{length, ◌-◌, ◌≡◌, ◌≤◌}
use Rattle.std.specs.Prelude.{All}
use Rattle.sequential.specs.Batches.{IsItemWithin, IsBatch}
use Rattle.sequential.proofs.batching.serve_each.Given as goal

-- The items before the index are served.
abbrev pub invariant-loop-served : goal.invariant-loop-served
invariant-loop-served g l = record {
  few : l.served ≤ length l.items;
  len : length l.items ≡ length l.initial.items;
  within : All (IsItemWithin (g.O.Sequential.sessions l.object)) l.items;
  batch : IsBatch (g.O.Sequential.history l.initial.object) (g.O.Sequential.history l.object) l.initial.items l.items l.served;
  sessions : g.O.Sequential.sessions l.object ≡ g.O.Sequential.sessions l.initial.object;
  cut : g.O.Sequential.cut l.object ≡ g.O.Sequential.cut l.initial.object;
  bound : g.O.Sequential.bound l.object ≡ g.O.Sequential.bound l.initial.object;
}

abbrev pub decreases-loop-served : goal.decreases-loop-served
decreases-loop-served g l = length l.initial.items - l.served
