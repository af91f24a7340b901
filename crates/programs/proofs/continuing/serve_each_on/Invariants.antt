use Rattle.std.proofs.Common.{length, ◌-◌, ◌≡◌, ◌≤◌}
use Rattle.std.specs.Prelude.{All}
use Rattle.sequential.specs.Batches.{IsItemWithin, IsBatch}
use Rattle.programs.proofs.continuing.serve_each_on.Given as goal

-- The items before the index are served, and the object tells of them.
abbrev pub invariant-loop-served : goal.invariant-loop-served
invariant-loop-served g l = record {
  few : l.served ≤ length l.items;
  len : length l.items ≡ length l.fn.items;
  within : All (IsItemWithin (g.O.Sequential.sessions l.object)) l.items;
  batch : IsBatch (g.O.Sequential.history l.fn.object) (g.O.Sequential.history l.object) l.fn.items l.items l.served;
  longer : length (g.O.Sequential.history l.fn.object) ≤ length (g.O.Sequential.history l.object);
  tells : g.O.Serving.tells_from l.object (length (g.O.Sequential.history l.fn.object));
  sessions : g.O.Sequential.sessions l.object ≡ g.O.Sequential.sessions l.fn.object;
  cut : g.O.Sequential.cut l.object ≡ g.O.Sequential.cut l.fn.object;
  bound : g.O.Sequential.bound l.object ≡ g.O.Sequential.bound l.fn.object;
}

abbrev pub decreases-loop-served : goal.decreases-loop-served
decreases-loop-served g l = length l.initial.items - l.served
