use Rattle.std.proofs.Common.{◌≡◌, ◌++◌, map, take}
use Rattle.std.specs.List.{flat_map}
use Rattle.lock_report.specs.Jam.{root_of}
use Rattle.lock_report.proofs.blocking.roots.add_roots.Given as goal

-- the roots so far are listed
abbrev pub invariant-loop-begun : goal.invariant-loop-begun
invariant-loop-begun l = record {
  same : l.rows ≡ l.fn.rows;
  roots : l.roots.items ≡ l.fn.roots.items ++ flat_map (root_of l.fn.rows.sessions l.jam.requests.now (map (λ q. q.items) l.jam.jammed.now) l.jam.waits.now) (take l.begun-index l.opens);
}
