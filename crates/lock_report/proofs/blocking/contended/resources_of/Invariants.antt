use Rattle.std.proofs.Common.{◌≡◌, ℕ, List, take}
use Rattle.std.specs.List.{list_any}
use Rattle.lock_tree.specs.Paths.{same_path}
use Rattle.lock_report.specs.inner.Contended.{is_wanted}
use Rattle.lock_report.proofs.blocking.contended.resources_of.Given as goal

-- the resources of the requests so far are in the set
abbrev pub invariant-loop-request : goal.invariant-loop-request
invariant-loop-request l = (r : List ℕ) → list_any (same_path r) l.resources.keys ≡ is_wanted (take l.request-index l.requests) r
