use Rattle.std.proofs.Common.{ℕ, ◌<◌, List, length, get_or}
use Rattle.lock_tree.specs.Paths.{IsResource}
use Rattle.session_locks.proofs.resource_order.are_resources.Given as goal

abbrev pub invariant-loop-index : goal.invariant-loop-index
invariant-loop-index l = (k : ℕ) (d : List ℕ) → k < l.index → k < length l.list → IsResource (get_or l.list k d)
