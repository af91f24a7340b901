-- A bounded queue has at most as many items as its capacity.
use Rattle.std.proofs.Common.{ℕ, ◌≤◌, List, [], ◌∷◌, length, length-append, length-drop, arith}
use Rattle.flat_combining.specs.declared.examples.bounded_queue.QueueCall.{QueueCall}
use Rattle.flat_combining.specs.declared.examples.bounded_queue.QueueCall.TheVariants.{Limit, Push, Pop}
use Rattle.flat_combining.specs.examples.Queues.{queue_after}

pub empty_is_short : length {A = ℕ} [] ≤ 0
empty_is_short = omega arith

pub stays_short : (capacity : ℕ) (items : List ℕ) (call : QueueCall) → length items ≤ capacity → length (queue_after capacity items call).items ≤ (queue_after capacity items call).capacity
stays_short capacity items (Limit most) short = grind (arith, short)
stays_short capacity items (Push item) short = grind (arith, short, length-append items (item ∷ []))
stays_short capacity items Pop short = omega (arith, short, length-drop 1 items)
