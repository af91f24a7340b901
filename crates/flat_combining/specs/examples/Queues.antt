-- What a bounded queue is.
use Rattle.std.specs.Prelude.{ℕ, if◌then◌else◌, ◌==◌, List, [], ◌∷◌, ◌++◌, length, drop, nat_lt}
use Rattle.flat_combining.specs.declared.examples.bounded_queue.QueueCall.{QueueCall}
use Rattle.flat_combining.specs.declared.examples.bounded_queue.QueueCall.TheVariants.{Limit, Push, Pop}
use Rattle.flat_combining.specs.declared.examples.bounded_queue.QueueReply.{QueueReply}
use Rattle.flat_combining.specs.declared.examples.bounded_queue.QueueReply.TheVariants.{Limited, Pushed, Full, Popped, Empty}

-- How many items the queue may have, 0 if nobody has said so, and its items, oldest first.
pub record Queue : Type 0 where
  pub capacity : ℕ
  pub items : List ℕ

-- The queue of this capacity and these items after a call.
abbrev pub queue_after : ℕ → List ℕ → QueueCall → Queue
queue_after capacity items (Limit most) = record { capacity = if capacity == 0 then most else capacity; items = items }
queue_after capacity items (Push item) = record { capacity = capacity; items = if nat_lt (length items) capacity then items ++ item ∷ [] else items }
queue_after capacity items Pop = record { capacity = capacity; items = drop 1 items }

-- The reply to a call.
abbrev pub reply_of : ℕ → List ℕ → QueueCall → QueueReply
reply_of capacity items (Limit most) = Limited
reply_of capacity items (Push item) = if nat_lt (length items) capacity then Pushed else Full
reply_of capacity [] Pop = Empty
reply_of capacity (item ∷ items) Pop = Popped item
