-- A path is locked from the database down: each ancestor of a resource in the mode that a lock below it needs there, and then the resource.
use Rattle.std.specs.Prelude.{ℕ, Bool, true, false, if◌then◌else◌, ◌==◌, List, length, take}
use Rattle.lock_modes.specs.declared.Mode.{Mode}
use Rattle.lock_modes.specs.Order.{need_of}
use Rattle.lock_rules.specs.declared.calls.Call.{Call}
use Rattle.lock_rules.specs.declared.calls.Call.TheVariants.{Lock}
use Rattle.lock_rules.specs.declared.calls.Reply.{Reply}
use Rattle.lock_rules.specs.declared.calls.Reply.TheVariants.{Granted}

-- the call that locks level k of the path to resource r, which is its first k numbers: the resource in mode m, an ancestor in
-- the mode that m needs of a parent
abbrev pub lock_of_level : List ℕ → Mode → ℕ → Call
lock_of_level r m k = Lock (take k r) (if k == length r then m else need_of m)

-- the reply grants the lock
abbrev pub grants : Reply → Bool
grants (Granted m) = true
grants _ = false
