-- Whom a session waits for.
use Rattle.std.specs.Prelude.{ℕ, List, filter}
use Rattle.std.specs.List.{range_with_len}
use Rattle.lock_rules.specs.State.{Table}
use Rattle.lock_rules.specs.Waits.{waits_for}

-- the sessions from 1 to n for which session s waits directly, by number
abbrev pub blockers_among : ℕ → Table → ℕ → List ℕ
blockers_among n t s = filter (waits_for t s) (range_with_len 1 n)
