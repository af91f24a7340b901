use Rattle.std.proofs.Common.{◌≡◌, map, take}
use Rattle.history_commands.specs.Waits.{with_since}
use Rattle.history_commands.proofs.since.with_places.Given as goal

-- the waits so far are told
abbrev pub invariant-loop-wait : goal.invariant-loop-wait
invariant-loop-wait l = l.told.items ≡ map (with_since l.entries) (take l.wait-index l.waits)
