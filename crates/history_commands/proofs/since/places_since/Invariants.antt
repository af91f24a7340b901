use Rattle.std.proofs.Common.{◌≡◌, ◌+◌, length, take}
use Rattle.history_commands.specs.Waits.{AreSince}
use Rattle.history_commands.proofs.since.places_since.Given as goal

-- the places of the entries so far are noted
abbrev pub invariant-loop-index : goal.invariant-loop-index
invariant-loop-index l = record { len : length l.places.items ≡ l.most + 1; since : AreSince (take l.index l.entries) l.places.items }
