use Rattle.std.proofs.Common.{◌≤◌, take}
use Rattle.std.specs.List.{All}
use Rattle.history_commands.proofs.since.highest.Given as goal

-- the sessions of the waits so far are not above it
abbrev pub invariant-loop-told : goal.invariant-loop-told
invariant-loop-told l = All (λ told. told.wait.session ≤ l.most) (take l.told-index l.waits)
