use Rattle.std.proofs.Common.{◌≡◌, drop}
use Rattle.lock_modes.proofs.Names.{mode_named}
use Rattle.lock_modes.proofs.Mode.parse.Given as goal

-- no mode so far has the name
abbrev pub invariant-loop-mode : goal.invariant-loop-mode
invariant-loop-mode l = mode_named l.mode-items l.text ≡ mode_named (drop l.mode-index l.mode-items) l.text
