use Rattle.std.proofs.Common.{◌≡◌, List, ℕ, ◌++◌}
use Rattle.std.specs.Io.KnownBytes.{Appends}
use Rattle.replay_commands.proofs.writing.write_text.Given as goal

-- the output grew by what stands before the rest of the text
abbrev pub invariant-loop : goal.invariant-loop
invariant-loop g l = (done : List ℕ) × (l.text ≡ done ++ l.rest) × Appends (g.W.Write.contents l.initial.output) (g.W.Write.contents l.output) done
