use Rattle.std.proofs.Common.{ℕ, sym, subst}
use Rattle.std.specs.List.{All}
use Rattle.lock_trace.specs.Entries.{IsEntry}
use Rattle.history_commands.proofs.drawing.note_waits.Goals as goal

pub first_wrong-requires-clause-within : goal.first_wrong-requires-clause-within
first_wrong-requires-clause-within c = subst (λ (n : ℕ). All (IsEntry n) c.args.entries.now) (sym c.loop-place.invariant.sessions) c.requires.within
