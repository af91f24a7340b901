use Rattle.std.proofs.Common.{[], ◌∷◌}
use Rattle.lock_modes.specs.declared.Mode.TheVariants.{NL}
use Rattle.lock_programs.specs.declared.stop.Stop.TheVariants.{GoesOn}
use Rattle.lock_programs.specs.Calls.{calls_of}
use Rattle.lock_programs.proofs.Appends.{none-from}
use Rattle.lock_programs.proofs.notes.ReplyNotes.none.Goals as goal

pub returns : goal.returns
returns c = λ p. none-from (record { began = 0; ended = 0; granted = NL ∷ NL ∷ NL ∷ NL ∷ NL ∷ NL ∷ NL ∷ []; stop = GoesOn }) (calls_of p) 0
