-- A program of no calls, and the answer to it.
use Rattle.std.specs.Prelude.{false, [], ◌∷◌}
use Rattle.std.proofs.Common.{lit≤}
use Rattle.lock_modes.specs.declared.Mode.TheVariants.{NL}
use Rattle.lock_programs.specs.declared.program.Start.TheVariants.{Nothing}
use Rattle.lock_programs.specs.declared.program.Last.TheVariants.{Polls}
use Rattle.lock_programs.specs.declared.program.Calls.TheVariants.{Path}
use Rattle.lock_programs.specs.declared.program.Program.{Program}
use Rattle.lock_programs.specs.declared.answer.Replies.TheVariants.{None}
use Rattle.lock_programs.specs.declared.answer.ProgramAnswer.{ProgramAnswer}

abbrev pub no_calls : Program
no_calls = record {
  calls = Path (record { resource = 0 ∷ []; from = 2; above = NL; last = Polls; start = Nothing; some = lit≤ tt; within = lit≤ tt; deep = lit≤ tt });
}

abbrev pub no_replies : ProgramAnswer
no_replies = record { first = 0; is_refused = false; replies = None }
