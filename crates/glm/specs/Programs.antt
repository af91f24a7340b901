-- What one execution of the program has done.
use Rattle.std.specs.Prelude.{◌≡◌, ◌≢◌, ℕ, List, Option, None}
use Rattle.std.specs.Io.KnownBytes.{Keeps}
use Rattle.clap.specs.Walk.{Text}
use Rattle.command_line.specs.CommandLine.{AskReplayInPieces, AskRunInPieces, AskShell}
use Rattle.command_line.specs.Streams.{SkipComments, input_file, output_file}
use Rattle.glm.specs.declared.outcomes.Outcome.{Outcome}
use Rattle.glm.specs.declared.outcomes.TheConstants.{DONE, ILLEGAL, NO_MEMORY, DEVICE, STOPPED}
use Rattle.glm.specs.Outcomes.{HasDone, status_of_outcome}
use Rattle.glm.specs.Statuses.{IsStatus}
use Rattle.glm.specs.Streams.{HasOutcome}

-- the program was run on these words and ended with this status; standard input had the bytes `input`, and standard output holds `old`
-- before and `new` after
pub record HasRun (words : List Text) (input old new : Option (List ℕ)) (status : ℕ) : Type 0 where
  -- the status of an outcome that says what the words ask for and what was done
  pub outcome : (outcome : Outcome) × (status ≡ status_of_outcome outcome) × HasOutcome words input old new outcome
  -- the same for words that name no file, and don't skip comments
  pub standard : input_file words ≡ None → output_file words ≡ None → ¬ SkipComments words
      → (outcome : Outcome) × (status ≡ status_of_outcome outcome) × HasDone words input old new outcome
  pub status_is : IsStatus status
  pub silent : ((n : ℕ) → ¬ (AskReplayInPieces words n)) → ((n turns : ℕ) → ¬ (AskRunInPieces words n turns)) → ((n : ℕ) → ¬ (AskShell words n))
      → status ≢ DONE → status ≢ ILLEGAL → status ≢ DEVICE → Keeps old new
  pub silent_in_pieces : ((n turns : ℕ) → ¬ (AskRunInPieces words n turns))
      → status ≢ DONE → status ≢ ILLEGAL → status ≢ DEVICE → status ≢ NO_MEMORY → Keeps old new
  pub silent_always : status ≢ DONE → status ≢ ILLEGAL → status ≢ DEVICE → status ≢ NO_MEMORY → status ≢ STOPPED → Keeps old new
