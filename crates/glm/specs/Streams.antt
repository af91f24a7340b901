-- What an outcome says if the words may name a file to read and a file to write.
use Rattle.std.specs.Prelude.{◌≡◌, ◌≢◌, ◌⊎◌, ℕ, List, Option, None, option_map}
use Rattle.std.specs.Io.KnownBytes.{Keeps}
use Rattle.clap.specs.Walk.{Text}
use Rattle.command_line.specs.Streams.{SkipComments, input_file, output_file}
use Rattle.lock_trace.specs.Comments.{without_comments}
use Rattle.glm.specs.declared.outcomes.Outcome.{Outcome}
use Rattle.glm.specs.declared.outcomes.Outcome.TheVariants as outcome
use Rattle.glm.specs.Outcomes.{HasDone}

-- the outcome of a file that couldn't be opened or written, or for whose name there was no memory
abbrev pub IsFileFault : Outcome → Type 0
IsFileFault o = (o ≡ outcome.FileFailed) ⊎ (o ≡ outcome.OutOfMemory)

-- what an outcome says if a file was written, of which no bytes are known
abbrev pub HasDoneInFile : List Text → Option (List ℕ) → Outcome → Type 0
HasDoneInFile words input outcome = (before after : Option (List ℕ)) × HasDone words input before after outcome

-- the outcome of a command that read some bytes and wrote to something; `input` has the bytes of standard input, and standard output
-- holds `old` before and `new` after
pub record HasDoneOnStreams (words : List Text) (input old new : Option (List ℕ)) (done : Outcome) : Type 0 where
  pub read : Option (List ℕ)
  pub before : Option (List ℕ)
  pub after : Option (List ℕ)
  -- standard input was read if the words name no file to read, whole or without comments
  pub reads : input_file words ≡ None → ¬ SkipComments words → read ≡ input
  pub skips : input_file words ≡ None → SkipComments words → read ≡ option_map without_comments input
  -- standard output was written if the words name no file to write, and else stays as it was
  pub prints : output_file words ≡ None → (before ≡ old) × (after ≡ new)
  pub keeps : output_file words ≢ None → Keeps old new
  pub has_done : HasDone words read before after done

-- what an outcome says of the words and the standard streams: a command may have read and written files
abbrev pub HasOutcome : List Text → Option (List ℕ) → Option (List ℕ) → Option (List ℕ) → Outcome → Type 0
HasOutcome words input old new (outcome.Replay answer) = HasDoneOnStreams words input old new (outcome.Replay answer)
HasOutcome words input old new (outcome.ReplayInPieces answer) = HasDoneOnStreams words input old new (outcome.ReplayInPieces answer)
HasOutcome words input old new (outcome.Run answer) = HasDoneOnStreams words input old new (outcome.Run answer)
HasOutcome words input old new (outcome.RunInPieces answer) = HasDoneOnStreams words input old new (outcome.RunInPieces answer)
HasOutcome words input old new (outcome.Check answer) = HasDoneOnStreams words input old new (outcome.Check answer)
HasOutcome words input old new (outcome.Show answer) = HasDoneOnStreams words input old new (outcome.Show answer)
HasOutcome words input old new (outcome.Dump answer) = HasDoneOnStreams words input old new (outcome.Dump answer)
HasOutcome words input old new (outcome.Explain answer) = HasDoneOnStreams words input old new (outcome.Explain answer)
HasOutcome words input old new (outcome.Timeline answer) = HasDoneOnStreams words input old new (outcome.Timeline answer)
HasOutcome words input old new (outcome.Stats answer) = HasDoneOnStreams words input old new (outcome.Stats answer)
HasOutcome words input old new (outcome.Shell answer) = HasDoneOnStreams words input old new (outcome.Shell answer)
HasOutcome words input old new outcome.HelpShown = HasDone words input old new outcome.HelpShown
HasOutcome words input old new outcome.HelpFailed = HasDone words input old new outcome.HelpFailed
HasOutcome words input old new outcome.VersionShown = HasDone words input old new outcome.VersionShown
HasOutcome words input old new outcome.VersionFailed = HasDone words input old new outcome.VersionFailed
HasOutcome words input old new outcome.Misused = HasDone words input old new outcome.Misused
HasOutcome words input old new outcome.OutOfMemory = HasDone words input old new outcome.OutOfMemory
HasOutcome words input old new outcome.FileFailed = HasDone words input old new outcome.FileFailed
