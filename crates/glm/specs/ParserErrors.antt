-- The outcome of an error of the parser; cited by private contracts only.
use Rattle.std.specs.Prelude.{◌≡◌, ◌≢◌, ℕ, List, Option}
use Rattle.std.specs.Io.KnownBytes.{Keeps, Appends}
use Rattle.clap.specs.declared.error.kind.ErrorKind.{ErrorKind}
use Rattle.clap.specs.declared.error.kind.ErrorKind.TheVariants as error
use Rattle.glm.specs.declared.outcomes.Outcome.{Outcome}
use Rattle.glm.specs.declared.outcomes.Outcome.TheVariants as outcome
use Rattle.glm.specs.Outcomes.{text_of_version}
use Rattle.replay_commands.specs.Written.{AppendsPart}

-- the outcome of a parser error of this kind; the output holds `old` before and `new` after
abbrev pub IsOutcomeOfError : ErrorKind → Option (List ℕ) → Option (List ℕ) → Outcome → Type 0
IsOutcomeOfError kind old new (outcome.Replay answer) = ⊥
IsOutcomeOfError kind old new (outcome.ReplayInPieces answer) = ⊥
IsOutcomeOfError kind old new (outcome.RunInPieces answer) = ⊥
IsOutcomeOfError kind old new (outcome.Run answer) = ⊥
IsOutcomeOfError kind old new (outcome.Check answer) = ⊥
IsOutcomeOfError kind old new (outcome.Show answer) = ⊥
IsOutcomeOfError kind old new (outcome.Explain answer) = ⊥
IsOutcomeOfError kind old new (outcome.Timeline answer) = ⊥
IsOutcomeOfError kind old new (outcome.Dump answer) = ⊥
IsOutcomeOfError kind old new (outcome.Stats answer) = ⊥
IsOutcomeOfError kind old new (outcome.Shell answer) = ⊥
IsOutcomeOfError kind old new outcome.HelpShown = kind ≡ error.DisplayHelp
IsOutcomeOfError kind old new outcome.HelpFailed = kind ≡ error.DisplayHelp
IsOutcomeOfError kind old new outcome.VersionShown = (kind ≡ error.DisplayVersion) × Appends old new text_of_version
IsOutcomeOfError kind old new outcome.VersionFailed = (kind ≡ error.DisplayVersion) × AppendsPart old new text_of_version
IsOutcomeOfError kind old new outcome.Misused =
    (kind ≢ error.DisplayHelp) × (kind ≢ error.DisplayVersion) × (kind ≢ error.OutOfMemory) × Keeps old new
IsOutcomeOfError kind old new outcome.OutOfMemory = (kind ≡ error.OutOfMemory) × Keeps old new
IsOutcomeOfError kind old new outcome.FileFailed = ⊥
