-- When the program writes nothing, by its status.
use Rattle.std.proofs.Common.{◌≡◌, ◌≢◌, ◌∙◌, ℕ, List, Option, Ok, Err, ap, refl}
use Rattle.std.specs.Io.KnownBytes.{Keeps}
use Rattle.clap.specs.Walk.{Text}
use Rattle.command_line.specs.CommandLine.{AskReplayInPieces, AskRunInPieces, AskShell}
use Rattle.glm.specs.Outcomes.{HasDone, status_of_outcome}
use Rattle.glm.specs.Statuses.{status_for, status_for_dump, status_for_show}
use Rattle.replay_commands.specs.declared.checking.Verdict.TheVariants as verdict
use Rattle.replay_commands.specs.declared.tool_fault.ToolFault.TheVariants as tool
use Rattle.glm.specs.declared.outcomes.Outcome.{Outcome}
use Rattle.glm.specs.declared.outcomes.Outcome.TheVariants as outcome
use Rattle.glm.specs.declared.outcomes.TheConstants.{DONE, ILLEGAL, NO_MEMORY, DEVICE, STOPPED}

-- unless a shell, or a replay or a run in pieces, is asked for, nothing is written without a verdict if no device failed and it isn't done
pub silent : (words : List Text) (input old new : Option (List ℕ)) (o : Outcome) (status : ℕ) → status ≡ status_of_outcome o → HasDone words input old new o
    → ((n : ℕ) → ¬ AskReplayInPieces words n) → ((n turns : ℕ) → ¬ AskRunInPieces words n turns) → ((n : ℕ) → ¬ AskShell words n) → status ≢ DONE → status ≢ ILLEGAL → status ≢ DEVICE
    → Keeps old new
silent words input old new (outcome.Replay (Ok n)) status is did whole run shell done illegal device = absurd (done is)
silent words input old new (outcome.Replay (Err fault)) status is did whole run shell done illegal device = did.kept (λ f. device (is ∙ ap status_for f))
silent words input old new (outcome.ReplayInPieces answer) status is did whole run shell done illegal device = absurd (whole did.sessions did.asked)
silent words input old new (outcome.Run (Ok n)) status is did whole run shell done illegal device = absurd (done is)
silent words input old new (outcome.Run (Err fault)) status is did whole run shell done illegal device = did.kept (λ f. device (is ∙ ap status_for f))
silent words input old new (outcome.RunInPieces answer) status is did whole run shell done illegal device = absurd (run did.sessions did.turns did.asked)
silent words input old new (outcome.Check (Ok (verdict.Legal n))) status is did whole run shell done illegal device = absurd (done is)
silent words input old new (outcome.Check (Ok (verdict.Illegal p))) status is did whole run shell done illegal device = absurd (illegal is)
silent words input old new (outcome.Check (Err fault)) status is did whole run shell done illegal device = did.kept (λ f. device (is ∙ ap status_for f))
silent words input old new (outcome.Show (Ok (verdict.Legal n))) status is did whole run shell done illegal device = absurd (done is)
silent words input old new (outcome.Show (Ok (verdict.Illegal p))) status is did whole run shell done illegal device = absurd (illegal is)
silent words input old new (outcome.Show (Err fault)) status is did whole run shell done illegal device = did.kept (λ f. device (is ∙ ap status_for_show f))
silent words input old new (outcome.Explain (Ok (verdict.Legal n))) status is did whole run shell done illegal device = absurd (done is)
silent words input old new (outcome.Explain (Ok (verdict.Illegal p))) status is did whole run shell done illegal device = absurd (illegal is)
silent words input old new (outcome.Explain (Err fault)) status is did whole run shell done illegal device = did.kept (λ f. device (is ∙ ap status_for_show f))
silent words input old new (outcome.Timeline (Ok (verdict.Legal n))) status is did whole run shell done illegal device = absurd (done is)
silent words input old new (outcome.Timeline (Ok (verdict.Illegal p))) status is did whole run shell done illegal device = absurd (illegal is)
silent words input old new (outcome.Timeline (Err fault)) status is did whole run shell done illegal device = did.kept (λ f. device (is ∙ ap status_for_show f))
silent words input old new (outcome.Dump (Ok n)) status is did whole run shell done illegal device = absurd (done is)
silent words input old new (outcome.Stats (Ok (verdict.Legal n))) status is did whole run shell done illegal device = absurd (done is)
silent words input old new (outcome.Stats (Ok (verdict.Illegal p))) status is did whole run shell done illegal device = absurd (illegal is)
silent words input old new (outcome.Dump (Err fault)) status is did whole run shell done illegal device = did.kept (λ f. device (is ∙ ap status_for_dump f))
silent words input old new (outcome.Stats (Err fault)) status is did whole run shell done illegal device = did.kept (λ f. device (is ∙ ap status_for f))
silent words input old new (outcome.Shell answer) status is did whole run shell done illegal device = absurd (shell did.sessions did.asked)
silent words input old new outcome.HelpShown status is did whole run shell done illegal device = absurd (done is)
silent words input old new outcome.HelpFailed status is did whole run shell done illegal device = absurd (device is)
silent words input old new outcome.VersionShown status is did whole run shell done illegal device = absurd (done is)
silent words input old new outcome.VersionFailed status is did whole run shell done illegal device = absurd (device is)
silent words input old new outcome.Misused status is did whole run shell done illegal device = did.1
silent words input old new outcome.OutOfMemory status is did whole run shell done illegal device = did
silent words input old new outcome.FileFailed status is did whole run shell done illegal device = did

-- unless a run in pieces is asked for, nothing is written without a verdict if no device failed, memory was not refused and it
-- isn't done
pub silent_in_pieces : (words : List Text) (input old new : Option (List ℕ)) (o : Outcome) (status : ℕ) → status ≡ status_of_outcome o
    → HasDone words input old new o → ((n turns : ℕ) → ¬ AskRunInPieces words n turns) → status ≢ DONE → status ≢ ILLEGAL → status ≢ DEVICE
    → status ≢ NO_MEMORY → Keeps old new
silent_in_pieces words input old new (outcome.Replay (Ok n)) status is did run done illegal device memory = absurd (done is)
silent_in_pieces words input old new (outcome.Replay (Err fault)) status is did run done illegal device memory = did.kept (λ f. device (is ∙ ap status_for f))
silent_in_pieces words input old new (outcome.ReplayInPieces (Ok n)) status is did run done illegal device memory = absurd (done is)
silent_in_pieces words input old new (outcome.ReplayInPieces (Err fault)) status is did run done illegal device memory =
    did.kept (λ f. device (is ∙ ap status_for f)) (λ f. memory (is ∙ ap status_for f))
silent_in_pieces words input old new (outcome.Run (Ok n)) status is did run done illegal device memory = absurd (done is)
silent_in_pieces words input old new (outcome.Run (Err fault)) status is did run done illegal device memory = did.kept (λ f. device (is ∙ ap status_for f))
silent_in_pieces words input old new (outcome.RunInPieces answer) status is did run done illegal device memory = absurd (run did.sessions did.turns did.asked)
silent_in_pieces words input old new (outcome.Check (Ok (verdict.Legal n))) status is did run done illegal device memory = absurd (done is)
silent_in_pieces words input old new (outcome.Check (Ok (verdict.Illegal p))) status is did run done illegal device memory = absurd (illegal is)
silent_in_pieces words input old new (outcome.Check (Err fault)) status is did run done illegal device memory = did.kept (λ f. device (is ∙ ap status_for f))
silent_in_pieces words input old new (outcome.Show (Ok (verdict.Legal n))) status is did run done illegal device memory = absurd (done is)
silent_in_pieces words input old new (outcome.Show (Ok (verdict.Illegal p))) status is did run done illegal device memory = absurd (illegal is)
silent_in_pieces words input old new (outcome.Show (Err fault)) status is did run done illegal device memory = did.kept (λ f. device (is ∙ ap status_for_show f))
silent_in_pieces words input old new (outcome.Explain (Ok (verdict.Legal n))) status is did run done illegal device memory = absurd (done is)
silent_in_pieces words input old new (outcome.Explain (Ok (verdict.Illegal p))) status is did run done illegal device memory = absurd (illegal is)
silent_in_pieces words input old new (outcome.Explain (Err fault)) status is did run done illegal device memory = did.kept (λ f. device (is ∙ ap status_for_show f))
silent_in_pieces words input old new (outcome.Timeline (Ok (verdict.Legal n))) status is did run done illegal device memory = absurd (done is)
silent_in_pieces words input old new (outcome.Timeline (Ok (verdict.Illegal p))) status is did run done illegal device memory = absurd (illegal is)
silent_in_pieces words input old new (outcome.Timeline (Err fault)) status is did run done illegal device memory = did.kept (λ f. device (is ∙ ap status_for_show f))
silent_in_pieces words input old new (outcome.Dump (Ok n)) status is did run done illegal device memory = absurd (done is)
silent_in_pieces words input old new (outcome.Stats (Ok (verdict.Legal n))) status is did run done illegal device memory = absurd (done is)
silent_in_pieces words input old new (outcome.Stats (Ok (verdict.Illegal p))) status is did run done illegal device memory = absurd (illegal is)
silent_in_pieces words input old new (outcome.Dump (Err fault)) status is did run done illegal device memory = did.kept (λ f. device (is ∙ ap status_for_dump f))
silent_in_pieces words input old new (outcome.Stats (Err fault)) status is did run done illegal device memory = did.kept (λ f. device (is ∙ ap status_for f))
silent_in_pieces words input old new (outcome.Shell (Ok n)) status is did run done illegal device memory = absurd (done is)
silent_in_pieces words input old new (outcome.Shell (Err tool.NoMemory)) status is did run done illegal device memory = absurd (memory is)
silent_in_pieces words input old new (outcome.Shell (Err tool.Device)) status is did run done illegal device memory = absurd (device is)
silent_in_pieces words input old new (outcome.Shell (Err (tool.Trace row))) status is did run done illegal device memory = absurd did.faults
silent_in_pieces words input old new (outcome.Shell (Err tool.GateShut)) status is did run done illegal device memory = absurd did.faults
silent_in_pieces words input old new (outcome.Shell (Err tool.TurnLimit)) status is did run done illegal device memory = absurd did.faults
silent_in_pieces words input old new outcome.HelpShown status is did run done illegal device memory = absurd (done is)
silent_in_pieces words input old new outcome.HelpFailed status is did run done illegal device memory = absurd (device is)
silent_in_pieces words input old new outcome.VersionShown status is did run done illegal device memory = absurd (done is)
silent_in_pieces words input old new outcome.VersionFailed status is did run done illegal device memory = absurd (device is)
silent_in_pieces words input old new outcome.Misused status is did run done illegal device memory = did.1
silent_in_pieces words input old new outcome.OutOfMemory status is did run done illegal device memory = did
silent_in_pieces words input old new outcome.FileFailed status is did run done illegal device memory = did

-- nothing is written without a verdict if no device failed, memory was not refused, no thread was stopped and it isn't done
pub silent_always : (words : List Text) (input old new : Option (List ℕ)) (o : Outcome) (status : ℕ) → status ≡ status_of_outcome o
    → HasDone words input old new o → status ≢ DONE → status ≢ ILLEGAL → status ≢ DEVICE → status ≢ NO_MEMORY → status ≢ STOPPED → Keeps old new
silent_always words input old new (outcome.Replay (Ok n)) status is did done illegal device memory stopped = absurd (done is)
silent_always words input old new (outcome.Replay (Err fault)) status is did done illegal device memory stopped = did.kept (λ f. device (is ∙ ap status_for f))
silent_always words input old new (outcome.ReplayInPieces (Ok n)) status is did done illegal device memory stopped = absurd (done is)
silent_always words input old new (outcome.ReplayInPieces (Err fault)) status is did done illegal device memory stopped =
    did.kept (λ f. device (is ∙ ap status_for f)) (λ f. memory (is ∙ ap status_for f))
silent_always words input old new (outcome.Run (Ok n)) status is did done illegal device memory stopped = absurd (done is)
silent_always words input old new (outcome.Run (Err fault)) status is did done illegal device memory stopped = did.kept (λ f. device (is ∙ ap status_for f))
silent_always words input old new (outcome.RunInPieces (Ok n)) status is did done illegal device memory stopped = absurd (done is)
silent_always words input old new (outcome.RunInPieces (Err (tool.Trace row))) status is did done illegal device memory stopped = did.kept row refl
silent_always words input old new (outcome.RunInPieces (Err tool.NoMemory)) status is did done illegal device memory stopped = absurd (memory is)
silent_always words input old new (outcome.RunInPieces (Err tool.Device)) status is did done illegal device memory stopped = absurd (device is)
silent_always words input old new (outcome.RunInPieces (Err tool.GateShut)) status is did done illegal device memory stopped = absurd (stopped is)
silent_always words input old new (outcome.RunInPieces (Err tool.TurnLimit)) status is did done illegal device memory stopped = absurd (stopped is)
silent_always words input old new (outcome.Check (Ok (verdict.Legal n))) status is did done illegal device memory stopped = absurd (done is)
silent_always words input old new (outcome.Check (Ok (verdict.Illegal p))) status is did done illegal device memory stopped = absurd (illegal is)
silent_always words input old new (outcome.Check (Err fault)) status is did done illegal device memory stopped = did.kept (λ f. device (is ∙ ap status_for f))
silent_always words input old new (outcome.Show (Ok (verdict.Legal n))) status is did done illegal device memory stopped = absurd (done is)
silent_always words input old new (outcome.Show (Ok (verdict.Illegal p))) status is did done illegal device memory stopped = absurd (illegal is)
silent_always words input old new (outcome.Show (Err fault)) status is did done illegal device memory stopped = did.kept (λ f. device (is ∙ ap status_for_show f))
silent_always words input old new (outcome.Explain (Ok (verdict.Legal n))) status is did done illegal device memory stopped = absurd (done is)
silent_always words input old new (outcome.Explain (Ok (verdict.Illegal p))) status is did done illegal device memory stopped = absurd (illegal is)
silent_always words input old new (outcome.Explain (Err fault)) status is did done illegal device memory stopped = did.kept (λ f. device (is ∙ ap status_for_show f))
silent_always words input old new (outcome.Timeline (Ok (verdict.Legal n))) status is did done illegal device memory stopped = absurd (done is)
silent_always words input old new (outcome.Timeline (Ok (verdict.Illegal p))) status is did done illegal device memory stopped = absurd (illegal is)
silent_always words input old new (outcome.Timeline (Err fault)) status is did done illegal device memory stopped = did.kept (λ f. device (is ∙ ap status_for_show f))
silent_always words input old new (outcome.Dump (Ok n)) status is did done illegal device memory stopped = absurd (done is)
silent_always words input old new (outcome.Stats (Ok (verdict.Legal n))) status is did done illegal device memory stopped = absurd (done is)
silent_always words input old new (outcome.Stats (Ok (verdict.Illegal p))) status is did done illegal device memory stopped = absurd (illegal is)
silent_always words input old new (outcome.Dump (Err fault)) status is did done illegal device memory stopped = did.kept (λ f. device (is ∙ ap status_for_dump f))
silent_always words input old new (outcome.Stats (Err fault)) status is did done illegal device memory stopped = did.kept (λ f. device (is ∙ ap status_for f))
silent_always words input old new (outcome.Shell (Ok n)) status is did done illegal device memory stopped = absurd (done is)
silent_always words input old new (outcome.Shell (Err tool.NoMemory)) status is did done illegal device memory stopped = absurd (memory is)
silent_always words input old new (outcome.Shell (Err tool.Device)) status is did done illegal device memory stopped = absurd (device is)
silent_always words input old new (outcome.Shell (Err (tool.Trace row))) status is did done illegal device memory stopped = absurd did.faults
silent_always words input old new (outcome.Shell (Err tool.GateShut)) status is did done illegal device memory stopped = absurd did.faults
silent_always words input old new (outcome.Shell (Err tool.TurnLimit)) status is did done illegal device memory stopped = absurd did.faults
silent_always words input old new outcome.HelpShown status is did done illegal device memory stopped = absurd (done is)
silent_always words input old new outcome.HelpFailed status is did done illegal device memory stopped = absurd (device is)
silent_always words input old new outcome.VersionShown status is did done illegal device memory stopped = absurd (done is)
silent_always words input old new outcome.VersionFailed status is did done illegal device memory stopped = absurd (device is)
silent_always words input old new outcome.Misused status is did done illegal device memory stopped = did.1
silent_always words input old new outcome.OutOfMemory status is did done illegal device memory stopped = did
silent_always words input old new outcome.FileFailed status is did done illegal device memory stopped = did
