-- The outcome of one execution of the program, and its exit status.
use Rattle.std.specs.Prelude.{◌≡◌, ◌≢◌, ℕ, List, Option, Some, Result, Ok, Err, IfOk, IfErr, OnErr, codes}
use Rattle.std.specs.Io.KnownBytes.{Keeps, Appends}
use Rattle.clap.specs.Walk.{Text}
use Rattle.lock_trace.specs.declared.faults.TraceFault.{TraceFault}
use Rattle.command_line.specs.declared.args.Delivery.{Delivery}
use Rattle.command_line.specs.declared.args.Form.{Form}
use Rattle.history_commands.specs.declared.dump_fault.DumpFault.{DumpFault}
use Rattle.history_commands.specs.declared.dump_fault.DumpFault.TheVariants as dump
use Rattle.history_commands.specs.Dumps.{HasDump, HasDumpPart, ShowsDump}
use Rattle.replay_commands.specs.declared.checking.Verdict.{Verdict}
use Rattle.replay_commands.specs.declared.checking.Verdict.TheVariants as verdict
use Rattle.history_commands.specs.declared.show_fault.ShowFault.{ShowFault}
use Rattle.history_commands.specs.declared.show_fault.ShowFault.TheVariants as show
use Rattle.replay_commands.specs.declared.tool_fault.ToolFault.{ToolFault}
use Rattle.replay_commands.specs.declared.tool_fault.ToolFault.TheVariants as tool
use Rattle.glm.specs.declared.outcomes.Outcome.{Outcome}
use Rattle.glm.specs.declared.outcomes.Outcome.TheVariants as outcome
use Rattle.glm.specs.declared.outcomes.TheConstants.{DONE, USAGE, ILLEGAL, NO_MEMORY, DEVICE}
use Rattle.command_line.specs.CommandLine.{AskReplay, AskReplayInPieces, AskRun, AskRunInPieces, AskCheck, AskShow, AskDump, AskExplain, AskTimeline, AskStats, AskShell, AskHelp, AskVersion, AskNothing}
use Rattle.replay_commands.specs.Replays.{HasServed, HasServedFront, HasServedPart, IsFaultOfOneThread, Replays, ReplaysInPieces}
use Rattle.run_commands.specs.Runs.{HasPerformed, HasPerformedPart, HasWrittenFront, HasWrittenPart, Runs, RunsInPieces}
use Rattle.glm.specs.Statuses.{status_for, status_for_dump, status_for_show}
use Rattle.history_commands.specs.Showing.{HasShown, HasShownPart, Shows}
use Rattle.history_commands.specs.Explaining.{HasExplained, HasExplainedPart, Explains}
use Rattle.history_commands.specs.Drawing.{Draws, HasDrawn, HasDrawnPart}
use Rattle.replay_commands.specs.Verdicts.{Checks, IsHistory, text_of_verdict}
use Rattle.replay_commands.specs.Written.{AppendsPart}
use Rattle.lock_shell.specs.Turns.{HasTalked, HasTalkedPart, IsFaultOfShell}
use Rattle.replay_commands.specs.Stats.{Counts, HasCounted, HasCountedPart}

-- the exit status of an outcome
abbrev pub status_of_outcome : Outcome → ℕ
status_of_outcome (outcome.Replay (Ok count)) = DONE
status_of_outcome (outcome.Replay (Err fault)) = status_for fault
status_of_outcome (outcome.ReplayInPieces (Ok count)) = DONE
status_of_outcome (outcome.ReplayInPieces (Err fault)) = status_for fault
status_of_outcome (outcome.Run (Ok count)) = DONE
status_of_outcome (outcome.Run (Err fault)) = status_for fault
status_of_outcome (outcome.RunInPieces (Ok count)) = DONE
status_of_outcome (outcome.RunInPieces (Err fault)) = status_for fault
status_of_outcome (outcome.Check (Ok (verdict.Legal count))) = DONE
status_of_outcome (outcome.Check (Ok (verdict.Illegal place))) = ILLEGAL
status_of_outcome (outcome.Check (Err fault)) = status_for fault
status_of_outcome (outcome.Show (Ok (verdict.Legal count))) = DONE
status_of_outcome (outcome.Show (Ok (verdict.Illegal place))) = ILLEGAL
status_of_outcome (outcome.Show (Err fault)) = status_for_show fault
status_of_outcome (outcome.Dump (Ok done)) = DONE
status_of_outcome (outcome.Dump (Err fault)) = status_for_dump fault
status_of_outcome (outcome.Explain (Ok (verdict.Legal count))) = DONE
status_of_outcome (outcome.Explain (Ok (verdict.Illegal place))) = ILLEGAL
status_of_outcome (outcome.Explain (Err fault)) = status_for_show fault
status_of_outcome (outcome.Timeline (Ok (verdict.Legal count))) = DONE
status_of_outcome (outcome.Timeline (Ok (verdict.Illegal place))) = ILLEGAL
status_of_outcome (outcome.Timeline (Err fault)) = status_for_show fault
status_of_outcome (outcome.Stats (Ok (verdict.Legal count))) = DONE
status_of_outcome (outcome.Stats (Ok (verdict.Illegal place))) = ILLEGAL
status_of_outcome (outcome.Stats (Err fault)) = status_for fault
status_of_outcome (outcome.Shell (Ok count)) = DONE
status_of_outcome (outcome.Shell (Err fault)) = status_for fault
status_of_outcome outcome.HelpShown = DONE
status_of_outcome outcome.HelpFailed = DEVICE
status_of_outcome outcome.VersionShown = DONE
status_of_outcome outcome.VersionFailed = DEVICE
status_of_outcome outcome.Misused = USAGE
status_of_outcome outcome.OutOfMemory = NO_MEMORY
status_of_outcome outcome.FileFailed = DEVICE

-- the words ask for a replay, and `answer` is its result; the output holds `old` before and `new` after
pub record HasAnswered (words : List Text) (input old new : Option (List ℕ)) (answer : Result ℕ ToolFault) : Type 0 where
  pub sessions : ℕ
  pub asked : AskReplay words sessions
  pub kept : IfErr answer (λ fault. fault ≢ tool.Device → Keeps old new)
  pub part : IfErr answer (λ fault. fault ≡ tool.Device → HasServedPart sessions old new)
  pub served : IfOk answer (λ count. HasServed sessions count old new)
  pub faults : IfErr answer (λ fault. IsFaultOfOneThread fault)
  pub replays : (bytes : List ℕ) → input ≡ Some bytes → Replays sessions bytes old new answer

-- the words ask for a replay in pieces, and `answer` is its result; the output holds `old` before and `new` after
pub record HasAnsweredInPieces (words : List Text) (input old new : Option (List ℕ)) (answer : Result ℕ ToolFault) : Type 0 where
  pub sessions : ℕ
  pub asked : AskReplayInPieces words sessions
  pub kept : IfErr answer (λ fault. fault ≢ tool.Device → fault ≢ tool.NoMemory → Keeps old new)
  pub front : IfErr answer (λ fault. fault ≡ tool.NoMemory → HasServedFront sessions old new)
  pub part : IfErr answer (λ fault. fault ≡ tool.Device → HasServedPart sessions old new)
  pub served : IfOk answer (λ count. HasServed sessions count old new)
  pub faults : IfErr answer (λ fault. IsFaultOfOneThread fault)
  pub replays : (bytes : List ℕ) → input ≡ Some bytes → ReplaysInPieces sessions bytes old new answer

-- the words ask for a run on threads, and `answer` is its result; the output holds `old` before and `new` after
pub record HasAnsweredRun (words : List Text) (input old new : Option (List ℕ)) (answer : Result ℕ ToolFault) : Type 0 where
  pub sessions : ℕ
  pub turns : ℕ
  pub asked : AskRun words sessions turns
  pub kept : IfErr answer (λ fault. fault ≢ tool.Device → Keeps old new)
  pub part : IfErr answer (λ fault. fault ≡ tool.Device → HasPerformedPart sessions old new)
  pub performed : IfOk answer (λ count. HasPerformed sessions count old new)
  pub runs : (bytes : List ℕ) → input ≡ Some bytes → Runs sessions bytes old new answer

-- the words ask for a run on threads in pieces, and `answer` is its result; the output holds `old` before and `new` after
pub record HasAnsweredRunInPieces (words : List Text) (input old new : Option (List ℕ)) (answer : Result ℕ ToolFault) : Type 0 where
  pub sessions : ℕ
  pub turns : ℕ
  pub asked : AskRunInPieces words sessions turns
  pub kept : IfErr answer (λ fault. (row : TraceFault) → fault ≡ tool.Trace row → Keeps old new)
  pub front : IfErr answer (λ fault. fault ≢ tool.Device → HasWrittenFront old new)
  pub part : IfErr answer (λ fault. fault ≡ tool.Device → HasWrittenPart old new)
  pub performed : IfOk answer (λ count. HasPerformed sessions count old new)
  pub runs : (bytes : List ℕ) → input ≡ Some bytes → RunsInPieces sessions bytes old new answer

-- the result of a check of these bytes whose verdict is also printed; memory or the writer may fail for the line
abbrev pub PrintsVerdict : ℕ → List ℕ → Result Verdict ToolFault → Type 0
PrintsVerdict n bytes (Ok found) = Checks n bytes (Ok found)
PrintsVerdict n bytes (Err (tool.Trace fault)) = Checks n bytes (Err (tool.Trace fault))
PrintsVerdict n bytes (Err tool.NoMemory) = IsHistory n bytes
PrintsVerdict n bytes (Err tool.Device) = IsHistory n bytes
PrintsVerdict n bytes (Err tool.GateShut) = ⊥
PrintsVerdict n bytes (Err tool.TurnLimit) = ⊥

-- the output grew by the first bytes of the line of a verdict, and by nothing else; if the input's bytes are known, the
-- verdict is right
pub record HasPrintedPart (n : ℕ) (input old new : Option (List ℕ)) : Type 0 where
  pub verdict : Verdict
  pub is_right : (bytes : List ℕ) → input ≡ Some bytes → Checks n bytes (Ok verdict)
  pub written : AppendsPart old new (text_of_verdict verdict)

-- the words ask for a check, in either way, and `answer` is its verdict, which was printed, or its fault
pub record HasAnsweredCheck (words : List Text) (input old new : Option (List ℕ)) (answer : Result Verdict ToolFault) : Type 0 where
  pub sessions : ℕ
  pub delivery : Delivery
  pub asked : AskCheck words sessions delivery
  pub kept : IfErr answer (λ fault. fault ≢ tool.Device → Keeps old new)
  pub part : IfErr answer (λ fault. fault ≡ tool.Device → HasPrintedPart sessions input old new)
  pub written : IfOk answer (λ found. Appends old new (text_of_verdict found))
  pub faults : IfErr answer (λ fault. IsFaultOfOneThread fault)
  pub checks : (bytes : List ℕ) → input ≡ Some bytes → PrintsVerdict sessions bytes answer

-- the words ask to show a state, and `answer` is the verdict on the history, or the fault
pub record HasAnsweredShow (words : List Text) (input old new : Option (List ℕ)) (answer : Result Verdict ShowFault) : Type 0 where
  pub sessions : ℕ
  pub place : Option ℕ
  pub form : Form
  pub asked : AskShow words sessions place form
  pub kept : IfErr answer (λ fault. fault ≢ show.Device → Keeps old new)
  pub part : IfErr answer (λ fault. fault ≡ show.Device → HasShownPart form sessions place old new)
  pub shown : IfOk answer (λ verdict. HasShown form sessions place verdict old new)
  pub shows : (bytes : List ℕ) → input ≡ Some bytes → Shows form sessions place bytes old new answer

-- the words ask to show a dump, and `answer` says that it was shown, or the fault; the output holds `old` before and `new` after
pub record HasAnsweredDump {X : Type 0} (words : List Text) (input old new : Option (List ℕ)) (answer : Result X DumpFault) : Type 0 where
  pub sessions : ℕ
  pub form : Form
  pub asked : AskDump words sessions form
  pub kept : IfErr answer (λ fault. fault ≢ dump.Device → Keeps old new)
  pub part : IfErr answer (λ fault. fault ≡ dump.Device → HasDumpPart form sessions old new)
  pub shown : IfOk answer (λ _. HasDump form sessions old new)
  pub shows : (bytes : List ℕ) → input ≡ Some bytes → ShowsDump form sessions bytes old new answer

-- the words ask to explain calls of a history, and `answer` is the verdict on the history, or the fault
pub record HasAnsweredExplain (words : List Text) (input old new : Option (List ℕ)) (answer : Result Verdict ShowFault) : Type 0 where
  pub sessions : ℕ
  pub place : Option ℕ
  pub form : Form
  pub asked : AskExplain words sessions place form
  pub kept : IfErr answer (λ fault. fault ≢ show.Device → Keeps old new)
  pub part : IfErr answer (λ fault. fault ≡ show.Device → HasExplainedPart form sessions place old new)
  pub explained : IfOk answer (λ verdict. HasExplained form sessions place verdict old new)
  pub explains : (bytes : List ℕ) → input ≡ Some bytes → Explains form sessions place bytes old new answer

-- the words ask to draw a history, and `answer` is the verdict on the history, or the fault
pub record HasAnsweredTimeline (words : List Text) (input old new : Option (List ℕ)) (answer : Result Verdict ShowFault) : Type 0 where
  pub sessions : ℕ
  pub from : Option ℕ
  pub to : Option ℕ
  pub asked : AskTimeline words sessions from to
  pub kept : IfErr answer (λ fault. fault ≢ show.Device → Keeps old new)
  pub part : IfErr answer (λ fault. fault ≡ show.Device → HasDrawnPart sessions from to old new)
  pub drawn : IfOk answer (λ verdict. HasDrawn sessions from to verdict old new)
  pub draws : (bytes : List ℕ) → input ≡ Some bytes → Draws sessions from to bytes old new answer

-- the words ask to count a history, and `answer` is the verdict on the history, or the fault
pub record HasAnsweredStats (words : List Text) (input old new : Option (List ℕ)) (answer : Result Verdict ToolFault) : Type 0 where
  pub sessions : ℕ
  pub form : Form
  pub asked : AskStats words sessions form
  pub kept : IfErr answer (λ fault. fault ≢ tool.Device → Keeps old new)
  pub part : IfErr answer (λ fault. fault ≡ tool.Device → HasCountedPart form sessions old new)
  pub counted : IfOk answer (λ verdict. HasCounted form sessions verdict old new)
  pub faults : IfErr answer (λ fault. IsFaultOfOneThread fault)
  pub counts : (bytes : List ℕ) → input ≡ Some bytes → Counts form sessions bytes old new answer

-- the words ask for the shell, and `answer` is the number of lines that were answered, or the fault
pub record HasAnsweredShell (words : List Text) (old new : Option (List ℕ)) (answer : Result ℕ ToolFault) : Type 0 where
  pub sessions : ℕ
  pub asked : AskShell words sessions
  pub talked : IfOk answer (λ count. HasTalked sessions count old new)
  pub part : OnErr answer (HasTalkedPart sessions old new)
  pub faults : IfErr answer (λ fault. IsFaultOfShell fault)

-- the text of `--version`: the project's version, and the logic of the kit that it was proved with
abbrev pub text_of_version : List ℕ
text_of_version = codes "glm 0.9.0\nproved with the Rattle kit, logic dac8208d650f15bf\n"

-- what an outcome says of the words, the bytes of what was read, and what was written, which holds `old` before and `new` after
abbrev pub HasDone : List Text → Option (List ℕ) → Option (List ℕ) → Option (List ℕ) → Outcome → Type 0
HasDone words input old new (outcome.Replay answer) = HasAnswered words input old new answer
HasDone words input old new (outcome.ReplayInPieces answer) = HasAnsweredInPieces words input old new answer
HasDone words input old new (outcome.Run answer) = HasAnsweredRun words input old new answer
HasDone words input old new (outcome.RunInPieces answer) = HasAnsweredRunInPieces words input old new answer
HasDone words input old new (outcome.Check answer) = HasAnsweredCheck words input old new answer
HasDone words input old new (outcome.Show answer) = HasAnsweredShow words input old new answer
HasDone words input old new (outcome.Dump answer) = HasAnsweredDump words input old new answer
HasDone words input old new (outcome.Explain answer) = HasAnsweredExplain words input old new answer
HasDone words input old new (outcome.Timeline answer) = HasAnsweredTimeline words input old new answer
HasDone words input old new (outcome.Stats answer) = HasAnsweredStats words input old new answer
HasDone words input old new (outcome.Shell answer) = HasAnsweredShell words old new answer
HasDone words input old new outcome.HelpShown = AskHelp words
HasDone words input old new outcome.HelpFailed = AskHelp words
HasDone words input old new outcome.VersionShown = AskVersion words × Appends old new text_of_version
HasDone words input old new outcome.VersionFailed = AskVersion words × AppendsPart old new text_of_version
HasDone words input old new outcome.Misused = AskNothing words × Keeps old new
HasDone words input old new outcome.OutOfMemory = Keeps old new
HasDone words input old new outcome.FileFailed = Keeps old new
