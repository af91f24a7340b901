-- The command line: its grammar for the parser of `clap`, and the request that a list of words makes.
use Rattle.std.specs.Prelude.{◌≡◌, ℕ, ◌<◌, ◌≤◌, List, [], ◌∷◌, Option, Some, None, codes, decimal, pos, true, Bool, ◌&&◌, ◌||◌}
use Rattle.clap.specs.Walk.{Row, Rule, Text, first_of}
use Rattle.clap.specs.Simple.{App, new_app, new_rule, on_top, subcommand_of, with_rule, with_subcommand}
use Rattle.clap.specs.Kinds.{IsAmong, Kinds}
use Rattle.clap.specs.Faults.{fault_of}
use Rattle.clap.specs.declared.builder.action.ArgAction.TheVariants.{SetTrue}
use Rattle.clap.specs.declared.builder.value_parser.ValueParser.{ValueParser}
use Rattle.clap.specs.declared.builder.value_parser.ValueParser.TheVariants as parser
use Rattle.clap.specs.declared.error.kind.ErrorKind.TheVariants.{DisplayHelp, DisplayVersion}
use Rattle.lock_rules.specs.declared.calls.TheConstants.{MAX_SESSIONS}
use Rattle.command_line.specs.declared.args.TheConstants.{MAX_PLACE, MAX_TURNS}
use Rattle.command_line.specs.declared.args.TheConstants.{MAX_STREAMED_SESSIONS}
use Rattle.command_line.specs.declared.args.Delivery.{Delivery}
use Rattle.command_line.specs.declared.args.Delivery.TheVariants as delivery
use Rattle.command_line.specs.declared.args.Form.{Form}
use Rattle.command_line.specs.declared.args.Form.TheVariants as form
use Rattle.command_line.specs.declared.args.CommandRequest.{CommandRequest}
use Rattle.command_line.specs.declared.args.CommandRequest.TheVariants as request

-- an option with this name, whose value the parser checks, with no default
abbrev pub valued_option : Text → ValueParser → Rule
valued_option name checked = record (new_rule name) {
  long = Some name;
  value_names = 1;
  parser = Some checked;
}

-- the option `--sessions N`: 1 to MAX_SESSIONS, by default 256
abbrev pub sessions_option : Rule
sessions_option = record (valued_option (codes "sessions") (parser.Signed (pos 1) (pos MAX_SESSIONS))) { defaults = codes "256" ∷ [] }

-- the option `--turns T`: 1 to MAX_TURNS, 1000000000 by default
abbrev pub turns_option : Rule
turns_option = record (valued_option (codes "turns") (parser.Signed (pos 1) (pos MAX_TURNS))) { defaults = codes "1000000000" ∷ [] }

-- the option `--name P`: a place, with no default
abbrev pub place_option : Text → Rule
place_option name = valued_option name (parser.Signed (pos 0) (pos MAX_PLACE))

-- a flag with this name
abbrev pub flag_named : Text → Rule
flag_named name = record (new_rule name) {
  long = Some name;
  action = Some SetTrue;
}

-- the flag `--stream`
abbrev pub stream_flag : Rule
stream_flag = flag_named (codes "stream")

-- the argument `[FILE]`, with no default
abbrev pub file_argument : Rule
file_argument = record (new_rule (codes "file")) { value_names = 1 }

-- the option `-o FILE` or `--output FILE`, with no default; 111 is the letter o
abbrev pub output_option : Rule
output_option = record (new_rule (codes "output")) {
  long = Some (codes "output");
  short = Some 111;
  value_names = 1;
}

-- the flag `--comments`
abbrev pub comments_flag : Rule
comments_flag = flag_named (codes "comments")

-- the flag `--hints`
abbrev pub hints_flag : Rule
hints_flag = flag_named (codes "hints")

-- a command with the flags `[--comments] [--hints]` added
abbrev pub with_flags : App → App
with_flags command = with_rule (with_rule command comments_flag) hints_flag

-- a command with the argument and the options `[FILE] [--sessions N] [-o FILE] [--comments] [--hints]` added
abbrev pub with_streams : App → App
with_streams command = with_flags (with_rule (with_rule (with_rule command file_argument) sessions_option) output_option)

-- the command `name [FILE] [--sessions N] [-o FILE] [--comments] [--hints]`
abbrev pub command_for_sessions : Text → App
command_for_sessions name = with_streams (new_app name)

-- a command with the options `[--at P] [--csv] [--dot]` added
abbrev pub with_forms : App → App
with_forms command = with_rule (with_rule (with_rule command (place_option (codes "at"))) (flag_named (codes "csv"))) (flag_named (codes "dot"))

-- the command `name [FILE] [--sessions N] [-o FILE] [--comments] [--hints] [--at P] [--csv] [--dot]`
abbrev pub app_with_forms : Text → App
app_with_forms name = with_forms (command_for_sessions name)

-- the command `show [FILE] [--sessions N] [-o FILE] [--comments] [--hints] [--at P] [--csv] [--dot] [--waits] [--state]`
abbrev pub show_app : App
show_app = with_rule (with_rule (app_with_forms (codes "show")) (flag_named (codes "waits"))) (flag_named (codes "state"))

-- the command `timeline [FILE] [--sessions N] [-o FILE] [--comments] [--hints] [--from P] [--to Q]`
abbrev pub timeline_app : App
timeline_app = with_rule (with_rule (command_for_sessions (codes "timeline")) (place_option (codes "from"))) (place_option (codes "to"))

-- the command `stats [FILE] [--sessions N] [-o FILE] [--comments] [--hints] [--csv]`
abbrev pub stats_app : App
stats_app = with_rule (command_for_sessions (codes "stats")) (flag_named (codes "csv"))

-- the command `shell [--sessions N]`
abbrev pub shell_app : App
shell_app = with_rule (new_app (codes "shell")) sessions_option

-- the program `glm`, which has a version and requires one of the commands `replay [--stream]`, `run [--turns T] [--stream]`,
-- `check [--stream]`, `show [--at P] [--csv] [--dot] [--waits] [--state]`, `explain [--at P] [--csv] [--dot]`, `timeline [--from P]
-- [--to Q]` and `stats [--csv]`, each with `[FILE] [--sessions N] [-o FILE] [--comments] [--hints]`, or of the command
-- `shell [--sessions N]`
abbrev pub glm_command : App
glm_command =
    with_subcommand
    (with_subcommand
    (with_subcommand
    (with_subcommand
    (with_subcommand
    (with_subcommand
    (with_subcommand
    (with_subcommand
    (on_top (λ s. record s { subcommand_required = true; has_version = true }) (new_app (codes "glm")))
    (with_rule (command_for_sessions (codes "replay")) stream_flag).top)
    (with_rule (with_rule (command_for_sessions (codes "run")) turns_option) stream_flag).top)
    (with_rule (command_for_sessions (codes "check")) stream_flag).top)
    show_app.top)
    (app_with_forms (codes "explain")).top)
    timeline_app.top)
    stats_app.top)
    shell_app.top

-- the parser's errors for the words; help and the version count as errors; empty if the words are a valid command
abbrev pub faults_of : List Text → Kinds
faults_of words = fault_of glm_command words

-- the parsed options give `option` this number, 1 to `greatest`, in decimal without a sign or a leading zero
pub record Gives (option : Text) (greatest : ℕ) (rows : List Row) (number : ℕ) : Type 0 where
  pub given : first_of option rows ≡ Some (decimal number)
  pub some : 0 < number
  pub few : number ≤ greatest

-- the parsed options have this flag
abbrev pub HasFlag : Text → List Row → Type 0
HasFlag flag rows = first_of flag rows ≡ Some (codes "true")

-- the parsed options want so much of the history kept in memory: a piece exactly if they have the flag `--stream`
abbrev pub Wants : List Row → Delivery → Type 0
Wants rows delivery.Whole = ¬ HasFlag (codes "stream") rows
Wants rows delivery.InPieces = HasFlag (codes "stream") rows

-- the greatest number of sessions of a run: one more session takes the history if it is written in pieces
abbrev pub most_sessions : Delivery → ℕ
most_sessions delivery.Whole = MAX_SESSIONS
most_sessions delivery.InPieces = MAX_STREAMED_SESSIONS

-- the parsed options give this number for `option`, in decimal without a sign or a leading zero
pub record GivesNumberedPlace (option : Text) (rows : List Row) (place : ℕ) : Type 0 where
  pub given : first_of option rows ≡ Some (decimal place)
  pub few : place ≤ MAX_PLACE

-- the parsed options give `option` this place: none, or a number
abbrev pub GivesPlace : Text → List Row → Option ℕ → Type 0
GivesPlace option rows None = first_of option rows ≡ None
GivesPlace option rows (Some place) = GivesNumberedPlace option rows place

-- more than one of the flags for a form is given
abbrev pub wants_two_forms : Bool → Bool → Bool → Bool
wants_two_forms csv dot waits = (csv && dot) || ((csv || dot) && waits)

-- the parsed options want this form: lines unless they have one of the flags `--csv`, `--dot` and `--waits`
abbrev pub WantsForm : List Row → Form → Type 0
WantsForm rows form.Lines = (¬ HasFlag (codes "csv") rows) × (¬ HasFlag (codes "dot") rows) × (¬ HasFlag (codes "waits") rows)
WantsForm rows form.Rows = HasFlag (codes "csv") rows × (¬ HasFlag (codes "dot") rows) × (¬ HasFlag (codes "waits") rows)
WantsForm rows form.Graph = (¬ HasFlag (codes "csv") rows) × HasFlag (codes "dot") rows × (¬ HasFlag (codes "waits") rows)
WantsForm rows form.Waits = (¬ HasFlag (codes "csv") rows) × (¬ HasFlag (codes "dot") rows) × HasFlag (codes "waits") rows

-- the parsed command, by its name and its options, is this request
abbrev pub IsRequestIn : Text → List Row → CommandRequest → Type 0
IsRequestIn name rows (request.Replay sessions asked) =
    (name ≡ codes "replay") × Gives (codes "sessions") MAX_SESSIONS rows sessions × Wants rows asked
IsRequestIn name rows (request.Run sessions turns asked) =
    (name ≡ codes "run") × Gives (codes "sessions") (most_sessions asked) rows sessions × Gives (codes "turns") MAX_TURNS rows turns × Wants rows asked
IsRequestIn name rows (request.Check sessions asked) =
    (name ≡ codes "check") × Gives (codes "sessions") MAX_SESSIONS rows sessions × Wants rows asked
IsRequestIn name rows (request.Show sessions place asked) =
    (name ≡ codes "show") × Gives (codes "sessions") MAX_SESSIONS rows sessions × GivesPlace (codes "at") rows place × WantsForm rows asked × (¬ HasFlag (codes "state") rows)
IsRequestIn name rows (request.Dump sessions asked) =
    (name ≡ codes "show") × Gives (codes "sessions") MAX_SESSIONS rows sessions × GivesPlace (codes "at") rows None × WantsForm rows asked × HasFlag (codes "state") rows
IsRequestIn name rows (request.Explain sessions place asked) =
    (name ≡ codes "explain") × Gives (codes "sessions") MAX_SESSIONS rows sessions × GivesPlace (codes "at") rows place × WantsForm rows asked
IsRequestIn name rows (request.Timeline sessions from to) =
    (name ≡ codes "timeline") × Gives (codes "sessions") MAX_SESSIONS rows sessions × GivesPlace (codes "from") rows from × GivesPlace (codes "to") rows to
IsRequestIn name rows (request.Stats sessions asked) = (name ≡ codes "stats") × Gives (codes "sessions") MAX_SESSIONS rows sessions × WantsForm rows asked
IsRequestIn name rows (request.Shell sessions) = (name ≡ codes "shell") × Gives (codes "sessions") MAX_SESSIONS rows sessions

-- the numbers of a request are within their bounds
abbrev pub HasNumbers : CommandRequest → Type 0
HasNumbers (request.Replay sessions asked) = (0 < sessions) × (sessions ≤ MAX_SESSIONS)
HasNumbers (request.Run sessions turns asked) = (0 < sessions) × (sessions ≤ most_sessions asked) × (0 < turns) × (turns ≤ MAX_TURNS)
HasNumbers (request.Check sessions asked) = (0 < sessions) × (sessions ≤ MAX_SESSIONS)
HasNumbers (request.Show sessions place asked) = (0 < sessions) × (sessions ≤ MAX_SESSIONS)
HasNumbers (request.Dump sessions asked) = (0 < sessions) × (sessions ≤ MAX_SESSIONS)
HasNumbers (request.Explain sessions place asked) = (0 < sessions) × (sessions ≤ MAX_SESSIONS)
HasNumbers (request.Timeline sessions from to) = (0 < sessions) × (sessions ≤ MAX_SESSIONS)
HasNumbers (request.Stats sessions asked) = (0 < sessions) × (sessions ≤ MAX_SESSIONS)
HasNumbers (request.Shell sessions) = (0 < sessions) × (sessions ≤ MAX_SESSIONS)

-- the parser found a command, and the command is this request
abbrev pub IsRequest : Option (Text × List Row) → CommandRequest → Type 0
IsRequest None asked = ⊥
IsRequest (Some found) asked = IsRequestIn found.0 found.1 asked

-- the words have no error and make this request
pub record Ask (words : List Text) (request : CommandRequest) : Type 0 where
  pub whole : faults_of words ≡ []
  pub request_is : IsRequest (subcommand_of glm_command words) request

-- the words ask to replay a trace with this number of sessions, and to write the history whole
abbrev pub AskReplay : List Text → ℕ → Type 0
AskReplay words sessions = Ask words (request.Replay sessions delivery.Whole)

-- the words ask to replay a trace with this number of sessions, and to write the history in pieces
abbrev pub AskReplayInPieces : List Text → ℕ → Type 0
AskReplayInPieces words sessions = Ask words (request.Replay sessions delivery.InPieces)

-- the words ask to run a trace on threads, with this number of sessions and at most `turns` tries for each answer, and to write
-- the history whole
abbrev pub AskRun : List Text → ℕ → ℕ → Type 0
AskRun words sessions turns = Ask words (request.Run sessions turns delivery.Whole)

-- the words ask to run a trace on threads, with this number of sessions and at most `turns` tries for each answer, and to write
-- the history in pieces
abbrev pub AskRunInPieces : List Text → ℕ → ℕ → Type 0
AskRunInPieces words sessions turns = Ask words (request.Run sessions turns delivery.InPieces)

-- the words ask to check a history with this number of sessions, in either way
abbrev pub AskCheck : List Text → ℕ → Delivery → Type 0
AskCheck words sessions asked = Ask words (request.Check sessions asked)

-- the words ask to show the state at this place of a history, at its end if it is None, with this number of sessions, in this form
abbrev pub AskShow : List Text → ℕ → Option ℕ → Form → Type 0
AskShow words sessions place form = Ask words (request.Show sessions place form)

-- the words ask to show the state that a dump is, with this number of sessions, in this form
abbrev pub AskDump : List Text → ℕ → Form → Type 0
AskDump words sessions form = Ask words (request.Dump sessions form)

-- the words ask to explain the call at this place of a history, every eventful call if it is None, with this number of
-- sessions, in this form
abbrev pub AskExplain : List Text → ℕ → Option ℕ → Form → Type 0
AskExplain words sessions place form = Ask words (request.Explain sessions place form)

-- the words ask to draw a history from one place, its beginning if it is None, up to another, its end if it is None, with this
-- number of sessions
abbrev pub AskTimeline : List Text → ℕ → Option ℕ → Option ℕ → Type 0
AskTimeline words sessions from to = Ask words (request.Timeline sessions from to)

-- the words ask to count a history with this number of sessions, in this form
abbrev pub AskStats : List Text → ℕ → Form → Type 0
AskStats words sessions form = Ask words (request.Stats sessions form)

-- the words ask for the shell, with this number of sessions
abbrev pub AskShell : List Text → ℕ → Type 0
AskShell words sessions = Ask words (request.Shell sessions)

-- the words ask for help, perhaps beside another error
abbrev pub AskHelp : List Text → Type 0
AskHelp words = IsAmong DisplayHelp (faults_of words)

-- the words ask for the version, perhaps beside another error
abbrev pub AskVersion : List Text → Type 0
AskVersion words = IsAmong DisplayVersion (faults_of words)

-- the words make no request, and ask neither for help alone nor for the version alone
pub record AskNothing (words : List Text) : Type 0 where
  pub no_request : (asked : CommandRequest) → ¬ Ask words asked
  pub no_help : ¬ (faults_of words ≡ DisplayHelp ∷ [])
  pub no_version : ¬ (faults_of words ≡ DisplayVersion ∷ [])
