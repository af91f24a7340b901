-- The files that a command line names in place of the standard streams, and whether comments are skipped and hints asked for.
use Rattle.std.specs.Prelude.{◌≡◌, ◌↔◌, List, Option, Some, None, codes, option_map, bytes_eq, if◌then◌else◌, true}
use Rattle.clap.specs.Walk.{Row, Text, first_of}
use Rattle.clap.specs.Simple.{subcommand_of}
use Rattle.command_line.specs.CommandLine.{HasFlag, glm_command}
use Rattle.command_line.specs.declared.args.Request.{Request}

-- the file of an option with this text: none without a text, and for `-`, the standard stream
abbrev pub file_named : Option Text → Option Text
file_named None = None
file_named (Some text) = if bytes_eq text (codes "-") then None else Some text

-- the file of an option of the command that the parser found
abbrev pub file_of : Text → Option (Text × List Row) → Option Text
file_of option None = None
file_of option (Some found) = file_named (first_of option found.1)

-- the command that the parser found has the flag `--comments`
abbrev pub HasComments : Option (Text × List Row) → Type 0
HasComments None = ⊥
HasComments (Some found) = HasFlag (codes "comments") found.1

-- the command that the parser found has the flag `--hints`
abbrev pub HasHints : Option (Text × List Row) → Type 0
HasHints None = ⊥
HasHints (Some found) = HasFlag (codes "hints") found.1

-- the file that the words name to read, none for standard input
abbrev pub input_file : List Text → Option Text
input_file words = file_of (codes "file") (subcommand_of glm_command words)

-- the file that the words name to write, none for standard output
abbrev pub output_file : List Text → Option Text
output_file words = file_of (codes "output") (subcommand_of glm_command words)

-- the words want comments in the input skipped
abbrev pub SkipComments : List Text → Type 0
SkipComments words = HasComments (subcommand_of glm_command words)

-- the words ask for hints
abbrev pub WantHints : List Text → Type 0
WantHints words = HasHints (subcommand_of glm_command words)

-- the request names the files that the options give, and skips comments and wants hints exactly if they have the flags
pub record HasStreams (rows : List Row) (request : Request) : Type 0 where
  pub input : option_map (λ text. text.now) request.input ≡ file_named (first_of (codes "file") rows)
  pub output : option_map (λ text. text.now) request.output ≡ file_named (first_of (codes "output") rows)
  pub comments : (request.skips_comments ≡ true) ↔ HasFlag (codes "comments") rows
  pub hints : (request.wants_hints ≡ true) ↔ HasFlag (codes "hints") rows

-- the same of the command that the parser found
pub record HasStreamsOf (found : Option (Text × List Row)) (request : Request) : Type 0 where
  pub input : option_map (λ text. text.now) request.input ≡ file_of (codes "file") found
  pub output : option_map (λ text. text.now) request.output ≡ file_of (codes "output") found
  pub comments : (request.skips_comments ≡ true) ↔ HasComments found
  pub hints : (request.wants_hints ≡ true) ↔ HasHints found
