use Rattle.command_line.proofs.Gives.{command-found}
use Rattle.command_line.proofs.requests.found_command.Goals as goal

pub returns-clause-some : goal.returns-clause-some
returns-clause-some c = command-found _ _ _ _ c.subcommand.result _ c.subcommand.ensures.name c.subcommand.ensures.rows
