use Rattle.command_line.proofs.args.check_command.Goals as goal

pub returns-clause-app : goal.returns-clause-app
returns-clause-app c = c.with_arg.ensures.app _ _ c.flag_arg-stream.ensures.rule c.command_of-check.ensures.app

pub returns-clause-own : goal.returns-clause-own
returns-clause-own c = c.with_arg.ensures.own c.command_of-check.ensures.own
