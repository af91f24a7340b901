use Rattle.command_line.proofs.args.run_command.Goals as goal

pub returns-clause-app : goal.returns-clause-app
returns-clause-app c =
    let tries = c.with_arg-run.ensures.app _ _ c.turns_arg.ensures.rule c.command_of-run.ensures.app in
    c.with_arg.ensures.app _ _ c.stream_arg.ensures.rule tries

pub returns-clause-own : goal.returns-clause-own
returns-clause-own c = c.with_arg.ensures.own (c.with_arg-run.ensures.own c.command_of-run.ensures.own)
