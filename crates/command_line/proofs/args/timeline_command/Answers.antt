use Rattle.command_line.proofs.args.timeline_command.Goals as goal

pub returns-clause-app : goal.returns-clause-app
returns-clause-app c =
    let first = c.with_arg-timeline.ensures.app _ _ c.place_arg-from.ensures.rule c.command_of-timeline.ensures.app in
    c.with_arg.ensures.app _ _ c.place_arg-to.ensures.rule first

pub returns-clause-own : goal.returns-clause-own
returns-clause-own c = c.with_arg.ensures.own (c.with_arg-timeline.ensures.own c.command_of-timeline.ensures.own)
