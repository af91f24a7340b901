use Rattle.std.proofs.Common.{refl}
use Rattle.command_line.proofs.args.with_forms.Goals as goal

pub returns-clause-app : goal.returns-clause-app
returns-clause-app c =
    let place = c.with_arg-command.ensures.app _ _ c.place_arg.ensures.rule refl in
    let rows = c.with_arg-command-2.ensures.app _ _ c.flag_arg.ensures.rule place in
    c.with_arg.ensures.app _ _ c.flag_arg-2.ensures.rule rows

pub returns-clause-own : goal.returns-clause-own
returns-clause-own c = c.with_arg.ensures.own (c.with_arg-command-2.ensures.own (c.with_arg-command.ensures.own c.requires.own))
