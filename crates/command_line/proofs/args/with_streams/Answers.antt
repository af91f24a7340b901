use Rattle.std.proofs.Common.{refl}
use Rattle.command_line.proofs.args.with_streams.Goals as goal

pub returns-clause-app : goal.returns-clause-app
returns-clause-app c =
    let file = c.with_arg-command.ensures.app _ _ c.file_arg.ensures.rule refl in
    let sessions = c.with_arg-command-2.ensures.app _ _ c.sessions_arg.ensures.rule file in
    let output = c.with_arg-command-3.ensures.app _ _ c.output_arg.ensures.rule sessions in
    let comments = c.with_arg-command-4.ensures.app _ _ c.comments_arg.ensures.rule output in
    c.with_arg.ensures.app _ _ c.hints_arg.ensures.rule comments

pub returns-clause-own : goal.returns-clause-own
returns-clause-own c = c.with_arg.ensures.own (c.with_arg-command-4.ensures.own (c.with_arg-command-3.ensures.own (c.with_arg-command-2.ensures.own (c.with_arg-command.ensures.own c.requires.own))))
