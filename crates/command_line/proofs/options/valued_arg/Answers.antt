use Rattle.std.proofs.Common.{rules, ap, Some, ◌≡◌, ◌∙◌}
use Rattle.command_line.proofs.options.valued_arg.Goals as goal

pub returns-clause-rule : goal.returns-clause-rule
returns-clause-rule c =
    let given = c.value_parser.ensures.given in
    let read : c.value_parser.result.value_parser ≡ Some c.args.parser = given.1 ∙ ap Some given.2 in
    search rules
