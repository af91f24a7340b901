use Rattle.std.proofs.Common.{ap, ◌∙◌}
use Rattle.std.proofs.lemmas.Result.{IfOk-weaker}
use Rattle.command_line.specs.CommandLine.{with_forms}
use Rattle.command_line.proofs.args.show_command.Goals as goal

pub returns-clause-app : goal.returns-clause-app
returns-clause-app c =
    let forms = IfOk-weaker c.with_forms-made.result _ _ (λ command h. h ∙ ap with_forms c.in_ok-show.ensures.app) c.with_forms-made.ensures.app in
    let waits = c.with_arg-made.ensures.app _ _ c.flag_arg-waits.ensures.rule forms in
    c.with_arg.ensures.app _ _ c.flag_arg-state.ensures.rule waits

pub returns-clause-own : goal.returns-clause-own
returns-clause-own c = c.with_arg.ensures.own (c.with_arg-made.ensures.own c.with_forms-made.ensures.own)
