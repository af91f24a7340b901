use Rattle.std.proofs.Common.{ap, ap₂, ◌∙◌}
use Rattle.std.proofs.lemmas.Result.{IfOk-weaker}
use Rattle.clap.specs.Simple.{app_of_fields, with_rule}
use Rattle.command_line.proofs.args.shell_command.Goals as goal

pub returns-clause-app : goal.returns-clause-app
returns-clause-app c =
    let made = ap app_of_fields c.after_help.ensures ∙ ap app_of_fields c.long_about.ensures ∙ ap app_of_fields c.about.ensures ∙ c.new.ensures.app in
    IfOk-weaker c.arg.result _ _ (λ command h. h.shape c.sessions_arg.ensures.own ∙ ap₂ with_rule made c.sessions_arg.ensures.rule) c.arg.ensures
