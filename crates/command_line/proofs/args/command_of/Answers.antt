use Rattle.std.proofs.Common.{ap, ◌∙◌}
use Rattle.std.proofs.lemmas.Result.{IfOk-weaker}
use Rattle.clap.specs.Simple.{app_of_fields}
use Rattle.command_line.specs.CommandLine.{with_streams}
use Rattle.command_line.proofs.args.command_of.Goals as goal

pub returns-clause-app : goal.returns-clause-app
returns-clause-app c =
    let made = ap app_of_fields c.after_help-command.ensures ∙ ap app_of_fields c.long_about.ensures ∙ ap app_of_fields c.about.ensures ∙ c.new.ensures.app in
    IfOk-weaker c.with_streams.result _ _ (λ command h. h ∙ ap with_streams made) c.with_streams.ensures.app
