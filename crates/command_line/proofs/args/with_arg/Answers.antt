use Rattle.std.proofs.Common.{◌≡◌, ap₂, ◌∙◌, Bool, ◌||◌, false}
use Rattle.std.proofs.lemmas.Result.{IfOk-weaker, IfOk-at_ok}
use Rattle.clap.specs.declared.builder.command.Command.{Command}
use Rattle.clap.specs.declared.builder.command.Command.TheViews.{out-Command as fields_of}
use Rattle.clap.specs.Simple.{app_of, with_rule}
use Rattle.command_line.proofs.args.with_arg.Goals as goal

pub returns-clause-app : goal.returns-clause-app
returns-clause-app c = λ before rule is old. IfOk-weaker c.arg.result _ _
    (λ made h. h.shape c.requires.own ∙ ap₂ with_rule (IfOk-at_ok (λ (it : Command). app_of it ≡ before) c.in_ok-command.was old) is) c.arg.ensures

pub returns-clause-own : goal.returns-clause-own
returns-clause-own c = λ old. IfOk-weaker c.arg.result _ _
    (λ made h. h.globals ∙ ap₂ (λ (p q : Bool). p || q) (IfOk-at_ok (λ (it : Command). (fields_of it).has_globals ≡ false) c.in_ok-command.was old) c.requires.own) c.arg.ensures
