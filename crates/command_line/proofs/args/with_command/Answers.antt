use Rattle.std.proofs.Common.{◌≡◌, ap, ap₂, ◌∙◌, false}
use Rattle.std.proofs.lemmas.Result.{IfOk-weaker, IfOk-at_ok}
use Rattle.clap.specs.declared.builder.command.Command.{Command}
use Rattle.clap.specs.declared.builder.command.Command.TheViews.{out-Command as fields_of}
use Rattle.clap.specs.Simple.{App, app_of, with_subcommand}
use Rattle.command_line.proofs.args.with_command.Goals as goal

pub returns : goal.returns
returns c = λ before sub old own alone.
    let is_own = IfOk-at_ok (λ (it : Command). app_of it ≡ sub) c.in_ok-subcommand.was own in
    let is_alone = IfOk-at_ok (λ (it : Command). (fields_of it).has_globals ≡ false) c.in_ok-subcommand.was alone in
    let is_old = IfOk-at_ok (λ (it : Command). app_of it ≡ before) c.in_ok-command.was old in
    IfOk-weaker c.subcommand.result _ _ (λ made h. h.shape is_alone ∙ ap₂ with_subcommand is_old (ap (λ (a : App). a.top) is_own)) c.subcommand.ensures
