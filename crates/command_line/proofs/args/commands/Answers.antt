use Rattle.std.proofs.Common.{ap, ◌≡◌, ◌∙◌, codes, true}
use Rattle.clap.specs.Simple.{App, app_of, app_of_fields, new_app, on_top}
use Rattle.command_line.proofs.args.commands.Goals as goal

-- sets that a command is required and that there is a version
abbrev wants_command : App → App
wants_command = on_top (λ s. record s { subcommand_required = true; has_version = true })

pub returns : goal.returns
returns c =
    let top : app_of c.subcommand_required-glm.result ≡ wants_command (new_app (codes "glm")) =
    ap app_of_fields c.subcommand_required-glm.ensures ∙ ap (on_top (λ s. record s { subcommand_required = true })) (ap app_of_fields c.after_help.ensures
    ∙ ap app_of_fields c.version.ensures ∙ ap (on_top (λ s. record s { has_version = true })) (ap app_of_fields c.about.ensures ∙ c.new.ensures.app)) in
    let replay = c.with_command-glm.ensures _ _ top c.replay_command.ensures.app c.replay_command.ensures.own in
    let run = c.with_command-glm-2.ensures _ _ replay c.run_command.ensures.app c.run_command.ensures.own in
    let check = c.with_command-glm-3.ensures _ _ run c.check_command.ensures.app c.check_command.ensures.own in
    let show = c.with_command-glm-4.ensures _ _ check c.show_command.ensures.app c.show_command.ensures.own in
    let explain = c.with_command-glm-5.ensures _ _ show c.explain_command.ensures.app c.explain_command.ensures.own in
    let timeline = c.with_command-glm-6.ensures _ _ explain c.timeline_command.ensures.app c.timeline_command.ensures.own in
    let stats = c.with_command-glm-7.ensures _ _ timeline c.stats_command.ensures.app c.stats_command.ensures.own in
    c.with_command.ensures _ _ stats c.shell_command.ensures.app c.shell_command.ensures.own
