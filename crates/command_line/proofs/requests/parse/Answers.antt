use Rattle.std.proofs.Common.{ap, refl, subst, true, ◌≡◌, ◌∙◌}
use Rattle.std.proofs.lemmas.Result.{IfOk-weaker}
use Rattle.clap.specs.Walk.{texts}
use Rattle.clap.specs.Simple.{App, app_of, is_simple, subcommand_of}
use Rattle.clap.specs.Faults.{fault_of, is_simple_and_free}
use Rattle.clap.specs.Kinds.{FailsBy}
use Rattle.clap.proofs.OnLiterals.{clap_on_literals}
use Rattle.command_line.specs.CommandLine.{glm_command}
use Rattle.command_line.proofs.requests.parse.Goals as goal

-- the program's command is simple enough for the parser's contract
is_simple_command : is_simple glm_command ≡ true
unfolding clap_on_literals
is_simple_command = refl

-- the program's command meets the condition of the parser's contract of errors
is_free_command : is_simple_and_free glm_command ≡ true
unfolding clap_on_literals
is_free_command = refl

pub returns : goal.returns
returns c =
    let is : app_of c.in_ok-commands.field-0 ≡ glm_command = c.in_ok-commands.ensures in
    let words = texts c.args.words.now in
    record {
      fails = subst (λ (a : App). FailsBy (fault_of a words) c.try_get_matches_from.result) is
          (c.try_get_matches_from.ensures.kinds (ap is_simple_and_free is ∙ is_free_command));
      rows = IfOk-weaker c.try_get_matches_from.result _ _ (λ m h. (h (ap is_simple is ∙ is_simple_command)).1 ∙ ap (λ (a : App). subcommand_of a words) is) c.try_get_matches_from.ensures.matches;
    }
