use Rattle.std.proofs.Common.{◌∙◌, sym, subst}
use Rattle.std.proofs.lemmas.Result.{IfOk-weaker}
use Rattle.replay_commands.specs.Verdicts.{IsVerdict}
use Rattle.replay_commands.proofs.FindingBehind.{wrong_found}
use Rattle.replay_commands.proofs.checking.finding_behind.Goals as goal

pub returns-in-Illegal : goal.returns-in-Illegal
returns-in-Illegal c =
    let es = c.args.entries.now in
    let wrong = subst (IsVerdict es) c.in-Illegal.is c.requires.verdict in
    record { finding = c.finding_on.ensures; verdict = IfOk-weaker c.finding_on.result _ _ (λ found is. wrong_found es c.in-Illegal.field-0 found wrong is ∙ sym c.in-Illegal.is) c.finding_on.ensures }
