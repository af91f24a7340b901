use Rattle.std.proofs.Common.{Ok, sym, subst}
use Rattle.replay_commands.specs.declared.checking.Verdict.{Verdict}
use Rattle.history_commands.specs.Explaining.{Explains}
use Rattle.glm.proofs.wrong_replies.explained.Goals as goal

pub returns-clause-explains : goal.returns-clause-explains
returns-clause-explains g c = λ bytes is.
    subst (λ (v : Verdict). Explains c.args.asked.form c.args.sessions c.args.asked.place bytes (g.W.Write.contents c.args.output.now) (g.W.Write.contents c.explain_found.new.output) (Ok v)) (sym c.verdict.ensures)
    (c.in_ok-finding.ensures.explains bytes is)
