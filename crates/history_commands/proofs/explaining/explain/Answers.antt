use Rattle.std.proofs.Common.{Ok, sym, subst}
use Rattle.replay_commands.specs.declared.checking.Verdict.{Verdict}
use Rattle.history_commands.specs.Explaining.{Explains}
use Rattle.history_commands.proofs.explaining.explain.Goals as goal

pub returns-clause-explains : goal.returns-clause-explains
returns-clause-explains g c = λ bytes known.
    subst (λ (v : Verdict). Explains c.args.form c.args.sessions c.args.place bytes (g.W.Write.contents c.args.output.now) (g.W.Write.contents c.explain_found.new.output) (Ok v))
    (sym c.verdict.ensures) (c.in_ok-finding.ensures.explains bytes known)
