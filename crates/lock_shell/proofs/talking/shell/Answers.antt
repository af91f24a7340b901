use Rattle.std.proofs.Common.{ℕ, subst}
use Rattle.std.proofs.lemmas.Result.{IfOk-weaker}
use Rattle.lock_shell.specs.Turns.{HasTalked}
use Rattle.lock_shell.proofs.talking.shell.Goals as goal

pub returns-clause-talked : goal.returns-clause-talked
returns-clause-talked g c =
    IfOk-weaker c.converse.result _ _
    (λ count told. subst (λ (n : ℕ). HasTalked n count (g.W.Write.contents c.args.output.now) (g.W.Write.contents c.converse.new.output)) c.in-Ok.ensures.alike.others told)
    c.converse.ensures.talked
