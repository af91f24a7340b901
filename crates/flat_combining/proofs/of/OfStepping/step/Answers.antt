use Rattle.std.proofs.Common.{rules, ◌≡◌, ◌∙◌, sym, ap}
use Rattle.flat_combining.proofs.Runs.{state-push}
use Rattle.flat_combining.proofs.of.OfStepping.step.Goals as goal

pub returns-clause-behind : goal.returns-clause-behind
returns-clause-behind g c before is =
    let machine = g.M.Machine in
    let was : c.self.inside.machine ≡ c.args.self.now = search rules in
    c.in_ok-reply.ensures.after ∙ (ap (λ state. machine.after state c.args.session c.args.call) (was ∙ is) ∙ sym (state-push machine machine.initial before _))
