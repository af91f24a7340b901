use Rattle.std.proofs.Common.{rules}
use Rattle.programs.proofs.Pushes.{flat-run, legal-run, within-push, tells-on}
use Rattle.programs.proofs.programs.ProgramsContinuing.serve_on.Goals as goal

pub invariant_of-self-2 : goal.invariant_of-self-2
invariant_of-self-2 g c =
    let e = c.in_ok-answer.ensures in record {
      flat = flat-run g.O.Programmed.form _ _ _ _ _ _ _ e.done c.self.invariant.flat c.push.ensures;
      legal = legal-run g.O.Programmed.form g.O.Sequential.is_legal _ _ _ _ _ _ _ e.done c.self.invariant.flat c.push.ensures c.self.invariant.legal e.legal;
      within = within-push _ _ _ _ _ _ _ e.sessions c.push.ensures c.requires.some (search rules) c.self.invariant.within;
    }

pub returns-clause-tells : goal.returns-clause-tells
returns-clause-tells g c =
    tells-on g.O.Programmed.form g.O.Serving.tells_from _ c.self.inside.object c.run_on.new.object c.args.self.now c.self.inside.history _ _ c.self.view_is c.self.invariant.flat c.push.ensures c.in_ok-answer.ensures.tells
