use Rattle.std.proofs.Common.{rules}
use Rattle.programs.proofs.Pushes.{flat-run, legal-run, within-push}
use Rattle.programs.proofs.programs.ProgramsServing.serve.Goals as goal

pub invariant_of-self-2 : goal.invariant_of-self-2
invariant_of-self-2 g c =
    let e = c.in_ok-answer.ensures in record {
      flat = flat-run g.O.Programmed.form _ _ _ _ _ _ _ e.done c.self.invariant.flat c.push.ensures;
      legal = legal-run g.O.Programmed.form g.O.Sequential.is_legal _ _ _ _ _ _ _ e.done c.self.invariant.flat c.push.ensures c.self.invariant.legal e.legal;
      within = within-push _ _ _ _ _ _ _ e.sessions c.push.ensures c.requires.some (search rules) c.self.invariant.within;
    }
