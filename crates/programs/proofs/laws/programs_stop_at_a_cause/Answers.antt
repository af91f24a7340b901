use Rattle.programs.proofs.Placed.{at-place, run-few}
use Rattle.programs.proofs.Causes.{goes-on, cause, cut, cut-goes-on}
use Rattle.programs.proofs.laws.programs_stop_at_a_cause.Goals as goal

pub returns-clause-goes_on : goal.returns-clause-goes_on
returns-clause-goes_on g c = λ h i e l q.
    let r = (at-place g.O.Programmed.form 0 h i e l.1 q).run.0 in
    (run-few g.O.Programmed.form _ _ _ r, goes-on g.O.Programmed.form _ _ _ r)

pub returns-clause-stops : goal.returns-clause-stops
returns-clause-stops g c = λ h i e l q. cause g.O.Programmed.form _ _ _ (at-place g.O.Programmed.form 0 h i e l.1 q).run.0

pub returns-clause-cut : goal.returns-clause-cut
returns-clause-cut g c = λ h i e l q x.
    let r = (at-place g.O.Programmed.form 0 h i e l.1 q).run in
    (r.1 x, cut g.O.Programmed.form _ _ _ r.0 x, cut-goes-on g.O.Programmed.form _ _ _ r.0 x)
