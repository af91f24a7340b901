use Rattle.programs.specs.Determined.{answers_are_determined, agree-same}
use Rattle.programs.proofs.laws.programs_are_determined.Goals as goal

pub returns-clause-first : goal.returns-clause-first
returns-clause-first g c = λ h s p a b l m. (answers_are_determined g.O.Programmed.form g.O.Sequential.agree g.O.Sequential.is_legal g.met.O.Sequential.fronts g.met.O.Sequential.determined h s p a b l m).0

pub returns-clause-replies : goal.returns-clause-replies
returns-clause-replies g c = λ h s p a b l m. (answers_are_determined g.O.Programmed.form g.O.Sequential.agree g.O.Sequential.is_legal g.met.O.Sequential.fronts g.met.O.Sequential.determined h s p a b l m).1

pub returns-clause-same : goal.returns-clause-same
returns-clause-same g c = λ equal h s p a b l m.
    agree-same g.O.Programmed.form g.O.Sequential.agree equal (g.O.Programmed.form.calls p) (g.O.Programmed.form.replies p a) (g.O.Programmed.form.replies p b) (g.O.Programmed.form.refused a) (g.O.Programmed.form.refused b)
    (answers_are_determined g.O.Programmed.form g.O.Sequential.agree g.O.Sequential.is_legal g.met.O.Sequential.fronts g.met.O.Sequential.determined h s p a b l m).1
