use Rattle.programs.proofs.Placed.{placed, ordered}
use Rattle.programs.proofs.laws.programs_stand_side_by_side.Goals as goal

pub returns-clause-placed : goal.returns-clause-placed
returns-clause-placed g c = λ h i e l q. placed g.O.Programmed.form h i e l.1 q

pub returns-clause-ordered : goal.returns-clause-ordered
returns-clause-ordered g c = λ h i j e f l b q r. ordered g.O.Programmed.form 0 h i j e f l.1 b q r
