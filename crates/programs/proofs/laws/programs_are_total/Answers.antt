use Rattle.programs.specs.Total.{answers_are_total}
use Rattle.programs.proofs.laws.programs_are_total.Goals as goal

pub returns : goal.returns
returns g c = answers_are_total g.O.Programmed.form g.O.Sequential.is_legal g.O.Programmed.fits g.met.O.Sequential.total g.met.O.Programmed.told g.met.O.Programmed.replies_fit
