use Rattle.programs.proofs.Waits.{same-waits}
use Rattle.programs.proofs.laws.programs_end_the_waits_that_their_calls_end.Goals as goal

pub returns : goal.returns
returns g c = same-waits g.O.Programmed.form g.O.Telling.ends
