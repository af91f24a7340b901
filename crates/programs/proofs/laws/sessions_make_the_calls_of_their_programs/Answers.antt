use Rattle.programs.proofs.Sessions.{calls_of-flat}
use Rattle.programs.proofs.laws.sessions_make_the_calls_of_their_programs.Goals as goal

pub returns : goal.returns
returns g c = λ s h l. calls_of-flat g.O.Programmed.form s h l.1
