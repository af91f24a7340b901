use Rattle.flat_combining.proofs.Runs.{kept-from}
use Rattle.flat_combining.proofs.laws.machines_keep_their_law.Goals as goal

pub returns : goal.returns
returns g c history = kept-from g.M.Machine g.M.Lawful.holds g.met.M.Lawful.kept g.M.Machine.initial history g.met.M.Lawful.initially
