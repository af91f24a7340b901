use Rattle.combining.proofs.OneHistory.{one-history}
use Rattle.combining.proofs.laws.closed_offices_have_one_history.Goals as goal

pub returns : goal.returns
returns g c office sessions object closed = one-history g.met.O.Sequential.fronts g.met.O.Sequential.determined office sessions object closed
