use Rattle.std.proofs.Common.{rules, ◌<◌, vec_len}
use Rattle.combining.proofs.RoundWeights.{within-further}
use Rattle.combining.proofs.rounds.open_if_room.Goals as goal

pub returns-then-opening-from-clause-within : goal.returns-then-opening-from-clause-within
returns-then-opening-from-clause-within g c =
    let old = c.args.load.now in
    let e = c.open_weighed.ensures in
    let room : vec_len old.row < c.args.bound.calls = search rules in
    let less : c.args.opening.now.weight < c.args.bound.weight = search rules in
    within-further g.T.Listener.weight c.args.bound (g.O.Sequential.history old.object) old.row c.open_weighed.new.load.row c.args.opening.now.weight c.open_weighed.new.opening.weight c.args.whose
    c.requires.within room less e.grows e.opened
