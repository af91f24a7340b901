use Rattle.std.proofs.Common.{rules}
use Rattle.publication.proofs.SessionKinds.{look_kept}
use Rattle.publication.proofs.steps.is_served.Goals as goal

pub load-requires : goal.load-requires
load-requires g c = let m = c.args.seat.now.me in
    (search rules, search rules, look_kept c.args.shared.now.table_id.slots c.args.seat.now.id c.args.at m.0 m.1 c.requires.mine c.requires.at.some)
