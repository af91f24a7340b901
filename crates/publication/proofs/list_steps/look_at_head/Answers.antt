use Rattle.std.proofs.Common.{rules}
use Rattle.publication.proofs.ListKinds.{look_at_head_kept}
use Rattle.publication.proofs.list_steps.look_at_head.Goals as goal

pub load-requires : goal.load-requires
load-requires g c = let m = c.args.seat.now.me in
    (search rules, search rules, look_at_head_kept c.args.shared.now.table_id.slots c.args.seat.now.id c.args.at m.0 m.1 c.requires.mine c.requires.at.some c.requires.unlisted.0 c.requires.unlisted.1)
