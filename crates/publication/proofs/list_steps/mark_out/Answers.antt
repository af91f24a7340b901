use Rattle.std.proofs.Common.{rules}
use Rattle.publication.proofs.UnlinkKinds.{mark_kept}
use Rattle.publication.proofs.list_steps.mark_out.Goals as goal

pub compare_exchange-found-requires : goal.compare_exchange-found-requires
compare_exchange-found-requires g c = let m = c.args.seat.now.me in let mine = c.requires.mine.0 in
    (search rules, search rules, mark_kept c.args.shared.now.table_id.slots c.args.seat.now.id m.0 m.1 mine.session mine.object c.args.whose c.requires.mine.1 c.requires.whose.some mine.empty)
