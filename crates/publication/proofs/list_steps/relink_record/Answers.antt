use Rattle.std.proofs.Common.{rules}
use Rattle.publication.proofs.UnlinkKinds.{relink_kept}
use Rattle.publication.proofs.list_steps.relink_record.Goals as goal

pub store-requires : goal.store-requires
store-requires g c = let m = c.args.seat.now.me in let mine = c.requires.mine in (
  search rules,
  search rules,
  relink_kept c.args.shared.now.table_id.slots c.args.seat.now.id m.0 m.1 mine.session mine.object c.args.before c.args.whose c.requires.off.0 c.requires.off.1 c.requires.whose.some c.requires.before.1,
)
