use Rattle.std.proofs.Common.{rules}
use Rattle.publication.proofs.RecordKinds.{look_at_record_kept}
use Rattle.publication.proofs.steps.is_posted.Goals as goal

pub load-requires : goal.load-requires
load-requires g c = let m = c.args.seat.now.me in let mine = c.requires.mine in
    (search rules, search rules, look_at_record_kept c.args.shared.now.table_id.slots c.args.seat.now.id m.0 mine.session mine.object c.args.at c.requires.at.some c.requires.at.there m.1)
