use Rattle.std.proofs.Common.{rules}
use Rattle.publication.proofs.RecordStates.{lacks}
use Rattle.publication.proofs.SessionKinds.{retire_kept}
use Rattle.publication.proofs.steps.retire_record.Goals as goal

pub store-requires : goal.store-requires
store-requires g c = let m = c.args.seat.now.me in let n = c.args.shared.now.table_id.slots in (
  search rules,
  search rules,
  λ state rule many seated short.
      let r = retire_kept n c.args.seat.now.id c.args.at m.0 m.1 c.requires.mine.0 c.requires.at.some c.requires.idle.0 c.requires.idle.1 c.requires.mine.1 state rule many seated short in
      (r.0, r.1, r.2, r.3, (r.4, lacks m.0.own.pending c.requires.idle.0)),
)
