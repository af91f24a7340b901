use Rattle.waits_for.proofs.BitRows.{bit-or}
use Rattle.waits_for.proofs.bits.unite.Goals as goal

pub returns : goal.returns
returns c = bit-or c.args.row.now c.args.other.now c.or_into.new.row c.or_into.auto.row c.requires c.or_into.ensures.words
