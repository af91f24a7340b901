use Rattle.waits_for.proofs.BitRows.{bit-unset}
use Rattle.waits_for.proofs.bits.unset.Goals as goal

pub returns : goal.returns
returns c = bit-unset c.args.words.now c.args.k c.requires
