use Rattle.lock_tree.proofs.ByByte.{read_more}
use Rattle.lock_tree.proofs.numeral.parse_numeral.Goals as goal

pub loop-byte-preserved : goal.loop-byte-preserved
loop-byte-preserved c = read_more c.args.text.now c.loop-byte.byte-index c.push-scan.result c.loop-byte-test.true (c.push-scan.ensures _ c.loop-byte.invariant)
