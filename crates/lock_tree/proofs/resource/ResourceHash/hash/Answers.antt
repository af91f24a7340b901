use Rattle.std.proofs.Common.{◌∙◌}
use Rattle.std.specs.Hash as fed
use Rattle.lock_tree.proofs.HashWrites.{fed-more}
use Rattle.lock_tree.proofs.resource.ResourceHash.hash.Goals as goal

pub loop-k-preserved : goal.loop-k-preserved
loop-k-preserved g c =
    c.write_u64.ensures
    ∙ ((λ i. g.H.Hasher.write (c.loop-k.invariant i) (fed.le_bytes 8 (c.word.ensures i)))
    ∙ fed-more g.H.Hasher.write c.args.state.now c.args.self.now c.loop-k.k)
