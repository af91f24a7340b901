use Rattle.std.proofs.Common.{refl}
use Rattle.lock_report.proofs.Suffixes.{next_suffix, no_suffix}
use Rattle.lock_report.specs.Jam.{jammed_at, jammed_behind}
use Rattle.lock_report.proofs.blocking.contended.jammed.Goals as goal

pub loop-index-preserved : goal.loop-index-preserved
loop-index-preserved c =
    next_suffix jammed_at jammed_behind c.args.claims.now c.loop-index.index c.index-claims-index.result c.loop-index.last _ _ _ (λ x xs. refl) c.loop-index-test.true
    c.in_ok-add_jammed.ensures c.loop-index.invariant

pub returns : goal.returns
returns c = no_suffix jammed_behind c.args.claims.now c.loop-index.index c.loop-index.last _ _ refl c.loop-index-test.false c.loop-index.invariant
