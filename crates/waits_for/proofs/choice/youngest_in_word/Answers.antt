use Rattle.std.proofs.Common.{◌≡◌, refl}
use Rattle.waits_for.proofs.BitRows.{without-lowest}
use Rattle.waits_for.proofs.Youngest.{in_word-more, in_word-done}
use Rattle.waits_for.proofs.choice.youngest_in_word.Goals as goal

pub loop-rest-smaller : goal.loop-rest-smaller
loop-rest-smaller c = without-lowest c.loop-rest.rest _ c.loop-rest.auto.rest-fits.fits c.loop-rest-test.true refl

pub loop-rest-preserved : goal.loop-rest-preserved
loop-rest-preserved c = record {
  below = c.younger_within-best.ensures.below;
  in_word = λ test is h. in_word-more test c.args.ages.now c.args.word c.args.first is c.loop-rest.rest c.loop-rest.best c.younger_within-best.result c.loop-rest.auto.rest-fits.fits c.loop-rest-test.true (c.loop-rest.invariant.in_word test is h) c.younger_within-best.ensures.within c.younger_within-best.ensures.past;
}

pub returns-clause-best : goal.returns-clause-best
returns-clause-best c test is h =
    let e : c.loop-rest.rest ≡ 0 = c.loop-rest-test.false in
    in_word-done test c.args.ages.now c.args.word c.args.first is c.loop-rest.best (rw e at c.loop-rest.invariant.in_word test is h)
