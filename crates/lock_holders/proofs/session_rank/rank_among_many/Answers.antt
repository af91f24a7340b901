use Rattle.std.proofs.Common.{◌+◌, ◌-◌, ◌/◌, arith}
use Rattle.lock_holders.proofs.Columns.{below-more, others-more}
use Rattle.lock_holders.proofs.session_rank.rank_among_many.Goals as goal

pub loop-low-preserved-then-sessions-middle : goal.loop-low-preserved-then-sessions-middle
loop-low-preserved-then-sessions-middle c =
    let k = c.loop-low.invariant in
    record {
      order = omega (arith, c.loop-low-test.true);
      within = k.within;
      below = below-more c.args.session c.args.sessions.now (c.loop-low.low + (c.loop-low.high - c.loop-low.low) / 2) c.requires.rising (omega (arith, c.loop-low-test.true, k.within)) c.if-sessions-middle.true;
      others = k.others;
    }

pub loop-low-preserved : goal.loop-low-preserved
loop-low-preserved c =
    let k = c.loop-low.invariant in
    record {
      order = omega (arith, c.loop-low-test.true);
      within = omega (arith, c.loop-low-test.true, k.within);
      below = k.below;
      others = others-more c.args.session c.args.sessions.now (c.loop-low.low + (c.loop-low.high - c.loop-low.low) / 2) c.requires.rising (omega (arith, c.loop-low-test.true, k.within)) c.if-sessions-middle.false;
    }
