use Rattle.std.proofs.Common.{arith}
use Rattle.waits_for.specs.Pairs.{pairs_of}
use Rattle.waits_for.proofs.Walks.{closed_leading}
use Rattle.waits_for.proofs.search.add_all_predecessors.Goals as goal

pub loop-preserved : goal.loop-preserved
loop-preserved c =
    let h = c.loop.invariant in
    let up = c.add_predecessors.ensures.adds in
    record {
      room = omega (arith, up.room, h.room);
      own = up.kept c.args.t h.own;
      lead = up.lead c.args.t h.lead;
    }

pub returns-clause-own : goal.returns-clause-own
returns-clause-own c = c.add_predecessors.ensures.adds.kept c.args.t c.loop.invariant.own

pub returns-clause-lead : goal.returns-clause-lead
returns-clause-lead c = c.add_predecessors.ensures.adds.lead c.args.t c.loop.invariant.lead

pub returns-clause-all : goal.returns-clause-all
returns-clause-all c =
    let h = c.loop.invariant in
    let up = c.add_predecessors.ensures in
    closed_leading (pairs_of c.args.matrix.now) c.args.t c.args.waiting.now c.args.reached.now c.add_predecessors.new.reaching c.requires.waiting c.requires.reached (up.closed c.loop-test.false) (up.adds.kept c.args.t h.own)
