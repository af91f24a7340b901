use Rattle.std.proofs.Common.{rules, sym, ◌∙◌, arith}
use Rattle.std.proofs.lemmas.Bool.{false≢true}
use Rattle.waits_for.specs.Pairs.{pairs_of}
use Rattle.waits_for.proofs.Places.{pairs_of-within}
use Rattle.waits_for.proofs.Walks.{adds-more, closed-more}
use Rattle.waits_for.proofs.search.add_predecessors.Goals as goal
use Rattle.waits_for.proofs.search.add_predecessors.Goals.{then-add_predecessor, else-add_predecessor}

pub loop-u-preserved : goal.loop-u-preserved
loop-u-preserved c =
    let h = c.loop-u.invariant in
    let one = c.add_predecessor.ensures in
    let next = c.next_new-u-in-loop-u in
    record {
      at_most = search rules;
      adds = adds-more (pairs_of c.args.matrix.now) c.args.reaching.now c.loop-u.reaching c.add_predecessor.new.reaching h.adds one.adds;
      more = search rules;
      same = search rules;
      closed = λ e. elim c.if-add_predecessor.branch [
        | then-add_predecessor w ↦ absurd (false≢true (sym e ∙ w.grew-is))
        | else-add_predecessor w ↦ closed-more (pairs_of c.args.matrix.now) c.args.reached.now c.loop-u.reaching c.add_predecessor.new.reaching c.loop-u.u next.result (one.same w.if-add_predecessor.false) (h.closed (sym w.grew-is ∙ e)) (one.closed w.if-add_predecessor.false) next.ensures.known
      ];
    }

pub returns-clause-closed : goal.returns-clause-closed
returns-clause-closed c e u v here step = c.loop-u.invariant.closed e u (let within = pairs_of-within c.args.matrix.now u v step in omega (arith, within.0)) here v step
