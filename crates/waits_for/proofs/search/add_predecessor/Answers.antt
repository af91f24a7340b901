use Rattle.std.proofs.Common.{eqb, sym, ◌∙◌, refl}
use Rattle.std.proofs.lemmas.Bool.{or_left, or_right, eq-eqb, false≢true}
use Rattle.waits_for.specs.Pairs.{pairs_of}
use Rattle.waits_for.specs.inner.Bits.{has_bit}
use Rattle.waits_for.proofs.BitRows.{unset-lt}
use Rattle.waits_for.proofs.Walks.{adds-one}
use Rattle.waits_for.proofs.search.add_predecessor.Goals as goal
use Rattle.waits_for.proofs.search.add_predecessor.Goals.{then-has-via-then-has, then-has-via-else-has+then-not-have_common}

pub returns-then-has-clause-closed : goal.returns-then-has-clause-closed
returns-then-has-clause-closed c _ v step member = elim c.then-has.branch [
  | then-has-via-then-has w ↦ sym c.has.ensures ∙ w.if-has.true
  | then-has-via-else-has+then-not-have_common w ↦ absurd (false≢true (sym w.if-not-have_common.true ∙ w.have_common.ensures.1 (v, w.row.ensures.bits v ∙ step, member)))
]

pub returns-clause-adds : goal.returns-clause-adds
returns-clause-adds c =
    let found = c.have_common.ensures.0 c.if-not-have_common.false in
    adds-one (pairs_of c.args.matrix.now) c.args.reaching.now c.set.new.words c.args.u found.0 c.set.auto.words c.set.ensures (sym (c.row.ensures.bits found.0) ∙ found.1) found.2

pub returns-clause-more : goal.returns-clause-more
returns-clause-more c _ = unset-lt c.args.matrix.now.sessions c.args.reaching.now c.set.new.words (λ j h. c.set.ensures j ∙ or_left (has_bit c.args.reaching.now j) (eqb j c.args.u) h) c.args.u c.requires.u_below (sym c.has.ensures ∙ c.if-has.false) (c.set.ensures c.args.u ∙ or_right (has_bit c.args.reaching.now c.args.u) (eqb c.args.u c.args.u) (eq-eqb c.args.u c.args.u refl))
