use Rattle.std.proofs.Common.{◌≡◌, ℕ, Bool, [], ◌∷◌, ap, ◌∙◌, refl, arith, subst}
use Rattle.waits_for.specs.Pairs.{Pairs, pairs_of}
use Rattle.waits_for.proofs.Walks.{reaches-within}
use Rattle.lock_table.specs.Noting.{cut, AreChosen}
use Rattle.lock_table.proofs.graph_copy.choose.Goals as goal

pub loop-count-init : goal.loop-count-init
loop-count-init c = record { sessions = refl; ahead = λ vs h. (vs, h, omega arith) }

pub clear_row-requires : goal.clear_row-requires
clear_row-requires c =
    let within = reaches-within c.loop-count.rows c.args.t c.in-Some.chosen c.in-Some.ensures.youngest.on_circle.there in
    omega (arith, within, ap (λ (r : Pairs). r.sessions) c.in-Some.ensures.same)

pub loop-count-preserved : goal.loop-count-preserved
loop-count-preserved c =
    let h = c.loop-count.invariant in
    let old = c.loop-count.rows in
    let new = c.clear_row.new.self in
    let v = c.in-Some.chosen in
    let pairs : (a b : ℕ) → pairs_of new a b ≡ cut (pairs_of old) v a b = λ a b. c.clear_row.ensures.pairs a b ∙ ap (λ (r : Pairs). cut (pairs_of r) v a b) c.in-Some.ensures.same in
    record {
      sessions = c.clear_row.ensures.sessions ∙ (ap (λ (r : Pairs). r.sessions) c.in-Some.ensures.same ∙ h.sessions);
      ahead = λ vs k.
          let r = h.ahead (v ∷ vs) (c.in-Some.ensures.youngest, subst (λ (p : ℕ → ℕ → Bool). AreChosen p c.args.ages.now c.args.t vs) (λ i a b. pairs a b i) k) in
          (r.0, r.1, omega (arith, r.2));
    }

pub returns-in_default-clause-chosen : goal.returns-in_default-clause-chosen
returns-in_default-clause-chosen c = let r = c.loop-count.invariant.ahead [] tt in (r.0, r.1, omega (arith, r.2))

pub returns-clause-chosen : goal.returns-clause-chosen
returns-clause-chosen c = let r = c.loop-count.invariant.ahead [] tt in (r.0, r.1, omega (arith, r.2, c.loop-count-test.false, c.loop-count.auto.count-end))
