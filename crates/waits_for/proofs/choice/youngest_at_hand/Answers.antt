use Rattle.std.proofs.Common.{ℕ, inl, inr, Bool, arith}
use Rattle.waits_for.specs.Pairs.{pairs_of}
use Rattle.waits_for.specs.Walks.{Reaches, AreOnCircle}
use Rattle.waits_for.specs.inner.Search.{IsTo}
use Rattle.waits_for.proofs.Walks.{reaches-within}
use Rattle.waits_for.proofs.Youngest.{youngest-among}
use Rattle.waits_for.proofs.choice.youngest_at_hand.Goals as goal

-- A session that reaches t, and that is t or is reached from it, is on a circle with t.
on-both : (p : ℕ → ℕ → Bool) (t v : ℕ) → IsTo p v t → Reaches p v t → AreOnCircle p t v
on-both p t v (inl e) back = record { there = rw e (rw e at back); back = back }
on-both p t v (inr there) back = record { there = there; back = back }

pub returns-then-leads_to : goal.returns-then-leads_to
returns-then-leads_to c =
    let p = pairs_of c.args.matrix.now in
    let t = c.args.t in
    let v = c.in_ok-v.v in
    record { youngest = youngest-among p c.args.ages.now t c.args.circle.now c.requires.circle (λ u h. omega (arith, reaches-within c.args.matrix.now t u h.there, c.requires.an_age_each)) v (on-both p t v (c.is_led_to.ensures c.if-is_led_to.true) (c.leads_to.ensures c.if-leads_to.true)) c.in_ok-v.ensures }
