use Rattle.std.proofs.Common.{◌≡◌, ◌+◌, ◌<◌, ◌≤◌, ℕ, Bool, true, false, not, cond, eqb, ltb, ◌&&◌, ◌||◌, inl, inr, sym, ap, ◌∙◌, refl, arith}
use Rattle.std.proofs.lemmas.Bool.{cases_lt, cases_Bool, lt-ltb, le-ltb, eq-eqb, ne_eqb}
use Rattle.std.proofs.Math.Bool.{and-true, and-false, or-false}
use Rattle.waits_for.specs.Pairs.{pairs_of}
use Rattle.waits_for.proofs.Places.{pairs_of-within}
use Rattle.lock_rules.proofs.Alters.{true≢false}
use Rattle.lock_table.proofs.graph_copy.copy_row.Goals as goal

-- The edges up to the next one.
row-more : (p : ℕ → Bool) (from u : ℕ) → from ≤ u → p u ≡ true → ((j : ℕ) → from ≤ j → j < u → p j ≡ false) → (b : ℕ) → ((ltb b from && p b) || eqb b u) ≡ (ltb b (u + 1) && p b)
row-more p from u le on gap b = elim (cases_lt b from) [
  | inl low ↦
      let before = lt-ltb b from low in
      let upto = lt-ltb b (u + 1) (omega (arith, low, le)) in
      let other = ne_eqb b u (λ e. omega (arith, e, low, le)) in
      (λ i. (before i && p b) || other i) ∙ (or-false (p b) ∙ sym (ap (λ (x : Bool). x && p b) upto))
  | inr high ↦ (λ i. (le-ltb b from high i && p b) || eqb b u) ∙ elim (cases_lt b (u + 1)) [
    | inr far ↦ ne_eqb b u (λ e. omega (arith, e, far)) ∙ sym (ap (λ (x : Bool). x && p b) (le-ltb b (u + 1) far))
    | inl near ↦ elim (cases_lt b u) [
      | inl between ↦ ne_eqb b u (λ e. omega (arith, e, between)) ∙ sym ((λ i. lt-ltb b (u + 1) near i && gap b high between i))
      | inr end ↦
          let is : b ≡ u = omega (arith, near, end) in
          eq-eqb b u is ∙ sym ((λ i. lt-ltb b (u + 1) near i && (ap p is ∙ on) i))
    ]
  ]
]

pub loop-u-init : goal.loop-u-init
loop-u-init c = record {
  sessions = refl;
  pairs = λ a b. sym ((λ i. pairs_of c.clear_row.new.self a b || (eqb a c.args.t && (le-ltb b 0 (omega arith) i && pairs_of c.args.rows.now c.args.t b)))
      ∙ ((λ i. pairs_of c.clear_row.new.self a b || and-false (eqb a c.args.t) i) ∙ or-false (pairs_of c.clear_row.new.self a b)));
}

pub set-requires-clause-u_below : goal.set-requires-clause-u_below
set-requires-clause-u_below c =
    let within = pairs_of-within c.args.rows.now c.args.t c.in-Some.u c.in-Some.ensures.some.1 in
    omega (arith, within.1, c.loop-u.invariant.sessions, c.clear_row.ensures.sessions, c.requires.sessions)

pub overflow_add-from : goal.overflow_add-from
overflow_add-from c =
    let within = pairs_of-within c.args.rows.now c.args.t c.in-Some.u c.in-Some.ensures.some.1 in
    omega (arith, within.1, c.requires.few)

pub loop-u-preserved : goal.loop-u-preserved
loop-u-preserved c =
    let h = c.loop-u.invariant in
    let p = pairs_of c.args.rows.now c.args.t in
    let u = c.in-Some.u in
    record {
      sessions = c.set.ensures.sessions ∙ h.sessions;
      pairs = λ a b.
          c.set.ensures.pairs a b ∙ (ap (λ (x : Bool). x || (eqb a c.args.t && eqb b u)) (h.pairs a b)
          ∙ go (eqb a c.args.t) (pairs_of c.clear_row.new.self a b) (ltb b c.loop-u.from && p b) (eqb b u) (ltb b (u + 1) && p b)
          (row-more p c.loop-u.from u c.in-Some.ensures.some.0 c.in-Some.ensures.some.1 (λ j le lt. elim (cases_Bool (p j)) [
            | inl y ↦ absurd (true≢false (c.in-Some.ensures.least j le lt y) (c.requires.none j))
            | inr n ↦ n
          ]) b));
    }
  where
    go : (e x y z w : Bool) → (y || z) ≡ w → ((x || (e && y)) || (e && z)) ≡ (x || (e && w))
    go true true y z w f = refl
    go true false y z w f = f
    go false true y z w f = refl
    go false false y z w f = refl

pub loop-u-smaller : goal.loop-u-smaller
loop-u-smaller c =
    let within = pairs_of-within c.args.rows.now c.args.t c.in-Some.u c.in-Some.ensures.some.1 in
    omega (arith, within.1, c.in-Some.ensures.some.0)

pub returns-clause-pairs : goal.returns-clause-pairs
returns-clause-pairs c a b =
    let h = c.loop-u.invariant in
    let p = pairs_of c.args.rows.now c.args.t in
    h.pairs a b ∙ whole (eqb a c.args.t) (pairs_of c.clear_row.new.self a b) (pairs_of c.args.copy.now a b) (ltb b c.loop-u.from && p b) (p b) (c.clear_row.ensures.pairs a b) (elim (cases_lt b c.loop-u.from) [
      | inl low ↦ ap (λ (x : Bool). x && p b) (lt-ltb b c.loop-u.from low)
      | inr high ↦ elim (cases_Bool (p b)) [
        | inl y ↦ absurd (true≢false (c.in_default.ensures.none b high y) (c.requires.none b))
        | inr n ↦ (λ i. ltb b c.loop-u.from && n i) ∙ (and-false (ltb b c.loop-u.from) ∙ sym n)
      ]
    ])
  where
    whole : (e x o y z : Bool) → x ≡ (o && not e) → y ≡ z → (x || (e && y)) ≡ cond e z o
    whole true x o y z f g = ap (λ (k : Bool). k || y) (f ∙ and-false o) ∙ g
    whole false x o y z f g = or-false x ∙ (f ∙ and-true o)
