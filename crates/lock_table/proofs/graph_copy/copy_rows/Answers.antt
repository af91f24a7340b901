use Rattle.std.proofs.Common.{◌≡◌, ◌≤◌, ℕ, Bool, false, cond, inl, inr, sym, ap, ◌∙◌, arith}
use Rattle.std.proofs.lemmas.Bool.{cases_lt, cases_Bool, eq-eqb, ne_eqb}
use Rattle.waits_for.specs.Pairs.{Pairs, pairs_of}
use Rattle.waits_for.proofs.Places.{pairs_of-within}
use Rattle.lock_table.proofs.graph_copy.copy_rows.Goals as goal

-- No edge leads from a number that is no position.
none-beyond : (p : Pairs) (a b : ℕ) → p.sessions ≤ a → pairs_of p a b ≡ false
none-beyond p a b le = elim (cases_Bool (pairs_of p a b)) [
  | inl y ↦ absurd (omega (arith, (pairs_of-within p a b y).0, le))
  | inr n ↦ n
]

pub loop-t-preserved : goal.loop-t-preserved
loop-t-preserved c =
    let h = c.loop-t.invariant in
    let t = c.loop-t.t in
    record {
      sessions = c.copy_row.ensures.sessions ∙ h.sessions;
      pairs = λ a b lt. c.copy_row.ensures.pairs a b ∙ elim (cases_lt a t) [
        | inl low ↦ ap (λ (e : Bool). cond e (pairs_of c.args.rows.now t b) (pairs_of c.loop-t.copy a b)) (ne_eqb a t (λ e. omega (arith, e, low))) ∙ h.pairs a b low
        | inr high ↦
            let is : a ≡ t = omega (arith, lt, high) in
            ap (λ (e : Bool). cond e (pairs_of c.args.rows.now t b) (pairs_of c.loop-t.copy a b)) (eq-eqb a t is) ∙ ap (λ (k : ℕ). pairs_of c.args.rows.now k b) (sym is)
      ];
    }

pub returns-clause-pairs : goal.returns-clause-pairs
returns-clause-pairs c = λ i a b. same a b i
  where
    same : (a b : ℕ) → pairs_of c.loop-t.copy a b ≡ pairs_of c.args.rows.now a b
    same a b = elim (cases_lt a c.args.rows.now.sessions) [
      | inl low ↦ c.loop-t.invariant.pairs a b (omega (arith, low, c.loop-t-test.false, c.sessions-t-end.ensures.sessions))
      | inr high ↦ none-beyond c.loop-t.copy a b (omega (arith, high, c.loop-t.invariant.sessions, c.requires.sessions)) ∙ sym (none-beyond c.args.rows.now a b high)
    ]
