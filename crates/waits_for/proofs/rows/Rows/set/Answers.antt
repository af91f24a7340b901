use Rattle.std.proofs.Common.{◌≡◌, ℕ, inl, inr, ◌||◌, ◌&&◌, eqb, Bool, List, ◌++◌, length, drop, take, ap, ◌∙◌, sym, arith}
use Rattle.std.proofs.lemmas.Bool.{or_cases, or_left, or_right, and_parts}
use Rattle.std.proofs.lemmas.List.{take_at}
use Rattle.waits_for.specs.inner.Bits.{words_for, has_bit}
use Rattle.waits_for.specs.Pairs.{pairs_of}
use Rattle.waits_for.specs.inner.Search.{HasAllWaiting}
use Rattle.waits_for.proofs.rows.Rows.set.Goals as goal

-- If the edge from t to u is added and t is marked as waiting, every session that waits for a session is marked.
waiting-more : (old new : ℕ → ℕ → Bool) (w v : List ℕ) (t u : ℕ) → HasAllWaiting old w → ((a b : ℕ) → new a b ≡ (old a b || (eqb a t && eqb b u))) → ((j : ℕ) → has_bit v j ≡ (has_bit w j || eqb j t)) → HasAllWaiting new v
waiting-more old new w v t u all more one a b h = one a ∙ elim (or_cases (old a b) (eqb a t && eqb b u) (sym (more a b) ∙ h)) [
  | inl was ↦ or_left (has_bit w a) (eqb a t) (all a b was)
  | inr came ↦ or_right (has_bit w a) (eqb a t) (and_parts (eqb a t) (eqb b u) came).0
]

pub invariant_of-self : goal.invariant_of-self
invariant_of-self c =
    let w = c.self.inside.waiting in
    let new = c.set-2.new.words in
    let k = c.self.invariant in
    let whole : take w.len (new ++ drop (length new) w.items) ≡ new = take_at new (drop (length new) w.items) w.len (c.set-2.auto.words ∙ c.deref_mut.ensures.len) in
    let one : (j : ℕ) → has_bit new j ≡ (has_bit w.items j || eqb j c.args.t) = λ j. rw (← c.deref_mut.ensures.value) (c.set-2.ensures j) in
    let marked = waiting-more (pairs_of c.self.inside.matrix) (pairs_of c.set.new.self) w.items new c.args.t c.args.u k.1 c.set.ensures.pairs one in
    let same = ap words_for (sym c.set.ensures.sessions) in
    rw whole (c.set-2.auto.words ∙ ap length c.deref_mut.ensures.value ∙ k.0 ∙ same, marked, c.forget.ensures.sessions ∙ k.2 ∙ sym c.set.ensures.sessions, λ a is. absurd (omega (arith, is, c.forget.ensures.none)))

pub returns-clause-pairs : goal.returns-clause-pairs
returns-clause-pairs c = rw (← c.self.view_is) c.set.ensures.pairs
