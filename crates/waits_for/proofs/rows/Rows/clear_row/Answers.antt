use Rattle.std.proofs.Common.{◌≡◌, ℕ, true, ◌&&◌, not, eqb, ◌++◌, length, drop, take, ◌∙◌, sym, ap}
use Rattle.std.proofs.lemmas.Bool.{and_parts, and_from}
use Rattle.std.proofs.lemmas.List.{take_at}
use Rattle.waits_for.specs.Pairs.{pairs_of}
use Rattle.waits_for.specs.inner.Bits.{words_for, has_bit}
use Rattle.waits_for.proofs.Walks.{circle-before}
use Rattle.waits_for.proofs.rows.Rows.clear_row.Goals as goal

pub invariant_of-self : goal.invariant_of-self
invariant_of-self c =
    let old = pairs_of c.self.inside.matrix in
    let new = pairs_of c.clear_row.new.self in
    let w = c.self.inside.waiting in
    let left = c.unset.new.words in
    let k = c.self.invariant in
    let whole : take w.len (left ++ drop (length left) w.items) ≡ left = take_at left (drop (length left) w.items) w.len (c.unset.auto.words ∙ c.deref_mut.ensures.len) in
    let one : (j : ℕ) → has_bit left j ≡ (has_bit w.items j && not (eqb j c.args.t)) = λ j. rw (← c.deref_mut.ensures.value) (c.unset.ensures j) in
    let parts : (a b : ℕ) → new a b ≡ true → (old a b ≡ true) × (not (eqb a c.args.t) ≡ true) = λ a b h. and_parts (old a b) (not (eqb a c.args.t)) (sym (c.clear_row.ensures.pairs a b) ∙ h) in
    let same = ap words_for (sym c.clear_row.ensures.sessions) in
    rw whole (
      c.unset.auto.words ∙ ap length c.deref_mut.ensures.value ∙ k.0 ∙ same,
      λ a b h. let p = parts a b h in one a ∙ and_from (has_bit w.items a) (not (eqb a c.args.t)) (k.1 a b p.0) p.1,
      k.2 ∙ sym c.clear_row.ensures.sessions,
      λ a is. circle-before old new (λ x y h. (parts x y h).0) a c.self.inside.search.circle (k.3 a is),
    )
