use Rattle.std.proofs.Common.{◌≡◌, ℕ, ◌+◌, ◌*◌, ◌/◌, ◌%◌, ◌<◌, ◌≤◌, inl, inr, Bool, true, false, List, get_or, refl, sym, ◌∙◌, ap, arith}
use Rattle.std.specs.Int.{bit_at}
use Rattle.std.proofs.lemmas.Bool.{cases_eq, eqb-true, false≢true}
use Rattle.waits_for.specs.Pairs.{Pairs, pairs_of}
use Rattle.waits_for.specs.inner.Bits.{has_bit, words_for}
use Rattle.waits_for.specs.inner.Search.{HasAllWaiting}
use Rattle.waits_for.proofs.Places.{pairs_of-within}
use Rattle.waits_for.proofs.search.is_waited_for.Goals as goal

pub loop-w-init : goal.loop-w-init
loop-w-init c u lt = absurd (omega (arith, lt))

-- If none of the sessions of a word waits for t, none does up to the next word: whoever waits has its bit set.
next : (p : Pairs) (t w : ℕ) (waiting : List ℕ) → HasAllWaiting (pairs_of p) waiting → ((i : ℕ) → i < 64 → bit_at (get_or waiting w 0) i ≡ 1 → pairs_of p (w * 64 + i) t ≡ false)
    → (u : ℕ) → u / 64 ≡ w → (b : Bool) → pairs_of p u t ≡ b → pairs_of p u t ≡ false
next p t w waiting all none u e false is = is
next p t w waiting all none u e true is =
    let at : w * 64 + u % 64 ≡ u = omega (arith, e) in
    let bit : bit_at (get_or waiting w 0) (u % 64) ≡ 1 = rw e at (eqb-true (bit_at (get_or waiting (u / 64) 0) (u % 64)) 1 (all u t is)) in
    sym (ap (λ (x : ℕ). pairs_of p x t) at) ∙ none (u % 64) (omega arith) bit

pub loop-w-preserved : goal.loop-w-preserved
loop-w-preserved c u lt = elim (cases_eq (u / 64) c.loop-w.w) [
  | inl e ↦ next c.args.matrix.now c.args.t c.loop-w.w c.args.waiting.now c.requires.waiting (c.is_waited_for_in_word.ensures.none c.if-is_waited_for_in_word.false) u e (pairs_of c.args.matrix.now u c.args.t) refl
  | inr ne ↦ c.loop-w.invariant u (omega (arith, lt, ne))
]

pub returns-then-is_waited_for_in_word : goal.returns-then-is_waited_for_in_word
returns-then-is_waited_for_in_word c = (λ h. c.is_waited_for_in_word.ensures.some c.if-is_waited_for_in_word.true, λ h. refl)

-- Whoever waits is below the number of sessions, so in a word of theirs.
inside : (p : Pairs) (t w u : ℕ) → words_for p.sessions ≤ w → pairs_of p u t ≡ true → u / 64 < w
inside p t w u le is = omega (arith, le, (pairs_of-within p u t is).0)

pub returns : goal.returns
returns c =
    let past : words_for c.args.matrix.now.sessions ≤ c.loop-w.w = omega (arith, c.loop-w-test.false, c.sessions-sessions.ensures.sessions) in (
      λ h. absurd (false≢true h),
      λ r. absurd (false≢true (sym (c.loop-w.invariant r.0 (inside c.args.matrix.now c.args.t c.loop-w.w r.0 past r.1)) ∙ r.1)),
    )
