-- Session numbers whose codes have a bit of a mask.
use Rattle.std.proofs.Common.{◌≡◌, ℕ, zero, suc, ◌+◌, ◌-◌, ◌<◌, ◌≤◌, inl, inr, Bool, true, false, cond, not, ◌&&◌, ◌||◌, eqb, leb, List, [], ◌∷◌, length, get_or, take, refl, sym, ◌∙◌, ap, arith}
use Rattle.std.proofs.lemmas.Bool.{and_parts, or_cases, eqb-true, false≢true}
use Rattle.std.proofs.lemmas.Bool.Decides.{nat_tests}
use Rattle.mode_lanes.specs.Masks.{meets}
use Rattle.waits_for.specs.Pairs.{is_met}

-- `x || false` is `x`.
or-none : (x : Bool) → (x || false) ≡ x
or-none true = refl
or-none false = refl

-- Or is associative.
or-both : (x y z : Bool) → (x || (y || z)) ≡ ((x || y) || z)
or-both true y z = refl
or-both false y z = refl

-- One more number: session u is met if it was met before, or if the number is u + 1 and its code has a bit of the
-- mask.
met-suc : (mask u : ℕ) (ns cs : List ℕ) (i : ℕ) → length cs ≡ length ns → i < length ns → is_met mask u (take (suc i) ns) (take (suc i) cs) ≡ (is_met mask u (take i ns) (take i cs) || (eqb (get_or ns i 0) (u + 1) && meets mask (get_or cs i 0)))
met-suc mask u [] cs i e lt = absurd (omega (arith, lt))
met-suc mask u (n ∷ ns) [] i e lt = absurd (omega (arith, e))
met-suc mask u (n ∷ ns) (c ∷ cs) zero e lt = or-none (eqb n (u + 1) && meets mask c)
met-suc mask u (n ∷ ns) (c ∷ cs) (suc i) e lt = ap (λ (x : Bool). (eqb n (u + 1) && meets mask c) || x) (met-suc mask u ns cs i (omega (arith, e)) (omega (arith, lt))) ∙ or-both (eqb n (u + 1) && meets mask c) (is_met mask u (take i ns) (take i cs)) (eqb (get_or ns i 0) (u + 1) && meets mask (get_or cs i 0))

-- The fact of `met-suc`, with `i + 1` for the successor of i.
pub met-next : (mask u : ℕ) (ns cs : List ℕ) (i : ℕ) → length cs ≡ length ns → i < length ns → is_met mask u (take (i + 1) ns) (take (i + 1) cs) ≡ (is_met mask u (take i ns) (take i cs) || (eqb (get_or ns i 0) (u + 1) && meets mask (get_or cs i 0)))
met-next mask u ns cs i e lt = let one : i + 1 ≡ suc i = omega arith in ap (λ (k : ℕ). is_met mask u (take k ns) (take k cs)) one ∙ met-suc mask u ns cs i e lt

-- If no number is above m, a session that is met is at a position below m.
pub met-within : (mask m : ℕ) (ns cs : List ℕ) → ((k : ℕ) → k < length ns → get_or ns k 0 ≤ m) → (u : ℕ) → is_met mask u ns cs ≡ true → u < m
met-within mask m [] cs all u h = absurd (false≢true h)
met-within mask m (n ∷ ns) [] all u h = absurd (false≢true h)
met-within mask m (n ∷ ns) (c ∷ cs) all u h = elim (or_cases (eqb n (u + 1) && meets mask c) (is_met mask u ns cs) h) [
  | inl here ↦ omega (arith, all 0 (omega arith), eqb-true n (u + 1) (and_parts (eqb n (u + 1)) (meets mask c) here).0)
  | inr there ↦ met-within mask m ns cs (λ k lt. all (suc k) (omega (arith, lt))) u there
]

-- Bits added for some numbers, and for one more, are the bits added for all of them.
pub bits-next : (b c e f : Bool) → ((b || (c && e)) || (c && f)) ≡ (b || (c && (e || f)))
bits-next true c e f = refl
bits-next false false e f = refl
bits-next false true e f = refl

-- The bit of a number, from a bit on.
pub bit-of : (j from n : ℕ) → 1 ≤ n → eqb j (from + n - 1) ≡ (leb from j && eqb n (j - from + 1))
bit-of j from n some = grind (arith, nat_tests)

-- And is associative.
pub and-both : (x y z : Bool) → ((x && y) && z) ≡ (x && (y && z))
and-both true y z = refl
and-both false y z = refl

-- A mark that is 1 or 0 has the lowest bit if it is 1.
pub mark-meets : (b : Bool) (m : ℕ) → m ≡ cond b 1 0 → meets 1 m ≡ b
mark-meets true m e = ap (meets 1) e
mark-meets false m e = ap (meets 1) e

-- A mark is at most 1.
pub mark-small : (b : Bool) (m : ℕ) → m ≡ cond b 1 0 → m ≤ 1
mark-small true m e = omega (arith, e)
mark-small false m e = omega (arith, e)

-- `x && false` is `false`.
pub and-false : (x : Bool) → (x && false) ≡ false
and-false true = refl
and-false false = refl

-- Of the bits added, the session's own is taken away if it wasn't set before.
pub own-cleared : (was mine from added : Bool) → (mine ≡ true → was ≡ false) → ((was || (from && added)) && not mine) ≡ (was || (from && (not mine && added)))
own-cleared true true from added none = absurd (false≢true (sym (none refl)))
own-cleared true false from added none = refl
own-cleared false true true added none = and-false added
own-cleared false true false added none = refl
own-cleared false false true true none = refl
own-cleared false false true false none = refl
own-cleared false false false added none = refl

-- If it was set before, nothing is to be put back.
pub own-set : (was mine from added : Bool) → (mine ≡ true → was ≡ true) → (was || (from && added)) ≡ (was || (from && (not mine && added)))
own-set true mine from added one = refl
own-set false true from added one = absurd (false≢true (one refl))
own-set false false from added one = refl

-- The session's own bit, named by its place in all words or in its row.
pub own-bit : (j from own : ℕ) (x : Bool) → (leb from j && (not (eqb j (from + own)) && x)) ≡ (leb from j && (not (eqb (j - from) own) && x))
own-bit j from own true = grind (arith, nat_tests)
own-bit j from own false = grind (arith, nat_tests)
