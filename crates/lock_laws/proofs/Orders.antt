-- Transactions that end one after another: what an end is, how many there can be, and how they go on.
use Rattle.std.proofs.Common.{◌≡◌, ℕ, zero, suc, ◌+◌, ◌<◌, ◌≤◌, Bool, true, false, cond, not, eqb, ◌⊎◌, inl, inr, List, [], ◌∷◌, ◌++◌, length, Some, None, refl, sym, ◌∙◌, ap, arith, subst}
use Rattle.std.specs.Prelude.{is_some, Contains}
use Rattle.std.proofs.lemmas.Bool.Decides.{nat_tests, Decides-eqb}
use Rattle.std.proofs.lemmas.Bool.{cases_Bool}
use Rattle.std.proofs.lemmas.List.Elements.{Contains-append_right}
use Rattle.lock_rules.specs.declared.calls.Call.TheVariants.{Commit, Abort}
use Rattle.lock_rules.specs.declared.calls.Reply.TheVariants.{Committed, Aborted}
use Rattle.lock_rules.specs.declared.calls.Why.TheVariants.{NoTransaction, IsWaiting, IsDoomed}
use Rattle.lock_rules.specs.State.{State, claims_of, is_open, is_waiting, is_doomed}
use Rattle.lock_rules.specs.Step.{outcome_of, step}
use Rattle.lock_rules.proofs.Lists.{eqb-refl}
use Rattle.lock_laws.specs.Ends.{ended, ended_with, CanEnd, AreEnds, CanNobodyEnd, open_below, AreOpenBelow, DoEndsCount, CanSomebodyEnd, DoEndsGoOn}

-- what an end is

-- an abort of a session with a transaction ends it
pub abort-ends : (st : State) (s : ℕ) → is_open st s ≡ true → step st s Abort ≡ ended_with (Aborted (length (claims_of s st.table.held))) s st
abort-ends st s h = ap (λ (b : Bool). outcome_of (cond (not b) (Some NoTransaction) None) st s Abort) h

-- so does a commit of a session that can end and isn't doomed
pub commit-ends : (st : State) (s : ℕ) → CanEnd st s → is_doomed st s ≡ false → step st s Commit ≡ ended_with (Committed (length (claims_of s st.table.held))) s st
commit-ends st s h d = go (is_open st s) (is_waiting st s) (is_doomed st s) h.0 h.1 d
  where
    go : (a b c : Bool) → a ≡ true → b ≡ false → c ≡ false → outcome_of (cond (not a) (Some NoTransaction) (cond b (Some IsWaiting) (cond c (Some IsDoomed) None))) st s Commit ≡ ended_with (Committed (length (claims_of s st.table.held))) s st
    go true false false f g k = refl
    go false b c f g k = absurd (cc)
    go true true c f g k = absurd (cc)
    go true false true f g k = absurd (cc)

-- how many can be

-- the end of a transaction opens none
pub ended-open : (s : ℕ) (st : State) (u : ℕ) → is_open (ended s st) u ≡ true → is_open st u ≡ true
ended-open s st u h = go (eqb u s) h
  where
    go : (b : Bool) → is_some (cond b None (st.begun u)) ≡ true → is_open st u ≡ true
    go true k = absurd (cc)
    go false k = k

-- it closes its own
ended-closed : (s : ℕ) (st : State) → is_open (ended s st) s ≡ false
ended-closed s st = ap (λ (b : Bool). is_some (cond b None (st.begun s))) (eqb-refl s)

-- it closes no other
pub ended-other : (s : ℕ) (st : State) (u : ℕ) → eqb u s ≡ false → is_open (ended s st) u ≡ is_open st u
ended-other s st u n = ap (λ (b : Bool). is_some (cond b None (st.begun u))) n

-- after an end the open sessions still have numbers below n
pub ended-below : (n s : ℕ) (st : State) → AreOpenBelow n st → AreOpenBelow n (ended s st)
ended-below n s st h u o = h u (ended-open s st u o)

-- a session from n on doesn't count below n
same-count : (n s : ℕ) (st : State) → n ≤ s → open_below n (ended s st) ≡ open_below n st
same-count zero s st le = refl
same-count (suc n) s st le =
    let d : eqb n s ≡ false = grind (arith, nat_tests) in
    let e : ◌≡◌ {A = ℕ} (cond (is_open (ended s st) n) 1 0) (cond (is_open st n) 1 0) = ap (λ (b : Bool). cond b 1 0) (ended-other s st n d) in
    let r = same-count n s st (omega arith) in
    sum (cond (is_open (ended s st) n) 1 0) (cond (is_open st n) 1 0) (open_below n (ended s st)) (open_below n st) e r
  where
    sum : (a b c d : ℕ) → a ≡ b → c ≡ d → a + c ≡ b + d
    sum a b c d e f = cc

-- an end leaves one open transaction less
one-less : (n s : ℕ) (st : State) → s < n → is_open st s ≡ true → open_below n (ended s st) + 1 ≡ open_below n st
one-less zero s st l o = absurd (omega arith)
one-less (suc n) s st l o = elim (cases_Bool (eqb n s)) [
  | inl y ↦
      let same = (Decides-eqb n s).0 y in
      let e : ◌≡◌ {A = ℕ} (cond (is_open (ended s st) n) 1 0) 0 = ap (λ (b : Bool). cond b 1 0) (ap (is_open (ended s st)) same ∙ ended-closed s st) in
      let f : ◌≡◌ {A = ℕ} (cond (is_open st n) 1 0) 1 = ap (λ (b : Bool). cond b 1 0) (ap (is_open st) same ∙ o) in
      gone (cond (is_open (ended s st) n) 1 0) (cond (is_open st n) 1 0) (open_below n (ended s st)) (open_below n st) e f (same-count n s st (omega arith))
  | inr d ↦
      let e : ◌≡◌ {A = ℕ} (cond (is_open (ended s st) n) 1 0) (cond (is_open st n) 1 0) = ap (λ (b : Bool). cond b 1 0) (ended-other s st n d) in
      let k : s < n = grind (arith, nat_tests) in
      other (cond (is_open (ended s st) n) 1 0) (cond (is_open st n) 1 0) (open_below n (ended s st)) (open_below n st) e (one-less n s st k o)
]
  where
    gone : (a b c d : ℕ) → a ≡ 0 → b ≡ 1 → c ≡ d → (a + c) + 1 ≡ b + d
    gone a b c d e f g = omega arith

    other : (a b c d : ℕ) → a ≡ b → c + 1 ≡ d → (a + c) + 1 ≡ b + d
    other a b c d e f = omega arith

-- each end in an order leaves one open transaction less
pub ends-count : (st : State) → DoEndsCount st
ends-count st n ss last h a = go ss st h a
  where
    go : (ss : List ℕ) (st : State) → AreOpenBelow n st → AreEnds ss st last → length ss + open_below n last ≡ open_below n st
    go [] st h a = let e = ap (open_below n) a in omega arith
    go (s ∷ ss) st h a =
        let r = go ss (ended s st) (ended-below n s st h) a.1 in
        let l = one-less n s st (h s a.0.0) a.0.0 in
        omega (arith, r, l)

-- so no order is longer than the number of open transactions
pub ends-short : (st last : State) (n : ℕ) (ss : List ℕ) → AreOpenBelow n st → AreEnds ss st last → length ss ≤ open_below n st
ends-short st last n ss h a = let e = ends-count st n ss last h a in omega arith

-- a session with a transaction ends in the order, or has it still afterwards
pub ends-or-open : (ss : List ℕ) (st last : State) (s : ℕ) → AreEnds ss st last → is_open st s ≡ true → Contains ss s ⊎ (is_open last s ≡ true)
ends-or-open [] st last s a o = inr (ap (λ (x : State). is_open x s) a ∙ o)
ends-or-open (u ∷ ss) st last s a o = elim (cases_Bool (eqb s u)) [
  | inl y ↦ inl (0, omega arith, sym ((Decides-eqb s u).0 y))
  | inr n ↦ elim (ends-or-open ss (ended u st) last s a.1 (ended-other u st s n ∙ o)) [
    | inl c ↦ inl (Contains-append_right (u ∷ []) ss s c)
    | inr k ↦ inr k
  ]
]

-- how they go on

-- after an order of ends the open sessions still have numbers below n
pub ends-below : (n : ℕ) (ss : List ℕ) (st last : State) → AreOpenBelow n st → AreEnds ss st last → AreOpenBelow n last
ends-below n [] st last h a = subst (AreOpenBelow n) (sym a) h
ends-below n (s ∷ ss) st last h a = ends-below n ss (ended s st) last (ended-below n s st h) a.1

-- one order of ends after another is an order of ends
pub ends-append : (ss ts : List ℕ) (st mid last : State) → AreEnds ss st mid → AreEnds ts mid last → AreEnds (ss ++ ts) st last
ends-append [] ts st mid last a b = subst (λ (x : State). AreEnds ts x last) a b
ends-append (s ∷ ss) ts st mid last a b = (a.0, ends-append ss ts (ended s st) mid last a.1 b)

-- either a session with a number below n can end, or each of them that is open waits
somebody : (n : ℕ) (st : State) → ((s : ℕ) × CanEnd st s) ⊎ ((s : ℕ) → s < n → is_open st s ≡ true → is_waiting st s ≡ true)
somebody zero st = inr (λ s l o. absurd (omega arith))
somebody (suc n) st = elim (somebody n st) [
  | inl c ↦ inl c
  | inr none ↦ go (is_open st n) (is_waiting st n) refl refl none
]
  where
    go : (a b : Bool) → is_open st n ≡ a → is_waiting st n ≡ b → ((s : ℕ) → s < n → is_open st s ≡ true → is_waiting st s ≡ true)
        → ((s : ℕ) × CanEnd st s) ⊎ ((s : ℕ) → s < suc n → is_open st s ≡ true → is_waiting st s ≡ true)
    go true false e f none = inl (n, (e, f))
    go true true e f none = inr (λ s l o. more s l o (cases_Bool (eqb s n)) (λ same. ap (is_waiting st) same ∙ f) none)
      where
        more : (s : ℕ) → s < suc n → is_open st s ≡ true → (eqb s n ≡ true) ⊎ (eqb s n ≡ false) → (s ≡ n → is_waiting st s ≡ true) → ((s : ℕ) → s < n → is_open st s ≡ true → is_waiting st s ≡ true) → is_waiting st s ≡ true
        more s l o (inl y) here none = here ((Decides-eqb s n).0 y)
        more s l o (inr d) here none = none s (grind (arith, nat_tests)) o
    go false b e f none = inr (λ s l o. more s l o (cases_Bool (eqb s n)) none)
      where
        more : (s : ℕ) → s < suc n → is_open st s ≡ true → (eqb s n ≡ true) ⊎ (eqb s n ≡ false) → ((s : ℕ) → s < n → is_open st s ≡ true → is_waiting st s ≡ true) → is_waiting st s ≡ true
        more s l o (inl y) none = let k = ap (is_open st) ((Decides-eqb s n).0 y) in absurd (cc)
        more s l o (inr d) none = none s (grind (arith, nat_tests)) o

-- there is a session that can end, or else nobody can
pub somebody-ends : (st : State) → CanSomebodyEnd st
somebody-ends st n h = elim (somebody n st) [ inl c ↦ inr c | inr none ↦ inl (λ s o. none s (h s o) o) ]

-- an order of ends after which nobody else can end
abbrev pub HasLastOrder : State → Type 0
HasLastOrder st = (ss : List ℕ) × (last : State) × AreEnds ss st last × CanNobodyEnd last

-- such an order is there: sessions end as long as one can, and there are m open ones at most
last-order : (m n : ℕ) (st : State) → AreOpenBelow n st → open_below n st ≤ m → HasLastOrder st
last-order zero n st h few = elim (somebody n st) [
  | inl c ↦ absurd (omega (arith, one-less n c.0 st (h c.0 c.1.0) c.1.0))
  | inr none ↦ ([], st, refl, λ s o. none s (h s o) o)
]
last-order (suc m) n st h few = elim (somebody n st) [
  | inl c ↦
      let r = last-order m n (ended c.0 st) (ended-below n c.0 st h) (omega (arith, one-less n c.0 st (h c.0 c.1.0) c.1.0)) in
      (c.0 ∷ r.0, r.1, (c.1, r.2), r.3)
  | inr none ↦ ([], st, refl, λ s o. none s (h s o) o)
]

-- such an order is there of every state
pub ends-last : (n : ℕ) (st : State) → AreOpenBelow n st → HasLastOrder st
ends-last n st h = last-order (open_below n st) n st h (omega arith)

-- every order of ends can be continued
pub ends-go_on : (st : State) → DoEndsGoOn st
ends-go_on st n ss mid h a =
    let r = ends-last n mid (ends-below n ss st mid h a) in
    (r.0, r.1, ends-append ss r.0 st mid r.1 a r.2, r.3)
