-- Victims that are chosen on a copy of the waits-for graph, without the grants that the end of their waits brings about, are as many as
-- those of the state.
use Rattle.std.proofs.Common.{◌≡◌, ℕ, zero, suc, ◌+◌, ◌-◌, ◌≤◌, Bool, true, false, cond, not, eqb, ◌&&◌, ◌||◌, inl, inr, List, [], ◌∷◌, ◌++◌, length, Option, Some, None, refl, sym, ◌∙◌, ap, arith, subst}
use Rattle.std.specs.Prelude.{slice_index}
use Rattle.std.proofs.lemmas.Bool.{cases_Bool}
use Rattle.std.proofs.lemmas.Bool.Decides.{Decides-eqb}
use Rattle.std.proofs.Math.Bool.{and-true, and-false}
use Rattle.lock_tree.specs.Paths.{same_path}
use Rattle.waits_for.specs.Walks.{IsWalk, AreOnCircle, IsYoungestOnCircle}
use Rattle.waits_for.proofs.Walks.{walk-append}
use Rattle.lock_rules.specs.State as rules
use Rattle.lock_rules.specs.Queue.{queue, fits, after_grant, granted_while_fitting, after_promotions}
use Rattle.lock_rules.specs.Waits.{stands_before, keeps_waiting, waits_for, victim_of, resource_of_request, without_request, after_cancel, after_victim}
use Rattle.lock_rules.specs.Sound.{IsNumbered, IsSound}
use Rattle.lock_rules.proofs.Alters.{Alters, true≢false, waits_for-alters, waits_for-gone}
use Rattle.lock_rules.proofs.Cuts.{cancelled-follows}
use Rattle.lock_rules.proofs.Owners.{victim-numbers, victim-numbered}
use Rattle.lock_rules.proofs.Promote.{Follows, granted-follows}
use Rattle.lock_rules.proofs.Lists.{same_path-true}
use Rattle.lock_rules.proofs.Sound.{fits-tells, head-request, queue-rest, eqb-swap, altered-sound, granted-alters, no_more-alters}
use Rattle.lock_table.specs.Deadlocks.{deadlocked_states}
use Rattle.lock_table.specs.Noting.{cut, AreChosen}
use Rattle.lock_table.proofs.VictimRounds.{victim-found}

-- walks past a session

-- none of the list is one that the test tells
abbrev AllOff : (ℕ → Bool) → List ℕ → Type 0
AllOff bad [] = Unit {0}
AllOff bad (w ∷ ws) = (bad w ≡ false) × AllOff bad ws

-- a walk that meets none of these is one in a graph that differs in their edges alone
walk-same : (p q : ℕ → ℕ → Bool) (bad : ℕ → Bool) → ((x y : ℕ) → bad x ≡ false → bad y ≡ false → q x y ≡ p x y) → (x : ℕ) (ws : List ℕ) (y : ℕ) → bad x ≡ false → AllOff bad ws → bad y ≡ false → IsWalk p x ws y → IsWalk q x ws y
walk-same p q bad same x [] y f a g w = same x y f g ∙ w
walk-same p q bad same x (z ∷ ws) y f a g w = (same x z f a.0 ∙ w.0, walk-same p q bad same z ws y a.0 a.1 g w.1)

-- a walk meets none of them, if they have no edge
walk-off : (p : ℕ → ℕ → Bool) (bad : ℕ → Bool) → ((x y : ℕ) → bad x ≡ true → p x y ≡ false) → (x : ℕ) (ws : List ℕ) (y : ℕ) → IsWalk p x ws y → (bad x ≡ false) × AllOff bad ws
walk-off p bad idle x ws y w = go ws x w
  where
    free : (x z : ℕ) → p x z ≡ true → bad x ≡ false
    free x z e = elim (cases_Bool (bad x)) [
      | inl b ↦ absurd (true≢false e (idle x z b))
      | inr n ↦ n
    ]

    go : (ws : List ℕ) (x : ℕ) → IsWalk p x ws y → (bad x ≡ false) × AllOff bad ws
    go [] x w = (free x y w, tt)
    go (z ∷ ws) x w = let r = go ws z w.1 in (free x z w.0, (r.0, r.1))

-- closed walks of the first graph are closed walks of the second
abbrev pub Closed : (ℕ → ℕ → Bool) → (ℕ → ℕ → Bool) → Type 0
Closed p q = (x : ℕ) (ws : List ℕ) → IsWalk p x ws x → IsWalk q x ws x

-- as they are, if the edges are
pub closed-same : (p q : ℕ → ℕ → Bool) → ((x y : ℕ) → p x y ≡ q x y) → Closed p q
closed-same p q same x ws w = go ws x w
  where
    go : (ws : List ℕ) (y : ℕ) → IsWalk p y ws x → IsWalk q y ws x
    go [] y w = sym (same y x) ∙ w
    go (z ∷ ws) y w = (sym (same y z) ∙ w.0, go ws z w.1)

-- the second graph has the closed walks of the first that meet none of these
record IsCut (bad : ℕ → Bool) (p q : ℕ → ℕ → Bool) : Type 0 where
  back : Closed q p
  off : (x : ℕ) (ws : List ℕ) → IsWalk q x ws x → (bad x ≡ false) × AllOff bad ws
  fore : (x : ℕ) (ws : List ℕ) → bad x ≡ false → AllOff bad ws → IsWalk p x ws x → IsWalk q x ws x

-- if it has none of their edges, and else the edges of the first
cut-from : (bad : ℕ → Bool) (p q : ℕ → ℕ → Bool) → ((x y : ℕ) → bad x ≡ false → bad y ≡ false → q x y ≡ p x y) → ((x y : ℕ) → bad x ≡ true → q x y ≡ false) → IsCut bad p q
cut-from bad p q same idle = record {
  back = λ x ws w. let o = walk-off q bad idle x ws x w in walk-same q p bad (λ a b f g. sym (same a b f g)) x ws x o.0 o.1 o.0 w;
  off = λ x ws w. walk-off q bad idle x ws x w;
  fore = λ x ws f a w. walk-same p q bad same x ws x f a f w;
}

-- cuts of two graphs with the same closed walks have the same closed walks
cut-closed : (bad : ℕ → Bool) (p q p' q' : ℕ → ℕ → Bool) → IsCut bad p p' → IsCut bad q q' → Closed p q → Closed p' q'
cut-closed bad p q p' q' a b c x ws w = let o = a.off x ws w in b.fore x ws o.0 o.1 (c x ws (a.back x ws w))

-- graphs with the same closed walks have the same cycles
circle-closed : (p q : ℕ → ℕ → Bool) → Closed p q → (x u : ℕ) → AreOnCircle p x u → AreOnCircle q x u
circle-closed p q c x u h =
    let r = split h.there.others x (c x (h.there.others ++ u ∷ h.back.others) (walk-append p x h.there.others u h.back.others x h.there.walk h.back.walk)) in
    record { there = record { others = h.there.others; walk = r.0 }; back = record { others = h.back.others; walk = r.1 } }
  where
    split : (vs : List ℕ) (y : ℕ) → IsWalk q y (vs ++ u ∷ h.back.others) x → IsWalk q y vs u × IsWalk q u h.back.others x
    split [] y w = (w.0, w.1)
    split (v ∷ vs) y w = let r = split vs v w.1 in ((w.0, r.0), r.1)

-- and the same youngest session on them
youngest-closed : (p q : ℕ → ℕ → Bool) → Closed p q → Closed q p → (ages : List ℕ) (t v : ℕ) → IsYoungestOnCircle p ages t v → IsYoungestOnCircle q ages t v
youngest-closed p q there back ages t v y = record {
  on_circle = circle-closed p q there t v y.on_circle;
  greatest = λ u c. y.greatest u (circle-closed q p back t u c);
  least = λ u c e. y.least u (circle-closed q p back t u c) e;
}

-- the graph of a state

-- its edges by position
abbrev pub by_position : rules.Table → ℕ → ℕ → Bool
by_position t a b = waits_for t (a + 1) (b + 1)

-- a change by which a session waits no more cuts it off
alters-cut : (v : ℕ) (t t' : rules.Table) → Alters v t t' → IsCut (λ x. eqb (x + 1) v) (by_position t) (by_position t')
alters-cut v t t' a = cut-from (λ x. eqb (x + 1) v) (by_position t) (by_position t')
    (λ x y f g. waits_for-alters v t t' a (x + 1) (y + 1) f g)
    (λ x y e. ap (λ (i : ℕ). waits_for t' i (y + 1)) ((Decides-eqb (x + 1) v).0 e) ∙ waits_for-gone v t t' a (y + 1))

-- the first of a queue waits for nobody if it fits
head-idle : (t : rules.Table) (r : List ℕ) (q : rules.Claim) (qs : List rules.Claim) → IsSound t → queue t r ≡ q ∷ qs → fits t q.session q.resource q.mode ≡ true → (u : ℕ) → waits_for t q.session u ≡ false
head-idle t r q qs i e fit u = go (eqb u q.session) refl
  where
    request : (rules.request_of q.session t.requests ≡ Some q) × (same_path q.resource r ≡ true)
    request = head-request t r q qs i.once e

    first : queue t q.resource ≡ q ∷ qs
    first = ap (queue t) (same_path-true q.resource r request.1) ∙ e

    ahead : stands_before u q.session (q ∷ qs) ≡ false
    ahead = ap (λ (b : Bool). cond b false (eqb q.session u || stands_before u q.session qs)) ((Decides-eqb q.session q.session).1 refl)

    go : (b : Bool) → eqb u q.session ≡ b → (not b && keeps_waiting t u (rules.request_of q.session t.requests)) ≡ false
    go true f = refl
    go false f =
        ap (keeps_waiting t u) request.0
        ∙ ((λ j. fits-tells t q.session q.resource q.mode fit u f j || stands_before u q.session (first j)) ∙ ahead)

-- so grants leave the closed walks
grants-closed : (r : List ℕ) (qs : List rules.Claim) (t : rules.Table) → IsSound t → queue t r ≡ qs
    → Closed (by_position t) (by_position (granted_while_fitting qs t)) × Closed (by_position (granted_while_fitting qs t)) (by_position t)
grants-closed r [] t i e = (λ x ws w. w, λ x ws w. w)
grants-closed r (q ∷ qs) t i e = go (fits t q.session q.resource q.mode) refl (λ j f. grants-closed r qs next j f)
  where
    next : rules.Table
    next = after_grant q.session q.resource q.mode t

    request : (rules.request_of q.session t.requests ≡ Some q) × (same_path q.resource r ≡ true)
    request = head-request t r q qs i.once e

    go : (b : Bool) → fits t q.session q.resource q.mode ≡ b
        → (IsSound next → queue next r ≡ qs → Closed (by_position next) (by_position (granted_while_fitting qs next)) × Closed (by_position (granted_while_fitting qs next)) (by_position next))
        → Closed (by_position t) (by_position (cond b (granted_while_fitting qs next) t)) × Closed (by_position (cond b (granted_while_fitting qs next) t)) (by_position t)
    go false f more = (λ x ws w. w, λ x ws w. w)
    go true f more =
        let a = granted-alters q.session q.resource q.mode t in
        let c = alters-cut q.session t next a in
        let sound = (granted-follows q.session q.resource q.mode t i (i.raising q.session q request.0) (i.asked_under q.session q request.0) f).sound in
        let rest = more sound (queue-rest t next r q qs i.once e a) in
        let idle : (x y : ℕ) → eqb (x + 1) q.session ≡ true → by_position t x y ≡ false =
        λ x y b. ap (λ (k : ℕ). waits_for t k (y + 1)) ((Decides-eqb (x + 1) q.session).0 b) ∙ head-idle t r q qs i e f (y + 1) in (
          λ x ws w. let o = walk-off (by_position t) (λ z. eqb (z + 1) q.session) idle x ws x w in rest.0 x ws (c.fore x ws o.0 o.1 w),
          λ x ws w. c.back x ws (rest.1 x ws w),
        )

-- and a victim cuts off its own
cancelled-cut : (v : ℕ) (t : rules.Table) → IsSound t → IsCut (λ x. eqb (x + 1) v) (by_position t) (by_position (after_cancel v t))
cancelled-cut v t i =
    let a = alters-cut v t less (no_more-alters v t) in
    let g = promoted (rules.request_of v t.requests) in
    record {
      back = λ x ws w. a.back x ws (g.1 x ws w);
      off = λ x ws w. a.off x ws (g.1 x ws w);
      fore = λ x ws f o w. g.0 x ws (a.fore x ws f o w);
    }
  where
    less : rules.Table
    less = without_request v t

    sound : IsSound less
    sound = altered-sound v t less (no_more-alters v t) i (λ x k e. i.held_under v x k e) (λ u x k l m e f. i.agree v u x k l (eqb-swap u v m) e f)

    promoted : (o : Option rules.Claim) → Closed (by_position less) (by_position (after_promotions (resource_of_request o) less)) × Closed (by_position (after_promotions (resource_of_request o) less)) (by_position less)
    promoted None = (λ x ws w. w, λ x ws w. w)
    promoted (Some q) = grants-closed q.resource (queue less q.resource) less sound refl

-- a session without a request waits for nobody
unasked-idle : (t : rules.Table) → rules.request_of 0 t.requests ≡ None → (s u : ℕ) → waits_for t s u ≡ true → 1 ≤ s
unasked-idle t none zero u e = absurd (true≢false e (ap (λ (o : Option rules.Claim). not (eqb u 0) && keeps_waiting t u o) none ∙ and-false (not (eqb u 0))))
unasked-idle t none (suc s) u e = omega arith

-- the victims that are chosen on the copy, one after another, are no more than those of the state
pub chosen-ahead : (vs : List ℕ) (m s : ℕ) (st : rules.State) (p : ℕ → ℕ → Bool) (ages : List ℕ) → 1 ≤ s → IsSound st.table → IsNumbered st → rules.request_of 0 st.table.requests ≡ None → ((a : ℕ) → slice_index ages a ≡ rules.number_of st (a + 1))
    → Closed p (by_position st.table) → Closed (by_position st.table) p → AreChosen p ages (s - 1) vs → length vs ≤ m → length vs ≤ length (deadlocked_states m s st)
chosen-ahead [] m s st p ages one i j none told there back c few = omega arith
chosen-ahead (v ∷ vs) zero s st p ages one i j none told there back c few = absurd (omega (arith, few))
chosen-ahead (v ∷ vs) (suc m) s st p ages one i j none told there back c few =
    let f = victim-found (by_position st.table) ages st j (λ a b. refl) (unasked-idle st.table none) told s (v + 1) one (omega arith)
    (subst (IsYoungestOnCircle (by_position st.table) ages (s - 1)) same (youngest-closed p (by_position st.table) there back ages (s - 1) v c.0)) in
    let a = cut-from (λ x. eqb (x + 1) (v + 1)) p (cut p v) (λ x y f g. kept x y f) (λ x y e. gone x y e) in
    let b = cancelled-cut (v + 1) st.table i in
    let rest = chosen-ahead vs m s next (cut p v) ages one follows.sound (victim-numbered (v + 1) st j) (left (rules.request_of 0 next.table.requests) refl) (λ k. told k ∙ sym ((victim-numbers (v + 1) st).number (k + 1)))
    (cut-closed (λ x. eqb (x + 1) (v + 1)) p (by_position st.table) (cut p v) (by_position next.table) a b there)
    (cut-closed (λ x. eqb (x + 1) (v + 1)) (by_position st.table) p (by_position next.table) (cut p v) b a back)
    c.1 (omega (arith, few)) in
    let all : deadlocked_states (suc m) s st ≡ st ∷ deadlocked_states m s next =
    ap (λ (b : Bool). cond b (st ∷ deadlocked_states m s (after_victim (victim_of st s) st)) []) f.0 ∙ ap (λ (u : ℕ). st ∷ deadlocked_states m s (after_victim u st)) f.1 in
    omega (arith, rest, ap length all)
  where
    next : rules.State
    next = after_victim (v + 1) st

    follows : Follows st.table next.table
    follows = cancelled-follows (v + 1) st.table i

    same : v ≡ v + 1 - 1
    same = omega arith

    left : (o : Option rules.Claim) → rules.request_of 0 next.table.requests ≡ o → rules.request_of 0 next.table.requests ≡ None
    left None e = e
    left (Some q) e = let f = sym none ∙ follows.requests 0 q e in absurd (cc)

    number : (x : ℕ) (b : Bool) → eqb (x + 1) (v + 1) ≡ b → eqb x v ≡ b
    number x true e = (Decides-eqb x v).1 (omega (arith, (Decides-eqb (x + 1) (v + 1)).0 e))
    number x false e = elim (cases_Bool (eqb x v)) [
      | inl y ↦ absurd (true≢false ((Decides-eqb (x + 1) (v + 1)).1 (ap (λ (k : ℕ). k + 1) ((Decides-eqb x v).0 y))) e)
      | inr n ↦ n
    ]

    kept : (x y : ℕ) → eqb (x + 1) (v + 1) ≡ false → cut p v x y ≡ p x y
    kept x y e = ap (λ (b : Bool). p x y && not b) (number x false e) ∙ and-true (p x y)

    gone : (x y : ℕ) → eqb (x + 1) (v + 1) ≡ true → cut p v x y ≡ false
    gone x y e = ap (λ (b : Bool). p x y && not b) (number x true e) ∙ and-false (p x y)
