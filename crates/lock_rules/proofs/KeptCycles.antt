-- A victim's lost request, and the grants that follow, make no new cycle.
use Rattle.std.proofs.Common.{◌≡◌, ℕ, Bool, true, false, cond, eqb, inl, inr, List, [], ◌∷◌, sym, ◌∙◌, ap}
use Rattle.std.proofs.lemmas.Bool.{cases_Bool}
use Rattle.std.proofs.lemmas.Bool.Decides.{Decides-eqb}
use Rattle.waits_for.specs.Walks.{IsWalk, AreOnCircle}
use Rattle.lock_rules.specs.State.{Claim, Table, State, request_of}
use Rattle.lock_rules.specs.Queue.{queue, fits, after_grant, granted_while_fitting, after_promotion, after_promotions}
use Rattle.lock_rules.specs.Waits.{waits_for, resource_of_request, without_request, after_cancel, after_victim}
use Rattle.lock_rules.specs.Laws.{AreVictims}
use Rattle.lock_rules.specs.Effects.{IsAmong}
use Rattle.lock_rules.proofs.Alters.{Alters, true≢false, waits_for-alters, waits_for-gone}
use Rattle.lock_rules.proofs.Sound.{granted-alters, no_more-alters}

-- one change

module _ (v : ℕ) (t t' : Table) (a : Alters v t t') where
  -- a session that waits for another after the change isn't v
  waits-apart : (s u : ℕ) → waits_for t' s u ≡ true → eqb s v ≡ false
  waits-apart s u h = elim (cases_Bool (eqb s v)) [
    | inl y ↦ absurd (true≢false h (ap (λ (i : ℕ). waits_for t' i u) ((Decides-eqb s v).0 y) ∙ waits_for-gone v t t' a u))
    | inr n ↦ n
  ]

  -- nor is a session from which a walk leads on
  pub walk-apart : (s : ℕ) (ws : List ℕ) (u : ℕ) → IsWalk (waits_for t') s ws u → eqb s v ≡ false
  walk-apart s [] u walk = waits-apart s u walk
  walk-apart s (w ∷ ws) u walk = waits-apart s w walk.0

  -- a walk to another session than v was one before
  walk-before : (s : ℕ) (ws : List ℕ) (u : ℕ) → eqb u v ≡ false → IsWalk (waits_for t') s ws u → IsWalk (waits_for t) s ws u
  walk-before s [] u n walk = sym (waits_for-alters v t t' a s u (waits-apart s u walk) n) ∙ walk
  walk-before s (w ∷ ws) u n walk = (sym (waits_for-alters v t t' a s w (waits-apart s w walk.0) (walk-apart w ws u walk.1)) ∙ walk.0, walk-before w ws u n walk.1)

  -- neither of two sessions on a cycle is v
  pub cycle-apart : (s u : ℕ) → AreOnCircle (waits_for t') s u → eqb u v ≡ false
  cycle-apart s u c = walk-apart u c.back.others s c.back.walk

  -- two sessions on a cycle were on one before
  pub cycle-before : (s u : ℕ) → AreOnCircle (waits_for t') s u → AreOnCircle (waits_for t) s u
  cycle-before s u c = record {
    there = record { others = c.there.others; walk = walk-before s c.there.others u (cycle-apart s u c) c.there.walk };
    back = record { others = c.back.others; walk = walk-before u c.back.others s (walk-apart s c.there.others u c.there.walk) c.back.walk };
  }

-- one change after another

-- all cycles of the second table are cycles of the first
abbrev pub IsNoCycleNew : Table → Table → Type 0
IsNoCycleNew t t' = (s u : ℕ) → AreOnCircle (waits_for t') s u → AreOnCircle (waits_for t) s u

-- grants make no new cycle
front-cycles : (qs : List Claim) (t : Table) → IsNoCycleNew t (granted_while_fitting qs t)
front-cycles [] t = λ s u c. c
front-cycles (q ∷ qs) t = go (front-cycles qs (after_grant q.session q.resource q.mode t)) (fits t q.session q.resource q.mode)
  where
    go : IsNoCycleNew (after_grant q.session q.resource q.mode t) (granted_while_fitting qs (after_grant q.session q.resource q.mode t))
        → (b : Bool) → IsNoCycleNew t (cond b (granted_while_fitting qs (after_grant q.session q.resource q.mode t)) t)
    go rest true = λ s u c. cycle-before q.session t (after_grant q.session q.resource q.mode t) (granted-alters q.session q.resource q.mode t) s u (rest s u c)
    go rest false = λ s u c. c

-- promotions make no new cycle
promoted-cycles : (rs : List (List ℕ)) (t : Table) → IsNoCycleNew t (after_promotions rs t)
promoted-cycles [] t = λ s u c. c
promoted-cycles (r ∷ rs) t = λ s u c. front-cycles (queue t r) t s u (promoted-cycles rs (after_promotion r t) s u c)

-- two sessions on a cycle after v's request is cancelled were on one before, and neither is v
pub cancelled-cycle : (v : ℕ) (t : Table) (s u : ℕ) → AreOnCircle (waits_for (after_cancel v t)) s u → AreOnCircle (waits_for t) s u × (eqb u v ≡ false)
cancelled-cycle v t s u c =
    let a = no_more-alters v t in
    let b = promoted-cycles (resource_of_request (request_of v t.requests)) (without_request v t) s u c in
    (cycle-before v t (without_request v t) a s u b, cycle-apart v t (without_request v t) a s u b)

-- each victim of those that are chosen one after another was on a cycle with s from the beginning
pub victims-on : (s : ℕ) (vs : List ℕ) (st last : State) → AreVictims s vs st last → (u : ℕ) → IsAmong u vs → AreOnCircle (waits_for st.table) s u
victims-on s [] st last a u i = absurd i
victims-on s (v ∷ vs) st last a u (inl e) = rw e a.0.on_circle
victims-on s (v ∷ vs) st last a u (inr i) = (cancelled-cycle v st.table s u (victims-on s vs (after_victim v st) last a.1 u i)).0
