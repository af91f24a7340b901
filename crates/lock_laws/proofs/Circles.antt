-- A cycle of waits stays, whatever transactions of sessions end that don't wait.
use Rattle.std.proofs.Common.{◌≡◌, ℕ, Bool, true, false, cond, not, eqb, ◌&&◌, ◌||◌, inl, inr, List, [], ◌∷◌, ◌++◌, map, Option, None, refl, sym, ◌∙◌, ap, arith, subst}
use Rattle.std.proofs.lemmas.Bool.Decides.{Decides-eqb}
use Rattle.std.proofs.lemmas.Bool.{and_right, or_from, cases_Bool}
use Rattle.waits_for.specs.Walks.{IsWalk}
use Rattle.lock_rules.specs.State.{Claim, Table, State, held_mode, request_of, claims_of}
use Rattle.lock_rules.specs.Queue.{queue, fits, after_grant, granted_while_fitting, after_promotion, after_promotions}
use Rattle.lock_rules.specs.Waits.{conflicts, stands_before, keeps_waiting, waits_for, resource_of_request}
use Rattle.lock_rules.specs.Step.{without_claims, after_end}
use Rattle.lock_rules.specs.Sound.{IsOnce, times}
use Rattle.lock_rules.proofs.Lists.{eqb-refl, same_path-true, times-claims_but}
use Rattle.lock_rules.proofs.Walks.{has}
use Rattle.lock_rules.proofs.Alters.{Alters, true≢false, waits_for-alters}
use Rattle.lock_rules.proofs.Sound.{head-request, queue-rest, fits-tells, granted-alters}
use Rattle.lock_rules.proofs.Cuts.{left-alters}
use Rattle.lock_rules.proofs.Settle.{walk-waits}
use Rattle.lock_rules.proofs.Steps.{is-none}
use Rattle.lock_laws.specs.Ends.{ended, AreEnds, DoWaitsEnd, AreOpenBelow}
use Rattle.lock_laws.proofs.Orders.{ends-last}

-- a change of a session that waits for nobody

-- the session waits for nobody
abbrev WaitsForNobody : Table → ℕ → Type 0
WaitsForNobody t v = (w : ℕ) → waits_for t v w ≡ false

-- a session that waits for somebody isn't one that waits for nobody
source-other : (t : Table) (v : ℕ) → WaitsForNobody t v → (a b : ℕ) → waits_for t a b ≡ true → eqb a v ≡ false
source-other t v idle a b h = elim (cases_Bool (eqb a v)) [
  | inl y ↦ let same = (Decides-eqb a v).0 y in absurd (true≢false (rw same at h) (idle b))
  | inr n ↦ n
]

-- neither is the first session of a walk
first-other : (t : Table) (v : ℕ) → WaitsForNobody t v → (a : ℕ) (ws : List ℕ) (u : ℕ) → IsWalk (waits_for t) a ws u → eqb a v ≡ false
first-other t v idle a [] u walk = source-other t v idle a u walk
first-other t v idle a (w ∷ ws) u walk = source-other t v idle a w walk.0

-- a walk to another session stays if v, which waits for nobody, changes
walk-kept : (v : ℕ) (t t' : Table) → Alters v t t' → WaitsForNobody t v → (a : ℕ) (ws : List ℕ) (u : ℕ) → eqb u v ≡ false → IsWalk (waits_for t) a ws u → IsWalk (waits_for t') a ws u
walk-kept v t t' al idle a [] u n walk = waits_for-alters v t t' al a u (source-other t v idle a u walk) n ∙ walk
walk-kept v t t' al idle a (w ∷ ws) u n walk = (waits_for-alters v t t' al a w (source-other t v idle a w walk.0) (first-other t v idle w ws u walk.1) ∙ walk.0, walk-kept v t t' al idle w ws u n walk.1)

-- every cycle stays, and no session gets a second request
pub record KeepsCircles (t t' : Table) : Type 0 where
  pub once : IsOnce t'.requests
  pub circles : (s : ℕ) (ws : List ℕ) → IsWalk (waits_for t) s ws s → IsWalk (waits_for t') s ws s

-- `KeepsCircles` holds if nothing changes
keeps-refl : (t : Table) → IsOnce t.requests → KeepsCircles t t
keeps-refl t o = record { once = o; circles = λ s ws walk. walk }

-- `KeepsCircles` holds of two changes, one after the other, if it holds of each
keeps-trans : (t u w : Table) → KeepsCircles t u → KeepsCircles u w → KeepsCircles t w
keeps-trans t u w a b = record { once = b.once; circles = λ s ws walk. b.circles s ws (a.circles s ws walk) }

-- after a change no session has two requests, if none had before
pub once-alters : (v : ℕ) (t t' : Table) → Alters v t t' → IsOnce t.requests → IsOnce t'.requests
once-alters v t t' a o s = omega (arith, times-claims_but s v t.requests, o s, ap (times s) a.requests)

-- a change of a session that waits for nobody keeps cycles
keeps-alters : (v : ℕ) (t t' : Table) → Alters v t t' → WaitsForNobody t v → IsOnce t.requests → KeepsCircles t t'
keeps-alters v t t' a idle o = record {
  once = once-alters v t t' a o;
  circles = λ s ws walk. walk-kept v t t' a idle s ws s (first-other t v idle s ws s walk) walk;
}

-- a session without a request waits for nobody
free-idle : (t : Table) (s : ℕ) → request_of s t.requests ≡ None → WaitsForNobody t s
free-idle t s e w = ap (λ (o : Option Claim). not (eqb w s) && keeps_waiting t w o) e ∙ and_right (not (eqb w s)) false refl

-- promotions

-- a request that is first in its queue and fits waits for nobody
head-idle : (t : Table) (r : List ℕ) (q : Claim) (qs : List Claim) → IsOnce t.requests → queue t r ≡ q ∷ qs → fits t q.session q.resource q.mode ≡ true → WaitsForNobody t q.session
head-idle t r q qs o e fit w = elim (cases_Bool (eqb w q.session)) [
  | inl y ↦ ap (λ (b : Bool). not b && keeps_waiting t w (request_of q.session t.requests)) y
  | inr n ↦
      let h = head-request t r q qs o e in
      let path = same_path-true q.resource r h.1 in
      let behind = ap (λ (b : Bool). cond b false (eqb q.session w || stands_before w q.session qs)) (eqb-refl q.session) in
      let none = ap (λ (x : List ℕ). stands_before w q.session (queue t x)) path ∙ (ap (stands_before w q.session) e ∙ behind) in
      ap (λ (c : Option Claim). not (eqb w q.session) && keeps_waiting t w c) h.0
      ∙ (ap (λ (b : Bool). not (eqb w q.session) && b) (or_from (conflicts q.mode (held_mode t w q.resource)) (stands_before w q.session (queue t q.resource)) (fits-tells t q.session q.resource q.mode fit w n) none)
      ∙ and_right (not (eqb w q.session)) false refl)
]

-- granting a queue up to the first request that doesn't fit keeps cycles
front-keeps : (r : List ℕ) (qs : List Claim) (t : Table) → IsOnce t.requests → queue t r ≡ qs → KeepsCircles t (granted_while_fitting qs t)
front-keeps r [] t o e = keeps-refl t o
front-keeps r (q ∷ qs) t o e = go (fits t q.session q.resource q.mode) refl (λ p f. front-keeps r qs (after_grant q.session q.resource q.mode t) p f)
  where
    go : (b : Bool) → fits t q.session q.resource q.mode ≡ b
        → (IsOnce (after_grant q.session q.resource q.mode t).requests → queue (after_grant q.session q.resource q.mode t) r ≡ qs → KeepsCircles (after_grant q.session q.resource q.mode t) (granted_while_fitting qs (after_grant q.session q.resource q.mode t)))
        → KeepsCircles t (cond b (granted_while_fitting qs (after_grant q.session q.resource q.mode t)) t)
    go false f next = keeps-refl t o
    go true f next =
        let a = granted-alters q.session q.resource q.mode t in
        let first = keeps-alters q.session t (after_grant q.session q.resource q.mode t) a (head-idle t r q qs o e f) o in
        keeps-trans t (after_grant q.session q.resource q.mode t) (granted_while_fitting qs (after_grant q.session q.resource q.mode t)) first (next first.once (queue-rest t (after_grant q.session q.resource q.mode t) r q qs o e a))

-- promotions keep cycles
pub all-keep : (rs : List (List ℕ)) (t : Table) → IsOnce t.requests → KeepsCircles t (after_promotions rs t)
all-keep [] t o = keeps-refl t o
all-keep (r ∷ rs) t o =
    let first = front-keeps r (queue t r) t o refl in
    keeps-trans t (after_promotion r t) (after_promotions rs (after_promotion r t)) first (all-keep rs (after_promotion r t) first.once)

-- ends

-- the end of a transaction whose session doesn't wait keeps cycles
end-keeps : (s : ℕ) (t : Table) → request_of s t.requests ≡ None → IsOnce t.requests → KeepsCircles t (after_end s t)
end-keeps s t free o =
    let first = keeps-alters s t (without_claims s t) (left-alters s t) (free-idle t s free) o in
    keeps-trans t (without_claims s t) (after_end s t) first
    (all-keep (resource_of_request (request_of s t.requests) ++ map (λ (c : Claim). c.resource) (claims_of s t.held)) (without_claims s t) first.once)

-- so does every order of ends
pub ends-keep : (ss : List ℕ) (st last : State) → IsOnce st.table.requests → AreEnds ss st last → KeepsCircles st.table last.table
ends-keep [] st last o a = subst (λ (x : State). KeepsCircles st.table x.table) (sym a) (keeps-refl st.table o)
ends-keep (s ∷ ss) st last o a =
    let first = end-keeps s st.table (is-none (request_of s st.table.requests) a.0.1) o in
    keeps-trans st.table (after_end s st.table) last.table first (ends-keep ss (ended s st) last first.once a.1)

-- a session on a cycle has a request
circle-waits : (t : Table) (s : ℕ) (ws : List ℕ) → IsWalk (waits_for t) s ws s → t.requests ≡ [] → ⊥
circle-waits t s ws walk e = true≢false (walk-waits t s ws s walk) (ap (λ (qs : List Claim). has s (map (λ (q : Claim). q.session) qs)) e)

-- if there is a cycle, waits don't end by themselves
pub circles-stay : (n : ℕ) (st : State) → AreOpenBelow n st → IsOnce st.table.requests → DoWaitsEnd st → (s : ℕ) (ws : List ℕ) → IsWalk (waits_for st.table) s ws s → ⊥
circles-stay n st below o ends s ws walk =
    let l = ends-last n st below in
    let k = ends-keep l.0 st l.1 o l.2 in
    circle-waits l.1.table s ws (k.circles s ws walk) (ends l.0 l.1 l.2 l.3)
