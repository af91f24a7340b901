-- A promotion grants the longest front of the queue in which each request fits once those before it are granted.
use Rattle.std.proofs.Common.{◌≡◌, ℕ, ◌≤◌, Bool, true, false, cond, List, [], ◌∷◌, ◌++◌, length, refl, sym, ◌∙◌, ap, arith, subst}
use Rattle.lock_rules.specs.State.{Claim, Table}
use Rattle.lock_rules.specs.Queue.{queue, fits, after_grant, granted_while_fitting, after_promotion, after_promotions}
use Rattle.lock_rules.specs.Laws.{after_grants, IsFront, EachFits, DoesPromotionGrantLongest, ArePromotionsLongest}
use Rattle.lock_rules.proofs.Alters.{true≢false}

-- the requests granted one by one, up to the first that doesn't fit, are the longest front that fits
record IsGranted (qs : List Claim) (t : Table) : Type 0 where
  front : List Claim
  front_of_all : IsFront front qs
  each_fits : EachFits t front
  longest : (other : List Claim) → IsFront other qs → EachFits t other → length other ≤ length front
  grants_these : granted_while_fitting qs t ≡ after_grants front t

-- the empty list has no element
no-cons : (before rest : List Claim) (q : Claim) → [] ≡ before ++ q ∷ rest → ⊥
no-cons [] rest q e = cc
no-cons (b ∷ before) rest q e = cc

-- in the empty front each request fits
none-fits : (t : Table) → EachFits t []
none-fits t before rest q e = absurd (no-cons before rest q e)

-- the empty queue has no longer front
none-longer : (other : List Claim) → IsFront other [] → length other ≤ 0
none-longer [] f = omega arith
none-longer (c ∷ other) f = let e = f.1 in absurd (cc)

-- if the head doesn't fit, only the empty front fits
stops : (q : Claim) (qs : List Claim) (t : Table) → fits t q.session q.resource q.mode ≡ false → (other : List Claim) → IsFront other (q ∷ qs) → EachFits t other → length other ≤ 0
stops q qs t n [] f e = omega arith
stops q qs t n (c ∷ other) f e =
    let k = f.1 in
    let same : c ≡ q = cc in
    absurd (true≢false (ap (λ (p : Claim). fits t p.session p.resource p.mode) (sym same) ∙ e [] other c refl) n)

-- if the head fits, and the front behind it does after its grant, both together fit
goes_on-fits : (q : Claim) (t : Table) (front : List Claim) → fits t q.session q.resource q.mode ≡ true → EachFits (after_grant q.session q.resource q.mode t) front → EachFits t (q ∷ front)
goes_on-fits q t front y e [] rest p k = let same : q ≡ p = cc in ap (λ (c : Claim). fits t c.session c.resource c.mode) (sym same) ∙ y
goes_on-fits q t front y e (b ∷ before) rest p k =
    let same : q ≡ b = cc in
    let tail : front ≡ before ++ p ∷ rest = cc in
    ap (λ (c : Claim). fits (after_grants before (after_grant c.session c.resource c.mode t)) p.session p.resource p.mode) (sym same) ∙ e before rest p tail

-- if the front behind the head is the longest there, both together are the longest
goes_on-longest : (q : Claim) (qs : List Claim) (t : Table) (front : List Claim) → ((other : List Claim) → IsFront other qs → EachFits (after_grant q.session q.resource q.mode t) other → length other ≤ length front)
    → (other : List Claim) → IsFront other (q ∷ qs) → EachFits t other → length other ≤ length (q ∷ front)
goes_on-longest q qs t front h [] f e = omega arith
goes_on-longest q qs t front h (c ∷ other) f e =
    let k = f.1 in
    let same : c ≡ q = cc in
    let tail : qs ≡ other ++ f.0 = cc in
    let shorter = h other (f.0, tail) (λ before rest p g. ap (λ (d : Claim). fits (after_grants before (after_grant d.session d.resource d.mode t)) p.session p.resource p.mode) (sym same) ∙ e (c ∷ before) rest p (ap (λ (xs : List Claim). c ∷ xs) g)) in
    omega (arith, shorter)

-- `IsGranted` holds of every list of requests
granted_front-granted : (qs : List Claim) (t : Table) → IsGranted qs t
granted_front-granted [] t = record { front = []; front_of_all = ([], refl); each_fits = none-fits t; longest = λ other f e. none-longer other f; grants_these = refl }
granted_front-granted (q ∷ qs) t = go (fits t q.session q.resource q.mode) refl (granted_front-granted qs (after_grant q.session q.resource q.mode t))
  where
    go : (b : Bool) → fits t q.session q.resource q.mode ≡ b → IsGranted qs (after_grant q.session q.resource q.mode t) → IsGranted (q ∷ qs) t
    go false e next = record {
      front = [];
      front_of_all = (q ∷ qs, refl);
      each_fits = none-fits t;
      longest = stops q qs t e;
      grants_these = ap (λ (b : Bool). cond b (granted_while_fitting qs (after_grant q.session q.resource q.mode t)) t) e;
    }
    go true e next = record {
      front = q ∷ next.front;
      front_of_all = (next.front_of_all.0, ap (λ (xs : List Claim). q ∷ xs) next.front_of_all.1);
      each_fits = goes_on-fits q t next.front e next.each_fits;
      longest = goes_on-longest q qs t next.front next.longest;
      grants_these = ap (λ (b : Bool). cond b (granted_while_fitting qs (after_grant q.session q.resource q.mode t)) t) e ∙ next.grants_these;
    }

-- a promotion grants the longest front that fits
pub promotion-longest : (t : Table) → DoesPromotionGrantLongest t
promotion-longest t r =
    let g = granted_front-granted (queue t r) t in
    (g.front, (record { front_of_queue = g.front_of_all; each_fits = g.each_fits; longest = g.longest }, g.grants_these))

-- promotions grant the longest front that fits, one resource after another
pub promotions-longest : (rs : List (List ℕ)) (t : Table) → ArePromotionsLongest rs t (after_promotions rs t)
promotions-longest [] t = refl
promotions-longest (r ∷ rs) t =
    let p = promotion-longest t r in
    (p.0, p.1.0, subst (λ (x : Table). ArePromotionsLongest rs x (after_promotions rs (after_promotion r t))) p.1.1 (promotions-longest rs (after_promotion r t)))
