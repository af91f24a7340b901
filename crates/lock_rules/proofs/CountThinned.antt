-- What calls do to the waiting requests: they add one at most, and otherwise leave those of some sessions out.
use Rattle.std.proofs.Common.{◌≡◌, ℕ, zero, suc, ◌+◌, Bool, true, false, cond, not, eqb, ◌&&◌, inl, inr, List, [], ◌∷◌, ◌++◌, map, Option, Some, is_some, filter, refl, sym, ◌∙◌, ap, arith}
use Rattle.std.proofs.lemmas.Bool.Decides.{Decides-eqb}
use Rattle.std.proofs.lemmas.Bool.{cases_Bool, and_right}
use Rattle.sequential.proofs.Members.{Member}
use Rattle.lock_rules.specs.State.{Claim, Table, State, request_of, claims_of, claims_but}
use Rattle.lock_rules.specs.Queue.{queue, fits, after_grant, granted_while_fitting, after_promotion, after_promotions}
use Rattle.lock_rules.specs.Waits.{resource_of_request, without_request, reaches, victim_of, after_cancel, after_victim, after_victims}
use Rattle.lock_rules.specs.Step.{without_claims, after_end}
use Rattle.lock_rules.specs.Sound.{times}
use Rattle.lock_rules.proofs.Lists.{eqb-refl, request_of-claims_but}
use Rattle.lock_rules.specs.Counts.{count_if}

-- the second requests are those of the first whose sessions pass a test
pub record IsThinned (qs rs : List Claim) : Type 0 where
  pub keeps : ℕ → Bool
  pub is : rs ≡ filter (λ (q : Claim). keeps q.session) qs

-- a filter that keeps all
filter-all : (qs : List Claim) → qs ≡ filter (λ (q : Claim). true) qs
filter-all [] = refl
filter-all (q ∷ qs) = ap (λ (xs : List Claim). q ∷ xs) (filter-all qs)

-- nothing is left out
pub thin-same : (qs : List Claim) → IsThinned qs qs
thin-same qs = record { keeps = λ s. true; is = filter-all qs }

-- a filter of a filter
filter-twice : (a b : ℕ → Bool) (qs : List Claim) → filter (λ (q : Claim). b q.session) (filter (λ (q : Claim). a q.session) qs) ≡ filter (λ (q : Claim). a q.session && b q.session) qs
filter-twice a b [] = refl
filter-twice a b (q ∷ qs) = go (a q.session) (filter-twice a b qs)
  where
    go : (c : Bool) → filter (λ (q : Claim). b q.session) (filter (λ (q : Claim). a q.session) qs) ≡ filter (λ (q : Claim). a q.session && b q.session) qs
        → filter (λ (q : Claim). b q.session) (cond c (q ∷ filter (λ (q : Claim). a q.session) qs) (filter (λ (q : Claim). a q.session) qs))
        ≡ cond (c && b q.session) (q ∷ filter (λ (q : Claim). a q.session && b q.session) qs) (filter (λ (q : Claim). a q.session && b q.session) qs)
    go true e = ap (λ (xs : List Claim). cond (b q.session) (q ∷ xs) xs) e
    go false e = e

-- one after the other
pub thin-then : (qs rs us : List Claim) → IsThinned qs rs → IsThinned rs us → IsThinned qs us
thin-then qs rs us a b = record {
  keeps = λ s. a.keeps s && b.keeps s;
  is = b.is ∙ ap (filter (λ (q : Claim). b.keeps q.session)) a.is ∙ filter-twice a.keeps b.keeps qs;
}

-- the requests of all sessions but one
pub thin-but : (s : ℕ) (qs : List Claim) → IsThinned qs (claims_but s qs)
thin-but s qs = record { keeps = λ u. not (eqb u s); is = refl }

-- grants up to the first request that doesn't fit
pub thin-front : (qs : List Claim) (t : Table) → IsThinned t.requests (granted_while_fitting qs t).requests
thin-front [] t = thin-same t.requests
thin-front (q ∷ qs) t = go (fits t q.session q.resource q.mode)
    (thin-then t.requests (claims_but q.session t.requests) (granted_while_fitting qs (after_grant q.session q.resource q.mode t)).requests
    (thin-but q.session t.requests) (thin-front qs (after_grant q.session q.resource q.mode t)))
  where
    go : (b : Bool) → IsThinned t.requests (granted_while_fitting qs (after_grant q.session q.resource q.mode t)).requests
        → IsThinned t.requests (cond b (granted_while_fitting qs (after_grant q.session q.resource q.mode t)) t).requests
    go true k = k
    go false k = thin-same t.requests

-- promotions
pub thin-promotions : (rs : List (List ℕ)) (t : Table) → IsThinned t.requests (after_promotions rs t).requests
thin-promotions [] t = thin-same t.requests
thin-promotions (r ∷ rs) t = thin-then t.requests (after_promotion r t).requests (after_promotions rs (after_promotion r t)).requests
    (thin-front (queue t r) t) (thin-promotions rs (after_promotion r t))

-- a cancelled request
pub thin-cancel : (s : ℕ) (t : Table) → IsThinned t.requests (after_cancel s t).requests
thin-cancel s t = thin-then t.requests (claims_but s t.requests) (after_cancel s t).requests (thin-but s t.requests)
    (thin-promotions (resource_of_request (request_of s t.requests)) (without_request s t))

-- the end of a transaction
pub thin-end : (s : ℕ) (t : Table) → IsThinned t.requests (after_end s t).requests
thin-end s t = thin-then t.requests (claims_but s t.requests) (after_end s t).requests (thin-but s t.requests)
    (thin-promotions (resource_of_request (request_of s t.requests) ++ map (λ (c : Claim). c.resource) (claims_of s t.held)) (without_claims s t))

-- victims one after another
pub thin-victims : (n s : ℕ) (st : State) → IsThinned st.table.requests (after_victims n s st).table.requests
thin-victims zero s st = thin-same st.table.requests
thin-victims (suc n) s st = go (reaches st.table s s)
    (thin-then st.table.requests (after_victim (victim_of st s) st).table.requests (after_victims n s (after_victim (victim_of st s) st)).table.requests
    (thin-cancel (victim_of st s) st.table) (thin-victims n s (after_victim (victim_of st s) st)))
  where
    go : (b : Bool) → IsThinned st.table.requests (after_victims n s (after_victim (victim_of st s) st)).table.requests
        → IsThinned st.table.requests (cond b (after_victims n s (after_victim (victim_of st s) st)) st).table.requests
    go true k = k
    go false k = thin-same st.table.requests

-- who waits

-- a session waits after requests were left out exactly if it waited before and its own was kept
pub waits-thinned : (u : ℕ) (keeps : ℕ → Bool) (qs : List Claim) → is_some (request_of u (filter (λ (q : Claim). keeps q.session) qs)) ≡ (is_some (request_of u qs) && keeps u)
waits-thinned u keeps [] = refl
waits-thinned u keeps (q ∷ qs) = elim (cases_Bool (eqb q.session u)) [
  | inl y ↦ own y (keeps q.session) (ap keeps ((Decides-eqb q.session u).0 y)) (waits-thinned u keeps qs)
  | inr n ↦ another n (keeps q.session) (waits-thinned u keeps qs)
]
  where
    rest : List Claim
    rest = filter (λ (q : Claim). keeps q.session) qs

    first : (b : Bool) → eqb q.session u ≡ b → (xs : List Claim) → is_some (request_of u (q ∷ xs)) ≡ is_some (cond b (Some q) (request_of u xs))
    first b e xs = ap (λ (c : Bool). is_some (cond c (Some q) (request_of u xs))) e

    own : eqb q.session u ≡ true → (k : Bool) → k ≡ keeps u → is_some (request_of u rest) ≡ (is_some (request_of u qs) && keeps u)
        → is_some (request_of u (cond k (q ∷ rest) rest)) ≡ (is_some (request_of u (q ∷ qs)) && keeps u)
    own y true f e = first true y rest ∙ f ∙ sym (ap (λ (b : Bool). b && keeps u) (first true y qs))
    own y false f e =
        e ∙ and_right (is_some (request_of u qs)) (keeps u) (sym f)
        ∙ sym (and_right (is_some (request_of u (q ∷ qs))) (keeps u) (sym f))

    another : eqb q.session u ≡ false → (k : Bool) → is_some (request_of u rest) ≡ (is_some (request_of u qs) && keeps u)
        → is_some (request_of u (cond k (q ∷ rest) rest)) ≡ (is_some (request_of u (q ∷ qs)) && keeps u)
    another n true e = first false n rest ∙ e ∙ sym (ap (λ (b : Bool). b && keeps u) (first false n qs))
    another n false e = e ∙ sym (ap (λ (b : Bool). b && keeps u) (first false n qs))

-- a session that didn't wait doesn't wait after requests were left out
pub thinned-waits-not : (u : ℕ) (qs rs : List Claim) → IsThinned qs rs → is_some (request_of u qs) ≡ false → is_some (request_of u rs) ≡ false
thinned-waits-not u qs rs t h =
    ap (λ (xs : List Claim). is_some (request_of u xs)) t.is ∙ waits-thinned u t.keeps qs ∙ ap (λ (b : Bool). b && t.keeps u) h

-- a session whose request is cancelled doesn't wait
pub cancelled-waits-not : (s : ℕ) (t : Table) → is_some (request_of s (after_cancel s t).requests) ≡ false
cancelled-waits-not s t =
    thinned-waits-not s (claims_but s t.requests) (after_cancel s t).requests
    (thin-promotions (resource_of_request (request_of s t.requests)) (without_request s t))
    (ap (λ (o : Option Claim). is_some o) (request_of-claims_but s t.requests))

-- a session that has a request waits
pub member-waits : (q : Claim) (qs : List Claim) → Member q qs → is_some (request_of q.session qs) ≡ true
member-waits q [] k = absurd k
member-waits q (x ∷ qs) k = elim (cases_Bool (eqb x.session q.session)) [
  | inl y ↦ ap (λ (b : Bool). is_some (cond b (Some x) (request_of q.session qs))) y
  | inr n ↦ ap (λ (b : Bool). is_some (cond b (Some x) (request_of q.session qs))) n ∙ behind n k (member-waits q qs)
]
  where
    behind : eqb x.session q.session ≡ false → Member q (x ∷ qs) → (Member q qs → is_some (request_of q.session qs) ≡ true) → is_some (request_of q.session qs) ≡ true
    behind n (inl e) next = let f : eqb x.session q.session ≡ true = ap (λ (y : Claim). eqb y.session q.session) e ∙ eqb-refl q.session in absurd (cc)
    behind n (inr j) next = next j

-- how many requests a session has, by two ways to count
pub times-count : (s : ℕ) (qs : List Claim) → times s qs ≡ count_if (λ (q : Claim). eqb q.session s) qs
times-count s [] = refl
times-count s (q ∷ qs) = omega (arith, times-count s qs)
