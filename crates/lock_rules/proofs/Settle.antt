-- Victims are chosen while a cycle goes through the asker. The search ends and leaves no cycle.
use Rattle.std.proofs.Common.{◌≡◌, ℕ, zero, suc, ◌<◌, ◌≤◌, Bool, true, false, cond, eqb, ltb, ◌&&◌, ◌||◌, List, [], ◌∷◌, length, Some, refl, ap, arith, map}
use Rattle.std.specs.Prelude.{filter}
use Rattle.std.proofs.lemmas.Bool.Decides.{nat_tests, Decides-eqb}
use Rattle.std.proofs.lemmas.Bool.{and_parts, and_from, or_right, cases_Bool}
use Rattle.waits_for.specs.Walks.{IsWalk, Reaches}
use Rattle.lock_rules.specs.State.{Claim, Table, State, request_of}
use Rattle.lock_rules.specs.Waits.{waits_for, reaches, waiting_sessions, youngest_of, victim_of, after_victim, after_cancel, after_victims}
use Rattle.lock_rules.specs.Sound.{IsSound}
use Rattle.lock_rules.proofs.Walks.{has, walk-found}
use Rattle.lock_rules.proofs.Lists.{eqb-refl}
use Rattle.lock_rules.proofs.Alters.{NoCircle, beside, no_circle-from, none-reached, walk-tested, waits_for-waits}
use Rattle.lock_rules.proofs.Sound.{UnfitAt}
use Rattle.lock_rules.proofs.Promote.{Follows, follows-refl, follows-trans}
use Rattle.lock_rules.proofs.Cuts.{IsQuiescent, cancelled-follows, cancelled-unfit, cancelled-fewer}

-- the youngest of a list passes every test that all of the list pass
youngest-pick : (p : ℕ → Bool) (age : ℕ → ℕ) (best : ℕ) (vs : List ℕ) → p best ≡ true → ((v : ℕ) → has v vs ≡ true → p v ≡ true) → p (youngest_of age best vs) ≡ true
youngest-pick p age best [] h k = h
youngest-pick p age best (v ∷ vs) h k = youngest-pick p age (cond (ltb (age best) (age v)) v best) vs (pick (ltb (age best) (age v))) (λ u e. k u (or_right (eqb v u) (has u vs) e))
  where
    pick : (b : Bool) → p (cond b v best) ≡ true
    pick true = k v (ap (λ (b : Bool). b || has v vs) (eqb-refl v))
    pick false = h

-- the youngest is no older than the session that the search starts from
youngest-best : (age : ℕ → ℕ) (best : ℕ) (vs : List ℕ) → age best ≤ age (youngest_of age best vs)
youngest-best age best [] = omega arith
youngest-best age best (v ∷ vs) = go (ltb (age best) (age v)) refl (λ b. youngest-best age b vs)
  where
    go : (b : Bool) → ltb (age best) (age v) ≡ b → ((b : ℕ) → age b ≤ age (youngest_of age b vs)) → age best ≤ age (youngest_of age (cond b v best) vs)
    go true e next = grind (arith, nat_tests, next v)
    go false e next = next best

-- no session of the list is younger than the youngest
pub youngest-most : (age : ℕ → ℕ) (best : ℕ) (vs : List ℕ) (u : ℕ) → has u vs ≡ true → age u ≤ age (youngest_of age best vs)
youngest-most age best [] u h = absurd (cc)
youngest-most age best (v ∷ vs) u h = go (eqb v u) (ltb (age best) (age v)) refl refl h (λ b k. youngest-most age b vs u k) (λ b. youngest-best age b vs)
  where
    go : (e b : Bool) → eqb v u ≡ e → ltb (age best) (age v) ≡ b → (e || has u vs) ≡ true → ((b : ℕ) → has u vs ≡ true → age u ≤ age (youngest_of age b vs)) → ((b : ℕ) → age b ≤ age (youngest_of age b vs)) → age u ≤ age (youngest_of age (cond b v best) vs)
    go false b f g k later first = later (cond b v best) k
    go true true f g k later first = let e = (Decides-eqb v u).0 f in rw (← e) (first v)
    go true false f g k later first = let e = (Decides-eqb v u).0 f in let n = first best in grind (arith, nat_tests)

-- v is on a cycle with s
abbrev pub on_circle : Table → ℕ → ℕ → Bool
on_circle t s v = reaches t s v && reaches t v s

-- a session kept by a filter is in the list and passes the test
has-filter : (p : ℕ → Bool) (v : ℕ) (vs : List ℕ) → has v (filter p vs) ≡ true → (has v vs ≡ true) × (p v ≡ true)
has-filter p v [] h = absurd (cc)
has-filter p v (x ∷ vs) h = grind (arith, nat_tests, cases_Bool (p x), has-filter p v vs)

-- a session in the list that passes the test is kept by the filter
pub filter-has : (p : ℕ → Bool) (v : ℕ) (vs : List ℕ) → has v vs ≡ true → p v ≡ true → has v (filter p vs) ≡ true
filter-has p v [] h k = h
filter-has p v (x ∷ vs) h k = grind (arith, nat_tests, cases_Bool (p x), filter-has p v vs)

-- the victim is on a cycle with the asker
pub victim-on : (st : State) (s : ℕ) → reaches st.table s s ≡ true → on_circle st.table s (victim_of st s) ≡ true
victim-on st s h = youngest-pick (on_circle st.table s) _ s (filter (on_circle st.table s) (waiting_sessions st.table)) (and_from (reaches st.table s s) (reaches st.table s s) h h) (λ v k. (has-filter (on_circle st.table s) v (waiting_sessions st.table) k).1)

-- if the bounded test says so, a walk leads there
pub reached-walk : (t : Table) (s u : ℕ) → reaches t s u ≡ true → Reaches (waits_for t) s u
reached-walk t s u h = let w = walk-found (waits_for t) (suc (length (waiting_sessions t))) (waiting_sessions t) s u h in record { others = w.0; walk = w.1 }

-- if a walk leads there, the bounded test says so
pub reaches-walk : (t : Table) (s u : ℕ) → Reaches (waits_for t) s u → reaches t s u ≡ true
reaches-walk t s u w = walk-tested t s w.others u w.walk

-- the session at the start of a walk waits
pub walk-waits : (t : Table) (s : ℕ) (ws : List ℕ) (u : ℕ) → IsWalk (waits_for t) s ws u → has s (waiting_sessions t) ≡ true
walk-waits t s [] u walk = waits_for-waits t s u walk
walk-waits t s (w ∷ ws) u walk = waits_for-waits t s w walk.0

-- a session among the waiting ones has a request
pub has-waits : (s : ℕ) (qs : List Claim) → has s (map (λ (q : Claim). q.session) qs) ≡ true → (q : Claim) × (request_of s qs ≡ Some q)
has-waits s [] h = absurd (cc)
has-waits s (q ∷ qs) h = go (eqb q.session s) refl h (has-waits s qs)
  where
    go : (b : Bool) → eqb q.session s ≡ b → (b || has s (map (λ (q : Claim). q.session) qs)) ≡ true → (has s (map (λ (q : Claim). q.session) qs) ≡ true → (q : Claim) × (request_of s qs ≡ Some q)) → (p : Claim) × (cond b (Some q) (request_of s qs) ≡ Some p)
    go true e k next = (q, refl)
    go false e k next = next k

-- the victim has a waiting request
pub victim-waits : (st : State) (s : ℕ) → reaches st.table s s ≡ true → (q : Claim) × (request_of (victim_of st s) st.table.requests ≡ Some q)
victim-waits st s h =
    let p = and_parts (reaches st.table s (victim_of st s)) (reaches st.table (victim_of st s) s) (victim-on st s h) in
    let w = reached-walk st.table (victim_of st s) s p.1 in
    has-waits (victim_of st s) st.table.requests (walk-waits st.table (victim_of st s) w.others s w.walk)

-- the table is as between two calls again, and no lock fell
pub record IsSettled (s : ℕ) (t t' : Table) : Type 0 where
  pub follows : Follows t t'
  pub lawful : IsQuiescent t'

-- with more rounds than requests no cycle is left
pub settled-lawful : (n s : ℕ) (st : State) → IsSound st.table → NoCircle (beside s (waits_for st.table)) → ((x : List ℕ) → UnfitAt st.table x) → length st.table.requests < n → IsSettled s st.table (after_victims n s st).table
settled-lawful zero s st i b h few = absurd (omega arith)
settled-lawful (suc n) s st i b h few = go (reaches st.table s s) refl (λ j c k few2. settled-lawful n s (after_victim (victim_of st s) st) j c k few2)
  where
    go : (r : Bool) → reaches st.table s s ≡ r
        → (IsSound (after_cancel (victim_of st s) st.table) → NoCircle (beside s (waits_for (after_cancel (victim_of st s) st.table))) → ((x : List ℕ) → UnfitAt (after_cancel (victim_of st s) st.table) x) → length (after_cancel (victim_of st s) st.table).requests < n → IsSettled s (after_cancel (victim_of st s) st.table) (after_victims n s (after_victim (victim_of st s) st)).table)
        → IsSettled s st.table (cond r (after_victims n s (after_victim (victim_of st s) st)) st).table
    go false e next = record { follows = follows-refl st.table i; lawful = record { sound = i; no_circle = no_circle-from (waits_for st.table) s b (none-reached st.table s e); unfit = h } }
    go true e next =
        let f = cancelled-follows (victim_of st s) st.table i in
        let w = victim-waits st s e in
        let r = next f.sound (f.circle_beside s b) (cancelled-unfit (victim_of st s) st.table i h) (omega (arith, cancelled-fewer (victim_of st s) st.table w.0 i w.1)) in
        record { follows = follows-trans st.table (after_cancel (victim_of st s) st.table) (after_victims n s (after_victim (victim_of st s) st)).table f r.follows; lawful = r.lawful }
