-- The abort of a session that doesn't wait ends as many waits as the listing says that it grants.
use Rattle.std.proofs.Common.{◌≡◌, ◌≢◌, ℕ, zero, suc, ◌+◌, ◌<◌, ◌≤◌, Bool, true, false, cond, not, eqb, leb, leb-true, ◌&&◌, ◌||◌, ◌⊎◌, inl, inr, List, [], ◌∷◌, ◌++◌, length, map, filter, Option, Some, None, is_some, refl, sym, ◌∙◌, ap, arith}
use Rattle.std.specs.Prelude.{All}
use Rattle.std.specs.List.{flat_map, list_any, range_with_len}
use Rattle.std.proofs.Math.Bool.{and-false}
use Rattle.std.proofs.lemmas.Bool.{and_parts}
use Rattle.std.proofs.lemmas.Bool.Decides.{nat_tests, Decides-eqb}
use Rattle.std.proofs.lemmas.List.Folds.{list_any-append}
use Rattle.lock_tree.specs.Paths.{same_path}
use Rattle.lock_rules.specs.declared.calls.Call.TheVariants.{Abort}
use Rattle.lock_rules.specs.declared.calls.Why.TheVariants.{NoTransaction}
use Rattle.lock_rules.specs.Entries.{Entry}
use Rattle.lock_rules.specs.State.{Claim, Table, State, held_mode, request_of, is_open, is_waiting}
use Rattle.lock_rules.specs.Queue.{queue}
use Rattle.lock_rules.specs.Waits.{resource_of_request}
use Rattle.lock_rules.specs.Step.{step, outcome_of, after_end}
use Rattle.lock_rules.specs.Legal.{state_of}
use Rattle.lock_rules.specs.Listing.{listed_on, listed_resources, listing_of}
use Rattle.lock_rules.specs.Ended.{ended_waits, has_ended}
use Rattle.lock_rules.specs.Sound.{IsOnce, IsSound, times as times_of}
use Rattle.lock_rules.proofs.Lists.{other, same_path-refl, same_path_tells, times-append, times-apart}
use Rattle.lock_rules.proofs.ResourceOrder.{contrary, is_among, not-behind, precedes, rise}
use Rattle.lock_rules.proofs.Cuts.{ended-lawful}
use Rattle.lock_rules.proofs.Steps.{state-lawful}
use Rattle.lock_rules.proofs.Taken.{claims-taken, none}
use Rattle.sequential.specs.Histories.{IsEntryWithin}
use Rattle.session_locks.specs.Resources.{has_path}
use Rattle.lock_holders.specs.SessionModes.{has_session, times, without}
use Rattle.lock_table.specs.declared.cells.GivenUp.TheVariants as claim
use Rattle.lock_table.specs.inner.Cells.{View, view_after_grants, view_after_freeing}
use Rattle.lock_table.specs.Changes.{view_after_unlock}
use Rattle.lock_table.specs.Shows.{short, claims_on, view}
use Rattle.lock_table.proofs.AfterStep.{ended-seen}
use Rattle.lock_table.proofs.LockCounts.{queue-has, waits_on-once}
use Rattle.lock_explain.proofs.SessionsOfAHistory.{all-inside}
use Rattle.lock_report.specs.Jam.{granted_by_abort, granted_on, jammed_behind}
use Rattle.lock_laws.specs.Listing.{AreSameSessions}
use Rattle.lock_laws.proofs.JamLines.{granted-by-lines, lines-on}
use Rattle.lock_laws.proofs.LinesGranted.{count, grants, grants-count, lines-granted}
use Rattle.lock_rules.proofs.Listings.{rise-resources, among-resources, or-true}
use Rattle.session_locks.proofs.ResourceLists.{same_path-swap}
use Rattle.lock_rules.proofs.Sound.{either-kind}

-- sums

abbrev total : {X : Type 0} → (X → ℕ) → List X → ℕ
total g [] = 0
total g (x ∷ xs) = g x + total g xs

count-append : (u : ℕ) (xs ys : List ℕ) → count u (xs ++ ys) ≡ count u xs + count u ys
count-append u [] ys = omega arith
count-append u (x ∷ xs) ys = omega (arith, count-append u xs ys)

count-flat : {X : Type 0} (u : ℕ) (f : X → List ℕ) (xs : List X) → count u (flat_map f xs) ≡ total (λ x. count u (f x)) xs
count-flat u f [] = refl
count-flat u f (x ∷ xs) = count-append u (f x) (flat_map f xs) ∙ ap (λ (k : ℕ). count u (f x) + k) (count-flat u f xs)

total-zero : {X : Type 0} (g : X → ℕ) (xs : List X) → ((x : X) → g x ≡ 0) → total g xs ≡ 0
total-zero g [] h = refl
total-zero g (x ∷ xs) h = omega (arith, h x, total-zero g xs h)

total-both : {X : Type 0} (f g : X → ℕ) (xs : List X) → total (λ x. f x + g x) xs ≡ total f xs + total g xs
total-both f g [] = refl
total-both f g (x ∷ xs) = omega (arith, total-both f g xs)

total-kept : (p : ℕ → Bool) (us : List ℕ) → total (λ u. cond (p u) 1 0) us ≡ length (filter p us)
total-kept p [] = refl
total-kept p (u ∷ us) = go (p u) (total-kept p us)
  where
    go : (b : Bool) → total (λ v. cond (p v) 1 0) us ≡ length (filter p us) → cond b 1 0 + total (λ v. cond (p v) 1 0) us ≡ length (cond b (u ∷ filter p us) (filter p us))
    go true e = omega (arith, e)
    go false e = omega (arith, e)

-- a number in a range is there once
range-past : (x a k : ℕ) → x < a → total (λ u. cond (eqb x u) 1 0) (range_with_len a k) ≡ 0
range-past x a zero h = refl
range-past x a (suc k) h =
    let n : eqb x a ≡ false = grind (arith, nat_tests, h) in
    ap (λ (c : Bool). cond c 1 0 + total (λ u. cond (eqb x u) 1 0) (range_with_len (a + 1) k)) n ∙ omega (arith, range-past x (a + 1) k (omega (arith, h)))

range-once : (x a k : ℕ) → a ≤ x → x < a + k → total (λ u. cond (eqb x u) 1 0) (range_with_len a k) ≡ 1
range-once x a zero from below = absurd (omega (arith, from, below))
range-once x a (suc k) from below = go (eqb x a) refl (range-once x (a + 1) k)
  where
    go : (b : Bool) → eqb x a ≡ b → (a + 1 ≤ x → x < a + 1 + k → total (λ u. cond (eqb x u) 1 0) (range_with_len (a + 1) k) ≡ 1) → cond b 1 0 + total (λ u. cond (eqb x u) 1 0) (range_with_len (a + 1) k) ≡ 1
    go true e next = ap (λ (m : ℕ). 1 + m) (range-past x (a + 1) k (grind (arith, nat_tests, e)))
    go false e next = omega (arith, next (grind (arith, nat_tests, e, from)) (omega (arith, below)))

-- a list of numbers of a range is as long as they are often in it
range-counted : (n : ℕ) (xs : List ℕ) → ((x : ℕ) → 1 ≤ count x xs → (1 ≤ x) × (x ≤ n)) → total (λ u. count u xs) (range_with_len 1 n) ≡ length xs
range-counted n [] h = total-zero (λ u. 0) (range_with_len 1 n) (λ u. refl)
range-counted n (x ∷ xs) h =
    let own : eqb x x ≡ true = grind (arith, nat_tests) in
    let here = h x (omega (arith, ap {B = ℕ} (λ (b : Bool). cond b 1 0) own)) in
    let once = range-once x 1 n here.0 (omega (arith, here.1)) in
    let rest = range-counted n xs (λ y k. h y (omega (arith, k))) in
    total-both (λ u. cond (eqb x u) 1 0) (λ u. count u xs) (range_with_len 1 n) ∙ omega (arith, once, rest)

-- a list with each number that passes the test once, and no other, is as long as the numbers that pass
as-long : (n : ℕ) (p : ℕ → Bool) (xs : List ℕ) → ((u : ℕ) → count u xs ≡ cond (p u) 1 0) → ((u : ℕ) → p u ≡ true → (1 ≤ u) × (u ≤ n)) → length xs ≡ length (filter p (range_with_len 1 n))
as-long n p xs told within =
    sym (range-counted n xs (λ x k. within x (passes x k)))
    ∙ ((λ i. total (λ u. told u i) (range_with_len 1 n))
    ∙ total-kept p (range_with_len 1 n))
  where
    passes : (x : ℕ) → 1 ≤ count x xs → p x ≡ true
    passes x k = go (p x) (told x)
      where
        go : (b : Bool) → count x xs ≡ cond b 1 0 → b ≡ true
        go true e = refl
        go false e = absurd (omega (arith, k, e))

-- another number isn't counted
not-counted : (u x k : ℕ) (d : Bool) → eqb x u ≡ false → cond d (cond (eqb x u) 1 0 + k) 0 ≡ cond d k 0
not-counted u x k true f = ap (λ (c : Bool). cond c 1 0 + k) f ∙ omega arith
not-counted u x k false f = refl

-- how often a number is among those that pass a test
count-kept : (u : ℕ) (p : ℕ → Bool) (us : List ℕ) → count u (filter p us) ≡ cond (p u) (count u us) 0
count-kept u p [] = go (p u)
  where
    go : (b : Bool) → 0 ≡ cond {A = ℕ} b 0 0
    go true = refl
    go false = refl
count-kept u p (x ∷ us) = go (p x) (eqb x u) refl refl (count-kept u p us)
  where
    go : (b c : Bool) → p x ≡ b → eqb x u ≡ c → count u (filter p us) ≡ cond (p u) (count u us) 0 → count u (cond b (x ∷ filter p us) (filter p us)) ≡ cond (p u) (cond (eqb x u) 1 0 + count u us) 0
    go b true e f next =
        let same : x ≡ u = (Decides-eqb x u).0 f in
        let passes : p u ≡ b = ap p (sym same) ∙ e in
        both b (next ∙ ap (λ (d : Bool). cond d (count u us) 0) passes) ∙ sym (ap (λ (d : Bool). cond d (cond (eqb x u) 1 0 + count u us) 0) passes)
      where
        both : (d : Bool) → count u (filter p us) ≡ cond d (count u us) 0 → count u (cond d (x ∷ filter p us) (filter p us)) ≡ cond d (cond (eqb x u) 1 0 + count u us) 0
        both true n = ap (λ (k : ℕ). cond (eqb x u) 1 0 + k) n
        both false n = n
    go true false e f next = ap (λ (d : Bool). cond d 1 0 + count u (filter p us)) f ∙ omega (arith, next) ∙ sym (not-counted u x (count u us) (p u) f)
    go false false e f next = next ∙ sym (not-counted u x (count u us) (p u) f)

count-total : (u : ℕ) (us : List ℕ) → count u us ≡ total (λ v. cond (eqb u v) 1 0) us
count-total u [] = refl
count-total u (x ∷ us) =
    let flip : eqb x u ≡ eqb u x = grind (arith, nat_tests) in
    λ i. cond (flip i) 1 0 + count-total u us i

count-filter : (u : ℕ) (xs : List ℕ) → length (filter (λ v. eqb v u) xs) ≡ count u xs
count-filter u [] = refl
count-filter u (x ∷ xs) = go (eqb x u) (count-filter u xs)
  where
    go : (b : Bool) → length (filter (λ v. eqb v u) xs) ≡ count u xs → length (cond b (x ∷ filter (λ v. eqb v u) xs) (filter (λ v. eqb v u) xs)) ≡ cond b 1 0 + count u xs
    go true e = omega (arith, e)
    go false e = omega (arith, e)

-- a list with each number that passes the test once, and no other, has each as often as the numbers that pass
as-often : (n : ℕ) (p : ℕ → Bool) (xs : List ℕ) → ((u : ℕ) → count u xs ≡ cond (p u) 1 0) → ((u : ℕ) → p u ≡ true → (1 ≤ u) × (u ≤ n)) → AreSameSessions xs (filter p (range_with_len 1 n))
as-often n p xs told within u =
    count-filter u xs ∙ (told u ∙ (go (p u) refl ∙ (sym (count-kept u p (range_with_len 1 n)) ∙ sym (count-filter u (filter p (range_with_len 1 n))))))
  where
    go : (b : Bool) → p u ≡ b → cond {A = ℕ} b 1 0 ≡ cond b (count u (range_with_len 1 n)) 0
    go true e = let w = within u e in sym (count-total u (range_with_len 1 n) ∙ range-once u 1 n w.0 (omega (arith, w.1)))
    go false e = refl

-- resources

-- a sum of which only one resource has a part
total-one : (g : List ℕ → ℕ) (x : List ℕ) (rs : List (List ℕ)) → rise rs ≡ true → ((r : List ℕ) → same_path x r ≡ false → g r ≡ 0) → total g rs ≡ cond (is_among x rs) (g x) 0
total-one g x [] h zero_else = refl
total-one g x (r ∷ rs) h zero_else =
    let parts : (precedes r rs ≡ true) × (rise rs ≡ true) = and_parts (precedes r rs) (rise rs) h in
    let next : total g rs ≡ cond (is_among x rs) (g x) 0 = total-one g x rs parts.1 zero_else in
    elim (same_path_tells r x) [
      | inl e ↦
          let gone : is_among x rs ≡ false = ap (λ (y : List ℕ). is_among y rs) (sym e.1) ∙ not-behind r rs parts.0 parts.1 in
          let none_else : total g rs ≡ 0 = next ∙ ap (λ (b : Bool). cond b (g x) 0) gone in
          let here : g r ≡ g x = ap g e.1 in
          omega (arith, none_else, here) ∙ sym (ap (λ (b : Bool). cond (b || is_among x rs) (g x) 0) e.0)
      | inr n ↦ let here : g r ≡ 0 = zero_else r (same_path-swap r x n) in omega (arith, here, next) ∙ sym (ap (λ (b : Bool). cond (b || is_among x rs) (g x) 0) n)
    ]

asked-among : (u : ℕ) (qs : List Claim) (q : Claim) → request_of u qs ≡ Some q → list_any (λ (c : Claim). same_path c.resource q.resource) qs ≡ true
asked-among u [] q h = absurd (cc)
asked-among u (p ∷ qs) q h = go (eqb p.session u) h (asked-among u qs q)
  where
    go : (b : Bool) → cond b (Some p) (request_of u qs) ≡ Some q → (request_of u qs ≡ Some q → list_any (λ (c : Claim). same_path c.resource q.resource) qs ≡ true) → (same_path p.resource q.resource || list_any (λ (c : Claim). same_path c.resource q.resource) qs) ≡ true
    go true e next = let same : p ≡ q = cc in ap (λ (c : Claim). same_path c.resource q.resource || list_any (λ (x : Claim). same_path x.resource q.resource) qs) same ∙ ap (λ (b : Bool). b || list_any (λ (x : Claim). same_path x.resource q.resource) qs) (same_path-refl q.resource)
    go false e next = ap (λ (b : Bool). same_path p.resource q.resource || b) (next e) ∙ or-true (same_path p.resource q.resource)

asked-listed : (st : State) (u : ℕ) (q : Claim) → request_of u st.table.requests ≡ Some q → is_among q.resource (listed_resources st) ≡ true
asked-listed st u q h =
    let on = λ (c : Claim). same_path c.resource q.resource in
    among-resources q.resource (st.table.held ++ st.table.requests)
    ∙ (list_any-append on st.table.held st.table.requests
    ∙ (ap (λ (b : Bool). list_any on st.table.held || b) (asked-among u st.table.requests q h)
    ∙ or-true (list_any on st.table.held)))

-- requests and queues

times-short : (u : ℕ) (qs : List Claim) → times u (map short qs) ≡ times_of u qs
times-short u [] = refl
times-short u (q ∷ qs) = ap (λ (k : ℕ). cond (eqb q.session u) 1 0 + k) (times-short u qs)

-- no session is in a queue twice
queue-once : (t : Table) (u : ℕ) (r : List ℕ) → IsOnce t.requests → times u (map short (queue t r)) ≤ 1
queue-once t u r o =
    let p = λ (q : Claim). same_path q.resource r && is_some (held_mode t q.session r) in
    let p' = λ (q : Claim). same_path q.resource r && not (is_some (held_mode t q.session r)) in
    omega (arith, times-short u (queue t r), times-append u (filter p t.requests) (filter p' t.requests), times-apart u p p' t.requests (λ q h. either-kind (same_path q.resource r) (is_some (held_mode t q.session r)) h), o u)

-- a session is in the queue of the resource of its request, and in no other
queue-seen : (t : Table) (u : ℕ) (r : List ℕ) → IsOnce t.requests → has_session u (map short (queue t r)) ≡ has_path r (resource_of_request (request_of u t.requests))
queue-seen t u r o = queue-has u r t ∙ waits_on-once u r t.requests (o u)

-- a session that waits for the resource or for none waits if it is in the queue
waits-seen : (t : Table) (u : ℕ) (q : Claim) → IsOnce t.requests → (request_of u t.requests ≡ Some q) ⊎ (request_of u t.requests ≡ None) → is_some (request_of u t.requests) ≡ has_session u (map short (queue t q.resource))
waits-seen t u q o h = sym (queue-seen t u q.resource o ∙ elim h [
  | inl e ↦ rw e (ap (λ (b : Bool). b || false) (same_path-refl q.resource))
  | inr e ↦ rw e refl
])

-- the table after the abort of a session with a transaction
abort-table : (st : State) (s : ℕ) → is_open st s ≡ true → (step st s Abort).state.table ≡ after_end s st.table
abort-table st s begun = ap (λ (b : Bool). (outcome_of (cond (not b) (Some NoTransaction) None) st s Abort).state.table) begun

-- session u is granted its request for resource r once session s has left it
abbrev is_granted_on : Table → ℕ → List ℕ → ℕ → Bool
is_granted_on t s r u = has_session s (claims_on r t.held) && (has_session u (map short (queue t r)) && not (has_session u (view_after_grants (without s (claims_on r t.held)) (map short (queue t r))).waiting))

module _ (es : List Entry) (s : ℕ) (begun : is_open (state_of es) s ≡ true) (idle : request_of s (state_of es).table.requests ≡ None) where
  sound : IsSound (state_of es).table
  sound = (state-lawful es).sound

  -- the view of a resource after the abort
  after-seen : (r : List ℕ) → view r (after_end s (state_of es).table)
      ≡ cond (has_session s (claims_on r (state_of es).table.held)) (view_after_grants (without s (claims_on r (state_of es).table.held)) (map short (queue (state_of es).table r))) (view r (state_of es).table)
  after-seen r =
      let t = (state_of es).table in
      let unqueued : has_session s (map short (queue t r)) ≡ false = queue-seen t s r sound.once ∙ ap (λ (o : Option Claim). has_path r (resource_of_request o)) idle in
      ended-seen s t sound r ∙ ap (λ (b : Bool). view_after_unlock s (cond b (view_after_freeing claim.Request s (view r t)) (view r t))) unqueued

  -- the abort ends the wait of a session exactly if it is granted on the resource of its request
  ended-tells : (u : ℕ) (q : Claim) → request_of u (state_of es).table.requests ≡ Some q → has_ended s (state_of es) (step (state_of es) s Abort).state u ≡ is_granted_on (state_of es).table s q.resource u
  ended-tells u q wants =
      let t = (state_of es).table in
      let r = q.resource in
      let hs = claims_on r t.held in
      let ws = map short (queue t r) in
      let differs : u ≢ s = λ e. none idle (ap (λ (k : ℕ). request_of k t.requests) (sym e) ∙ wants) in
      let apart : eqb u s ≡ false = other s u differs in
      let after : (request_of u (after_end s t).requests ≡ Some q) ⊎ (request_of u (after_end s t).requests ≡ None) =
      elim ((claims-taken s None (state_of es) sound).others u differs) [ inl a ↦ inl (a.request ∙ wants) | inr p ↦ inr p.1.waits_no_more ] in
      let waits : is_some (request_of u (after_end s t).requests) ≡ has_session u (view r (after_end s t)).waiting = waits-seen (after_end s t) u q (ended-lawful s t (state-lawful es)).sound.once after in
      let queued : has_session u ws ≡ true = sym (waits-seen t u q sound.once (inl wants)) ∙ ap is_some wants in
      ap (λ (x : Table). not (eqb u s) && (is_waiting (state_of es) u && not (is_some (request_of u x.requests)))) (abort-table (state_of es) s begun)
      ∙ (ap (λ (b : Bool). not b && (is_waiting (state_of es) u && not (is_some (request_of u (after_end s t).requests)))) apart
      ∙ (ap (λ (o : Option Claim). is_some o && not (is_some (request_of u (after_end s t).requests))) wants
      ∙ (ap not (waits ∙ ap (λ (v : View). has_session u v.waiting) (after-seen r))
      ∙ go (has_session s hs) queued)))
    where
      go : (h : Bool) → has_session u (map short (queue (state_of es).table q.resource)) ≡ true
          → not (has_session u (cond h (view_after_grants (without s (claims_on q.resource (state_of es).table.held)) (map short (queue (state_of es).table q.resource))) (view q.resource (state_of es).table)).waiting)
          ≡ (h && (has_session u (map short (queue (state_of es).table q.resource)) && not (has_session u (view_after_grants (without s (claims_on q.resource (state_of es).table.held)) (map short (queue (state_of es).table q.resource))).waiting)))
      go true e = sym (ap (λ (w : Bool). w && not (has_session u (view_after_grants (without s (claims_on q.resource (state_of es).table.held)) (map short (queue (state_of es).table q.resource))).waiting)) e)
      go false e = ap not e

  -- how often a session is told for a resource
  told-on : (r : List ℕ) (u : ℕ) → count u (granted_on s (listed_on (state_of es) r)) ≡ cond (is_granted_on (state_of es).table s r u) 1 0
  told-on r u =
      let t = (state_of es).table in
      let hs = claims_on r t.held in
      let ws = map short (queue t r) in
      ap (count u) (lines-granted (state_of es) s r sound) ∙ go (has_session s hs) (grants-count u ws (without s hs) (queue-once t u r sound.once))
    where
      go : (b : Bool) → count u (grants (without s (claims_on r (state_of es).table.held)) (map short (queue (state_of es).table r))) ≡ cond (has_session u (map short (queue (state_of es).table r)) && not (has_session u (view_after_grants (without s (claims_on r (state_of es).table.held)) (map short (queue (state_of es).table r))).waiting)) 1 0
          → count u (cond b (grants (without s (claims_on r (state_of es).table.held)) (map short (queue (state_of es).table r))) []) ≡ cond (b && (has_session u (map short (queue (state_of es).table r)) && not (has_session u (view_after_grants (without s (claims_on r (state_of es).table.held)) (map short (queue (state_of es).table r))).waiting))) 1 0
      go true e = e
      go false e = refl

  -- a session that isn't in the queue is granted nothing
  unqueued-none : (r : List ℕ) (u : ℕ) → has_path r (resource_of_request (request_of u (state_of es).table.requests)) ≡ false → cond {A = ℕ} (is_granted_on (state_of es).table s r u) 1 0 ≡ 0
  unqueued-none r u h =
      let t = (state_of es).table in
      let held = has_session s (claims_on r t.held) in
      ap (λ (b : Bool). cond (held && (b && not (has_session u (view_after_grants (without s (claims_on r t.held)) (map short (queue t r))).waiting))) 1 0) (queue-seen t u r sound.once ∙ h)
      ∙ ap {B = ℕ} (λ (b : Bool). cond b 1 0) (and-false held)

  -- a session is told once if the abort ends its wait, and else not
  told-once : (u : ℕ) → count u (granted_by_abort s (jammed_behind None (listing_of (state_of es)))) ≡ cond (has_ended s (state_of es) (step (state_of es) s Abort).state u) 1 0
  told-once u =
      let st = state_of es in
      let rs = listed_resources st in
      ap (count u) (granted-by-lines (listed_on st) (lines-on st) s None rs (rise-resources (st.table.held ++ st.table.requests)) (λ x k. refl))
      ∙ (count-flat u (λ (r : List ℕ). granted_on s (listed_on st r)) rs
      ∙ ((λ i. total (λ (r : List ℕ). told-on r u i) rs)
      ∙ go (request_of u st.table.requests) refl))
    where
      part : List ℕ → ℕ
      part r = cond (is_granted_on (state_of es).table s r u) 1 0

      go : (o : Option Claim) → request_of u (state_of es).table.requests ≡ o → total part (listed_resources (state_of es)) ≡ cond (has_ended s (state_of es) (step (state_of es) s Abort).state u) 1 0
      go None e =
          total-zero part (listed_resources (state_of es)) (λ r. unqueued-none r u (ap (λ (o : Option Claim). has_path r (resource_of_request o)) e))
          ∙ sym (ap (λ (o : Option Claim). cond (not (eqb u s) && (is_some o && not (is_waiting (step (state_of es) s Abort).state u))) 1 0) e
          ∙ ap (λ (b : Bool). cond b 1 0) (and-false (not (eqb u s))))
      go (Some q) e =
          let st = state_of es in
          total-one part q.resource (listed_resources st) (rise-resources (st.table.held ++ st.table.requests))
          (λ r n. unqueued-none r u (ap (λ (o : Option Claim). has_path r (resource_of_request o)) e ∙ ap (λ (b : Bool). b || false) n))
          ∙ (ap (λ (b : Bool). cond b (part q.resource) 0) (asked-listed st u q e)
          ∙ ap (λ (b : Bool). cond b 1 0) (sym (ended-tells u q e)))

  -- whose wait it ends is one of the sessions 1 to n
  ended-within : (n : ℕ) → All (IsEntryWithin n) es → (u : ℕ) → has_ended s (state_of es) (step (state_of es) s Abort).state u ≡ true → (1 ≤ u) × (u ≤ n)
  ended-within n inner u h = go (request_of u (state_of es).table.requests) refl (and_parts (is_waiting (state_of es) u) _ (and_parts (not (eqb u s)) _ h).1).0
    where
      go : (o : Option Claim) → request_of u (state_of es).table.requests ≡ o → is_some (request_of u (state_of es).table.requests) ≡ true → (1 ≤ u) × (u ≤ n)
      go None e k = absurd (contrary (is_some (request_of u (state_of es).table.requests)) k (ap is_some e))
      go (Some q) e k = let p = and_parts (leb 1 u) (leb u n) ((all-inside n es inner).waiting u q e) in (leb-true 1 u p.0, leb-true u n p.1)

  -- the abort ends as many waits as the listing says
  pub as-many : (n : ℕ) → All (IsEntryWithin n) es → length (granted_by_abort s (jammed_behind None (listing_of (state_of es)))) ≡ length (ended_waits n s (state_of es) (step (state_of es) s Abort).state)
  as-many n inner = as-long n (has_ended s (state_of es) (step (state_of es) s Abort).state) (granted_by_abort s (jammed_behind None (listing_of (state_of es)))) told-once (ended-within n inner)

  -- and it ends the waits of the same sessions
  pub same-sessions : (n : ℕ) → All (IsEntryWithin n) es → AreSameSessions (granted_by_abort s (jammed_behind None (listing_of (state_of es)))) (ended_waits n s (state_of es) (step (state_of es) s Abort).state)
  same-sessions n inner = as-often n (has_ended s (state_of es) (step (state_of es) s Abort).state) (granted_by_abort s (jammed_behind None (listing_of (state_of es)))) told-once (ended-within n inner)
