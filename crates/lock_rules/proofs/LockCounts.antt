-- No session holds more than MAX_LOCKS locks: a session that waits for a new lock has room for it.
use Rattle.std.proofs.Common.{◌≡◌, ℕ, zero, suc, ◌+◌, ◌<◌, ◌≤◌, Bool, true, false, cond, not, eqb, leb, ◌&&◌, inl, inr, List, [], ◌∷◌, ◌++◌, length, map, Option, Some, None, refl, ◌∙◌, ap, arith}
use Rattle.std.specs.Prelude.{filter, is_some}
use Rattle.std.proofs.lemmas.Bool.Decides.{nat_tests, Decides-eqb}
use Rattle.std.proofs.lemmas.Bool.{cases_Bool}
use Rattle.lock_modes.specs.declared.Mode.{Mode}
use Rattle.lock_tree.specs.Paths.{same_path}
use Rattle.lock_rules.specs.declared.calls.Call.{Call}
use Rattle.lock_rules.specs.declared.calls.Call.TheVariants.{Begin, Lock, Convert, Poll, Release, Commit, Abort, Try, Withdraw, Restart}
use Rattle.lock_rules.specs.declared.calls.Why.{Why}
use Rattle.lock_rules.specs.Entries.{Entry}
use Rattle.lock_rules.specs.declared.calls.TheConstants.{MAX_LOCKS}
use Rattle.lock_rules.specs.State.{Claim, Table, State, no_locks, empty, mode_in, held_mode, request_of, holders, claims_of, with_table}
use Rattle.lock_rules.specs.Queue.{queue, fits, with_lock, after_grant, granted_while_fitting, after_promotion, after_promotions, with_request, is_granted_at_once}
use Rattle.lock_rules.specs.Waits.{without_request, after_cancel, resource_of_request, reaches, victim_of, after_victim, after_victims}
use Rattle.lock_rules.specs.Step.{target_of, tests, first_failing, is_held, after_wait, after_asking, after_release, without_claims, after_end, act, outcome_of, step}
use Rattle.lock_rules.specs.Legal.{state_after, state_of}
use Rattle.lock_rules.specs.Laws.{AreLocksBounded}
use Rattle.lock_rules.specs.Sound.{IsOnce, IsOrdered, times}
use Rattle.lock_rules.proofs.Lists.{after-trans, seek-after, mode_in-seek, times-claims_but, request_of-push}
use Rattle.lock_rules.proofs.Alters.{Alters, request-alters, request-gone}
use Rattle.lock_rules.proofs.Sound.{head-request, queue-rest, granted-alters, no_more-alters}
use Rattle.lock_rules.proofs.Cuts.{less-alters, left-alters, one_less}
use Rattle.lock_rules.proofs.Begins.{new, back, once-push}
use Rattle.lock_rules.proofs.Once.{ordered-rest, later-behind}
use Rattle.lock_rules.proofs.Steps.{all-pass, is-none, try-locks}

-- how many locks a session holds

-- how many locks the session holds
abbrev count : ℕ → List Claim → ℕ
count s cs = length (claims_of s cs)

-- removing locks leaves no session more of them
count-filter : (s : ℕ) (p : Claim → Bool) (cs : List Claim) → count s (filter p cs) ≤ count s cs
count-filter s p [] = omega arith
count-filter s p (c ∷ cs) = grind (arith, nat_tests, cases_Bool (p c), count-filter s p cs)

-- setting a lock leaves the counts of other sessions
count-other : (u s : ℕ) (r : List ℕ) (m : Mode) (cs : List Claim) → eqb u s ≡ false → count u (with_lock s r m cs) ≡ count u cs
count-other u s r m [] n = grind (arith, nat_tests)
count-other u s r m (c ∷ cs) n = grind (arith, nat_tests, cases_Bool (same_path c.resource r), count-other u s r m cs n)

-- 1 if the session holds nothing, else 0
abbrev one_if_none : Option Mode → ℕ
one_if_none o = cond (is_some o) 0 1

-- if the first holder of a resource is a later session, an earlier one holds nothing there
none-later : (s : ℕ) (r : List ℕ) (c : Claim) (cs : List Claim) → IsOrdered (c ∷ cs) → same_path c.resource r ≡ true → s < c.session → mode_in s r cs ≡ None
none-later s r c cs o p l = mode_in-seek s r cs ∙ seek-after s (holders r cs) (after-trans s c.session (holders r cs) l (later-behind r c cs o p))

-- setting a lock adds one at most, and none if the session holds the resource
count-own : (s : ℕ) (r : List ℕ) (m : Mode) (cs : List Claim) → IsOrdered cs → count s (with_lock s r m cs) ≤ count s cs + one_if_none (mode_in s r cs)
count-own s r m [] o = grind (arith, nat_tests)
count-own s r m (c ∷ cs) o = let n = none-later s r c cs o in let h = count-own s r m cs (ordered-rest c cs o) in grind (arith, nat_tests, cases_Bool (same_path c.resource r), n)

-- how many locks a grant of the request adds: 1 if its session doesn't hold the resource, else 0
abbrev count_to_come : List Claim → ℕ → Option Claim → ℕ
count_to_come cs s None = 0
count_to_come cs s (Some q) = one_if_none (mode_in s q.resource cs)

-- holders are in order, a session has one request at most, and its locks with the one to come are at most max
record IsBounded (max : ℕ) (t : Table) : Type 0 where
  order : IsOrdered t.held
  once : IsOnce t.requests
  bound : (s : ℕ) → count s t.held + count_to_come t.held s (request_of s t.requests) ≤ max

-- a bounded table has at most max locks of a session
bounded-count : (max : ℕ) (t : Table) → IsBounded max t → (s : ℕ) → count s t.held ≤ max
bounded-count max t i s = omega (arith, i.bound s)

-- a change of v's locks keeps the bound if nobody else gets more and v has at most max
altered-bounded : (max v : ℕ) (t t' : Table) → Alters v t t' → IsBounded max t → ((u : ℕ) → eqb u v ≡ false → count u t'.held ≤ count u t.held) → count v t'.held ≤ max → IsBounded max t'
altered-bounded max v t t' a i others own = record {
  order = a.order i.order;
  once = λ s. omega (arith, times-claims_but s v t.requests, i.once s, ap (times s) a.requests);
  bound = λ s. elim (cases_Bool (eqb s v)) [
    | inl e ↦ let f = (Decides-eqb s v).0 e in rw f gone
    | inr n ↦ omega (arith, others s n, i.bound s, same s n)
  ];
}
  where
    gone : count v t'.held + count_to_come t'.held v (request_of v t'.requests) ≤ max
    gone = let z : count_to_come t'.held v (request_of v t'.requests) ≡ 0 = ap (count_to_come t'.held v) (request-gone v t t' a) in omega (arith, own, z)

    held : (s : ℕ) (o : Option Claim) → eqb s v ≡ false → count_to_come t'.held s o ≡ count_to_come t.held s o
    held s None n = refl
    held s (Some q) n = ap one_if_none (a.others s q.resource n)

    same : (s : ℕ) → eqb s v ≡ false → count_to_come t'.held s (request_of s t'.requests) ≡ count_to_come t.held s (request_of s t.requests)
    same s n = ap (count_to_come t'.held s) (request-alters v t t' a s n) ∙ held s (request_of s t.requests) n

-- the session may get a lock on the resource and still hold at most max
abbrev HasRoom : ℕ → ℕ → List ℕ → Table → Type 0
HasRoom max s r t = count s t.held + one_if_none (held_mode t s r) ≤ max

-- a grant to a session with room keeps the bound
granted-bounded : (max s : ℕ) (r : List ℕ) (m : Mode) (t : Table) → IsBounded max t → HasRoom max s r t → IsBounded max (after_grant s r m t)
granted-bounded max s r m t i h = altered-bounded max s t (after_grant s r m t) (granted-alters s r m t) i (λ u n. omega (arith, count-other u s r m t.held n)) (omega (arith, count-own s r m t.held i.order, h))

-- promotions

-- grants from the front of a queue keep the bound
front-bounded : (max : ℕ) (r : List ℕ) (qs : List Claim) (t : Table) → IsBounded max t → queue t r ≡ qs → IsBounded max (granted_while_fitting qs t)
front-bounded max r [] t i e = i
front-bounded max r (q ∷ qs) t i e =
    go (fits t q.session q.resource q.mode)
    (front-bounded max r qs (after_grant q.session q.resource q.mode t) (granted-bounded max q.session q.resource q.mode t i room) (queue-rest t (after_grant q.session q.resource q.mode t) r q qs i.once e (granted-alters q.session q.resource q.mode t)))
  where
    room : HasRoom max q.session q.resource t
    room = let z = ap (count_to_come t.held q.session) (head-request t r q qs i.once e).0 in omega (arith, i.bound q.session, z)

    go : (b : Bool) → IsBounded max (granted_while_fitting qs (after_grant q.session q.resource q.mode t)) → IsBounded max (cond b (granted_while_fitting qs (after_grant q.session q.resource q.mode t)) t)
    go true k = k
    go false k = i

-- a promotion keeps the bound
promoted-bounded : (max : ℕ) (r : List ℕ) (t : Table) → IsBounded max t → IsBounded max (after_promotion r t)
promoted-bounded max r t i = front-bounded max r (queue t r) t i refl

-- promotions keep the bound
all-bounded : (max : ℕ) (rs : List (List ℕ)) (t : Table) → IsBounded max t → IsBounded max (after_promotions rs t)
all-bounded max [] t i = i
all-bounded max (r ∷ rs) t i = all-bounded max rs (after_promotion r t) (promoted-bounded max r t i)

-- removals

-- cancelling a request keeps the bound
cancelled-bounded : (max v : ℕ) (t : Table) → IsBounded max t → IsBounded max (after_cancel v t)
cancelled-bounded max v t i = all-bounded max (resource_of_request (request_of v t.requests)) (without_request v t) (altered-bounded max v t (without_request v t) (no_more-alters v t) i (λ u n. omega arith) (bounded-count max t i v))

-- a release keeps the bound
released-bounded : (max s : ℕ) (r : List ℕ) (t : Table) → IsBounded max t → request_of s t.requests ≡ None → IsBounded max (after_release s r t)
released-bounded max s r t i n = promoted-bounded max r (one_less s r t) (altered-bounded max s t (one_less s r t) (less-alters s r t n) i (λ u k. fewer u) (omega (arith, fewer s, bounded-count max t i s)))
  where
    fewer : (u : ℕ) → count u (one_less s r t).held ≤ count u t.held
    fewer u = count-filter u (λ c. not (eqb c.session s && same_path c.resource r)) t.held

-- the end of a transaction keeps the bound
ended-bounded : (max s : ℕ) (t : Table) → IsBounded max t → IsBounded max (after_end s t)
ended-bounded max s t i = all-bounded max (resource_of_request (request_of s t.requests) ++ map (λ (c : Claim). c.resource) (claims_of s t.held)) (without_claims s t) (altered-bounded max s t (without_claims s t) (left-alters s t) i (λ u k. fewer u) (omega (arith, fewer s, bounded-count max t i s)))
  where
    fewer : (u : ℕ) → count u (without_claims s t).held ≤ count u t.held
    fewer u = count-filter u (λ c. not (eqb c.session s)) t.held

-- the choice of victims keeps the bound
settled-bounded : (max n s : ℕ) (st : State) → IsBounded max st.table → IsBounded max (after_victims n s st).table
settled-bounded max zero s st i = i
settled-bounded max (suc n) s st i = go (reaches st.table s s) (settled-bounded max n s (after_victim (victim_of st s) st) (cancelled-bounded max (victim_of st s) st.table i))
  where
    go : (b : Bool) → IsBounded max (after_victims n s (after_victim (victim_of st s) st)).table → IsBounded max (cond b (after_victims n s (after_victim (victim_of st s) st)) st).table
    go true k = k
    go false k = i

-- requests

-- a request that begins to wait keeps the bound, if its session has room
begins-bounded : (max s : ℕ) (r : List ℕ) (m : Mode) (t : Table) → IsBounded max t → request_of s t.requests ≡ None → HasRoom max s r t → IsBounded max (with_request s r m t)
begins-bounded max s r m t i n h = record {
  order = i.order;
  once = once-push s r m t.requests i.once n;
  bound = λ u. elim (cases_Bool (eqb u s)) [
    | inl e ↦ let f = (Decides-eqb u s).0 e in rw f own
    | inr k ↦ omega (arith, i.bound u, same u k)
  ];
}
  where
    own : count s t.held + count_to_come t.held s (request_of s (t.requests ++ new s r m ∷ [])) ≤ max
    own = let z : count_to_come t.held s (request_of s (t.requests ++ new s r m ∷ [])) ≡ one_if_none (held_mode t s r) = ap (count_to_come t.held s) (request_of-push s t.requests (new s r m) n refl) in omega (arith, h, z)

    same : (u : ℕ) → eqb u s ≡ false → count_to_come t.held u (request_of u t.requests) ≡ count_to_come t.held u (request_of u (t.requests ++ new s r m ∷ []))
    same u k = ap (count_to_come t.held u) (request-alters s (with_request s r m t) t (back s r m t n) u k)

-- a request keeps the bound, if its session has room and doesn't wait
asked-bounded : (max : ℕ) (st : State) (s : ℕ) (r : List ℕ) (m : Mode) → IsBounded max st.table → request_of s st.table.requests ≡ None → HasRoom max s r st.table → IsBounded max (after_asking st s r m).table
asked-bounded max st s r m i n h = go (is_held (held_mode st.table s r) m) (is_granted_at_once st.table s r m)
  where
    go : (b c : Bool) → IsBounded max (cond b st (cond c (with_table (after_grant s r m st.table) st) (after_wait st s r m))).table
    go true c = i
    go false true = granted-bounded max s r m st.table i h
    go false false = settled-bounded max (length st.table.requests + 2) s (with_table (with_request s r m st.table) st) (begins-bounded max s r m st.table i n h)

-- a session that passes the test TooManyLocks has room
fresh-room : (max limit n : ℕ) (o : Option Mode) → limit ≤ max → n ≤ max → (not (is_some o) && leb limit n) ≡ false → n + one_if_none o ≤ max
fresh-room max limit n None m l h = grind (arith, nat_tests)
fresh-room max limit n (Some k) m l h = omega arith

-- a session that holds the resource has room
held-room : (max n : ℕ) (o : Option Mode) → n ≤ max → not (is_some o) ≡ false → n + one_if_none o ≤ max
held-room max n None l h = absurd (cc)
held-room max n (Some k) l h = omega arith

-- each call

-- every call that passes its tests keeps the bound
act-bounded : (st : State) (s : ℕ) (c : Call) → IsBounded MAX_LOCKS st.table → first_failing (tests st s c) ≡ None → IsBounded MAX_LOCKS (act st s c).state.table
act-bounded st s Begin i h = i
act-bounded st s (Lock r m) i h =
    let p = all-pass (tests st s (Lock r m)) h in
    asked-bounded MAX_LOCKS st s r (target_of (held_mode st.table s r) m) i (is-none (request_of s st.table.requests) p.1.0) (fresh-room MAX_LOCKS _ (count s st.table.held) (held_mode st.table s r) (omega arith) (bounded-count MAX_LOCKS st.table i s) p.1.1.1.1.1.0)
act-bounded st s (Convert r m) i h =
    let p = all-pass (tests st s (Convert r m)) h in
    asked-bounded MAX_LOCKS st s r (target_of (held_mode st.table s r) m) i (is-none (request_of s st.table.requests) p.1.0) (held-room MAX_LOCKS (count s st.table.held) (held_mode st.table s r) (bounded-count MAX_LOCKS st.table i s) p.1.1.1.1.0)
act-bounded st s Poll i h = i
act-bounded st s (Release r) i h = let p = all-pass (tests st s (Release r)) h in released-bounded MAX_LOCKS s r st.table i (is-none (request_of s st.table.requests) p.1.0)
act-bounded st s Commit i h = ended-bounded MAX_LOCKS s st.table i
act-bounded st s Abort i h = ended-bounded MAX_LOCKS s st.table i
act-bounded st s (Try r m) i h =
    let p = all-pass (tests st s (Lock r m)) (try-locks st s r m h) in
    asked-bounded MAX_LOCKS st s r (target_of (held_mode st.table s r) m) i (is-none (request_of s st.table.requests) p.1.0) (fresh-room MAX_LOCKS _ (count s st.table.held) (held_mode st.table s r) (omega arith) (bounded-count MAX_LOCKS st.table i s) p.1.1.1.1.1.0)
act-bounded st s Withdraw i h = cancelled-bounded MAX_LOCKS s st.table i
act-bounded st s Restart i h = ended-bounded MAX_LOCKS s st.table i

-- every call keeps the bound, refused or not
step-bounded : (st : State) (s : ℕ) (c : Call) → IsBounded MAX_LOCKS st.table → IsBounded MAX_LOCKS (step st s c).state.table
step-bounded st s c i = go (first_failing (tests st s c)) refl
  where
    go : (o : Option Why) → first_failing (tests st s c) ≡ o → IsBounded MAX_LOCKS (outcome_of o st s c).state.table
    go None e = act-bounded st s c i e
    go (Some w) e = i

-- every list of calls keeps the bound
after-bounded : (es : List Entry) (st : State) → IsBounded MAX_LOCKS st.table → IsBounded MAX_LOCKS (state_after st es).table
after-bounded [] st i = i
after-bounded (e ∷ es) st i = after-bounded es (step st e.session e.call).state (step-bounded st e.session e.call i)

-- the empty table is bounded
none-bounded : (max : ℕ) → IsBounded max no_locks
none-bounded max = record { order = λ r. refl; once = λ s. omega arith; bound = λ s. omega arith }

-- no session holds more than MAX_LOCKS locks in any state that a history leads to
pub locks-bounded : (es : List Entry) → AreLocksBounded (state_of es)
locks-bounded es = bounded-count MAX_LOCKS (state_of es).table (after-bounded es empty (none-bounded MAX_LOCKS))
