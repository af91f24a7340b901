-- Every session that holds a lock or waits has a transaction, and open transactions have different numbers.
use Rattle.std.proofs.Common.{◌≡◌, ℕ, zero, suc, ◌+◌, ◌≤◌, Bool, true, false, cond, eqb, ◌⊎◌, inl, inr, List, [], ◌∷◌, ◌++◌, length, Option, Some, None, refl, sym, ◌∙◌, ap, arith, map}
use Rattle.std.proofs.lemmas.Bool.{not-false, cases_Bool}
use Rattle.std.specs.Prelude.{is_some}
use Rattle.std.proofs.lemmas.Bool.Decides.{Decides-eqb}
use Rattle.lock_modes.specs.declared.Mode.{Mode}
use Rattle.lock_rules.specs.declared.calls.Call.{Call}
use Rattle.lock_rules.specs.declared.calls.Call.TheVariants.{Begin, Lock, Convert, Poll, Release, Commit, Abort, Try, Withdraw, Restart}
use Rattle.lock_rules.specs.declared.calls.Why.{Why}
use Rattle.lock_rules.specs.Entries.{Entry}
use Rattle.lock_rules.specs.declared.calls.Transaction.{Transaction}
use Rattle.lock_rules.specs.State.{Claim, Table, State, empty, held_mode, request_of, claims_of, is_open, number_in, number_of, with_begun, with_table}
use Rattle.lock_rules.specs.Queue.{queue, fits, after_grant, granted_while_fitting, after_promotion, after_promotions, with_request, is_granted_at_once}
use Rattle.lock_rules.specs.Waits.{without_request, after_cancel, resource_of_request, doom, reaches, victim_of, after_victim, after_victims}
use Rattle.lock_rules.specs.Step.{target_of, tests, first_failing, is_held, after_wait, after_asking, after_release, without_claims, after_end, restarted, act, outcome_of, step}
use Rattle.lock_rules.specs.Legal.{state_after, state_of}
use Rattle.lock_rules.specs.Laws.{AreOwnersOpen}
use Rattle.lock_rules.specs.Sound.{AllOpen, IsNumbered}
use Rattle.lock_rules.proofs.Lists.{In}
use Rattle.lock_rules.proofs.Alters.{Alters, request-alters, request-gone, waiting-other, true≢false}
use Rattle.lock_rules.proofs.Sound.{In-queue, granted-alters, no_more-alters}
use Rattle.lock_rules.proofs.Cuts.{less-alters, less-held, left-alters, left-none, one_less}
use Rattle.lock_rules.proofs.Steps.{all-pass, is-none, try-locks}

-- a change of v's locks keeps AllOpen if v passes the test whenever it holds a lock
altered-open : (p : ℕ → Bool) (v : ℕ) (t t' : Table) → Alters v t t' → AllOpen p t → ((r : List ℕ) (m : Mode) → held_mode t' v r ≡ Some m → p v ≡ true) → AllOpen p t'
altered-open p v t t' a i own = record {
  waiting = λ s q e. elim (cases_Bool (eqb s v)) [
    | inl f ↦ absurd (waiting-other v t t' a s q e ((Decides-eqb s v).0 f))
    | inr n ↦ i.waiting s q (sym (request-alters v t t' a s n) ∙ e)
  ];
  holding = λ s r m e. elim (cases_Bool (eqb s v)) [
    | inl f ↦ let g = (Decides-eqb s v).0 f in rw g (own r m (rw g at e))
    | inr n ↦ i.holding s r m (sym (a.others s r n) ∙ e)
  ];
}

-- a grant to a session that passes the test keeps AllOpen
granted-open : (p : ℕ → Bool) (s : ℕ) (r : List ℕ) (m : Mode) (t : Table) → AllOpen p t → p s ≡ true → AllOpen p (after_grant s r m t)
granted-open p s r m t i h = altered-open p s t (after_grant s r m t) (granted-alters s r m t) i (λ x k e. h)

-- the session of a request in the list has a request
In-some : (h : Claim) (xs : List Claim) → In h xs → (q : Claim) × (request_of h.session xs ≡ Some q)
In-some h [] k = absurd k
In-some h (x ∷ xs) k = go (eqb x.session h.session) refl k (In-some h xs)
  where
    go : (b : Bool) → eqb x.session h.session ≡ b → (h ≡ x) ⊎ In h xs → (In h xs → (q : Claim) × (request_of h.session xs ≡ Some q)) → (q : Claim) × (cond b (Some x) (request_of h.session xs) ≡ Some q)
    go true e k next = (x, refl)
    go false e (inl f) next = absurd (true≢false ((Decides-eqb x.session h.session).1 (ap (λ (c : Claim). c.session) (sym f))) e)
    go false e (inr i) next = next i

-- grants to sessions that pass the test keep AllOpen
front-open : (p : ℕ → Bool) (qs : List Claim) (t : Table) → AllOpen p t → ((q : Claim) → In q qs → p q.session ≡ true) → AllOpen p (granted_while_fitting qs t)
front-open p [] t i h = i
front-open p (q ∷ qs) t i h = go (fits t q.session q.resource q.mode) (front-open p qs (after_grant q.session q.resource q.mode t) (granted-open p q.session q.resource q.mode t i (h q (inl refl))) (λ c k. h c (inr k)))
  where
    go : (b : Bool) → AllOpen p (granted_while_fitting qs (after_grant q.session q.resource q.mode t)) → AllOpen p (cond b (granted_while_fitting qs (after_grant q.session q.resource q.mode t)) t)
    go true k = k
    go false k = i

-- a promotion keeps AllOpen
promoted-open : (p : ℕ → Bool) (r : List ℕ) (t : Table) → AllOpen p t → AllOpen p (after_promotion r t)
promoted-open p r t i = front-open p (queue t r) t i (λ q k. let w = In-some q t.requests (In-queue t r q k).0 in i.waiting q.session w.0 w.1)

-- promotions keep AllOpen
all-open : (p : ℕ → Bool) (rs : List (List ℕ)) (t : Table) → AllOpen p t → AllOpen p (after_promotions rs t)
all-open p [] t i = i
all-open p (r ∷ rs) t i = all-open p rs (after_promotion r t) (promoted-open p r t i)

-- cancelling a request keeps AllOpen
cancelled-open : (p : ℕ → Bool) (v : ℕ) (t : Table) → AllOpen p t → AllOpen p (after_cancel v t)
cancelled-open p v t i = all-open p (resource_of_request (request_of v t.requests)) (without_request v t) (altered-open p v t (without_request v t) (no_more-alters v t) i (λ r m e. i.holding v r m e))

-- AllOpen holds of any weaker test
wider-open : (p p' : ℕ → Bool) (t : Table) → ((s : ℕ) → p s ≡ true → p' s ≡ true) → AllOpen p t → AllOpen p' t
wider-open p p' t h i = record { waiting = λ s q e. h s (i.waiting s q e); holding = λ s r m e. h s (i.holding s r m e) }

-- the numbers of transactions

-- the same transactions with the same numbers; some may be doomed
pub record SameNumbers (st st' : State) : Type 0 where
  pub count : st'.count ≡ st.count
  pub opened : (s : ℕ) → is_open st' s ≡ is_open st s
  pub number : (s : ℕ) → number_of st' s ≡ number_of st s

-- IsNumbered holds of the same transactions over a table of their sessions
numbered-same : (st st' : State) → SameNumbers st st' → IsNumbered st → AllOpen (is_open st) st'.table → IsNumbered st'
numbered-same st st' m i a = record {
  owners = wider-open (is_open st) (is_open st') st'.table (λ s h. m.opened s ∙ h) a;
  counted = λ s h. omega (arith, m.number s, m.count, i.counted s (sym (m.opened s) ∙ h));
  apart = λ s u h k e. i.apart s u (sym (m.opened s) ∙ h) (sym (m.opened u) ∙ k) (sym (m.number s) ∙ (e ∙ m.number u));
}

-- a doom closes no transaction and changes no number
doomed-open : (b : Bool) (o o' : Option Transaction) → (b ≡ true → o' ≡ o) → (is_some (cond b (doom o) o') ≡ is_some o') × (number_in (cond b (doom o) o') ≡ number_in o')
doomed-open false o o' h = (refl, refl)
doomed-open true None o' h = (ap is_some (sym (h refl)), ap number_in (sym (h refl)))
doomed-open true (Some t) o' h = (ap is_some (sym (h refl)), ap number_in (sym (h refl)))

-- a victim leaves the transactions and their numbers
pub victim-numbers : (v : ℕ) (st : State) → SameNumbers st (after_victim v st)
victim-numbers v st = record {
  count = refl;
  opened = λ s. (doomed-open (eqb s v) (st.begun v) (st.begun s) (λ e. ap st.begun ((Decides-eqb s v).0 e))).0;
  number = λ s. (doomed-open (eqb s v) (st.begun v) (st.begun s) (λ e. ap st.begun ((Decides-eqb s v).0 e))).1;
}

-- a victim keeps IsNumbered
pub victim-numbered : (v : ℕ) (st : State) → IsNumbered st → IsNumbered (after_victim v st)
victim-numbered v st i = numbered-same st (after_victim v st) (victim-numbers v st) i (cancelled-open (is_open st) v st.table i.owners)

-- the choice of victims keeps IsNumbered
settled-numbered : (n s : ℕ) (st : State) → IsNumbered st → IsNumbered (after_victims n s st)
settled-numbered zero s st i = i
settled-numbered (suc n) s st i = go (reaches st.table s s) (settled-numbered n s (after_victim (victim_of st s) st) (victim-numbered (victim_of st s) st i))
  where
    go : (b : Bool) → IsNumbered (after_victims n s (after_victim (victim_of st s) st)) → IsNumbered (cond b (after_victims n s (after_victim (victim_of st s) st)) st)
    go true k = k
    go false k = i

-- IsNumbered holds over another table of the same sessions
pub retabled : (st : State) (t : Table) → IsNumbered st → AllOpen (is_open st) t → IsNumbered (with_table t st)
retabled st t i a = record { owners = a; counted = i.counted; apart = i.apart }

-- a request of a session that passes the test keeps AllOpen
pub begins-open : (p : ℕ → Bool) (s : ℕ) (r : List ℕ) (m : Mode) (t : Table) → AllOpen p t → p s ≡ true → AllOpen p (with_request s r m t)
begins-open p s r m t i h = record { waiting = λ u q e. waits t.requests u q e (λ c. i.waiting u c); holding = λ u x k e. i.holding u x k e }
  where
    waits : (qs : List Claim) (u : ℕ) (q : Claim) → request_of u (qs ++ record { session = s; resource = r; mode = m } ∷ []) ≡ Some q → ((c : Claim) → request_of u qs ≡ Some c → p u ≡ true) → p u ≡ true
    waits qs u q e k = elim (cases_Bool (eqb s u)) [
      | inl f ↦ rw (← (Decides-eqb s u).0 f) h
      | inr n ↦ k q (sym (request_of-push_other u qs n) ∙ e)
    ]
      where
        request_of-push_other : (u : ℕ) (qs : List Claim) → eqb s u ≡ false → request_of u (qs ++ record { session = s; resource = r; mode = m } ∷ []) ≡ request_of u qs
        request_of-push_other u [] n = ap (λ (b : Bool). cond b (Some (record { session = s; resource = r; mode = m })) None) n
        request_of-push_other u (c ∷ qs) n = ap (λ (o : Option Claim). cond (eqb c.session u) (Some c) o) (request_of-push_other u qs n)

-- a request of a session with a transaction keeps IsNumbered
asked-numbered : (st : State) (s : ℕ) (r : List ℕ) (m : Mode) → IsNumbered st → is_open st s ≡ true → IsNumbered (after_asking st s r m)
asked-numbered st s r m i h = go (is_held (held_mode st.table s r) m) (is_granted_at_once st.table s r m)
  where
    go : (b c : Bool) → IsNumbered (cond b st (cond c (with_table (after_grant s r m st.table) st) (after_wait st s r m)))
    go true c = i
    go false true = retabled st (after_grant s r m st.table) i (granted-open (is_open st) s r m st.table i.owners h)
    go false false = settled-numbered (length st.table.requests + 2) s (with_table (with_request s r m st.table) st) (retabled st (with_request s r m st.table) i (begins-open (is_open st) s r m st.table i.owners h))

-- the end of a transaction keeps IsNumbered
ended-numbered : (st : State) (s : ℕ) → IsNumbered st → IsNumbered (with_begun s None (with_table (after_end s st.table) st))
ended-numbered st s i =
    let p : ℕ → Bool = λ (u : ℕ). is_some (cond (eqb u s) None (st.begun u)) in
    let gone : AllOpen p (without_claims s st.table) = record {
      waiting = λ u q e. elim (cases_Bool (eqb u s)) [
        | inl f ↦ absurd (none u q e ((Decides-eqb u s).0 f))
        | inr n ↦ ap (λ (b : Bool). is_some (cond b None (st.begun u))) n ∙ i.owners.waiting u q (sym (request-alters s st.table (without_claims s st.table) (left-alters s st.table) u n) ∙ e)
      ];
      holding = λ u r m e. elim (cases_Bool (eqb u s)) [
        | inl f ↦ let g = (Decides-eqb u s).0 f in absurd (left-none s st.table r m (rw g at e))
        | inr n ↦ ap (λ (b : Bool). is_some (cond b None (st.begun u))) n ∙ i.owners.holding u r m (sym ((left-alters s st.table).others u r n) ∙ e)
      ];
    } in
    record {
      owners = all-open p (resource_of_request (request_of s st.table.requests) ++ map (λ (c : Claim). c.resource) (claims_of s st.table.held)) (without_claims s st.table) gone;
      counted = λ u h. let k = kept u h in rw k.0 (i.counted u k.1);
      apart = λ u w h k e. let a = kept u h in let b = kept w k in i.apart u w a.1 b.1 (sym (ap (λ (x : Bool). number_in (cond x None (st.begun u))) a.0) ∙ (e ∙ ap (λ (x : Bool). number_in (cond x None (st.begun w))) b.0));
    }
  where
    none : (u : ℕ) (q : Claim) → request_of u (without_claims s st.table).requests ≡ Some q → u ≡ s → ⊥
    none u q e f = let g = request-gone s st.table (without_claims s st.table) (left-alters s st.table) in cc

    kept : (u : ℕ) → is_some (cond (eqb u s) None (st.begun u)) ≡ true → (eqb u s ≡ false) × (is_open st u ≡ true)
    kept u h = go (eqb u s) h
      where
        go : (b : Bool) → is_some (cond b None (st.begun u)) ≡ true → (b ≡ false) × (is_open st u ≡ true)
        go true h = absurd (cc)
        go false h = (refl, h)

-- a restart closes no transaction and changes no number
restarted-open : (b : Bool) (o o' : Option Transaction) → (b ≡ true → o' ≡ o) → (is_some (cond b (restarted o) o') ≡ is_some o') × (number_in (cond b (restarted o) o') ≡ number_in o')
restarted-open false o o' h = (refl, refl)
restarted-open true None o' h = (ap is_some (sym (h refl)), ap number_in (sym (h refl)))
restarted-open true (Some t) o' h = (ap is_some (sym (h refl)), ap number_in (sym (h refl)))

-- a restart leaves the transactions and their numbers
pub restarted-numbers : (s : ℕ) (t : Table) (st : State) → SameNumbers st (with_begun s (restarted (st.begun s)) (with_table t st))
restarted-numbers s t st = record {
  count = refl;
  opened = λ u. (restarted-open (eqb u s) (st.begun s) (st.begun u) (λ e. ap st.begun ((Decides-eqb u s).0 e))).0;
  number = λ u. (restarted-open (eqb u s) (st.begun s) (st.begun u) (λ e. ap st.begun ((Decides-eqb u s).0 e))).1;
}

-- a restart keeps IsNumbered
restarted-numbered : (st : State) (s : ℕ) → IsNumbered st → IsNumbered (with_begun s (restarted (st.begun s)) (with_table (after_end s st.table) st))
restarted-numbered st s i =
    numbered-same st (with_begun s (restarted (st.begun s)) (with_table (after_end s st.table) st)) (restarted-numbers s (after_end s st.table) st) i
    (all-open (is_open st) (resource_of_request (request_of s st.table.requests) ++ map (λ (c : Claim). c.resource) (claims_of s st.table.held)) (without_claims s st.table)
    (altered-open (is_open st) s st.table (without_claims s st.table) (left-alters s st.table) i.owners (λ r m e. absurd (left-none s st.table r m e))))

-- a begin keeps IsNumbered, since the new transaction has the greatest number
begin-numbered : (st : State) (s : ℕ) → IsNumbered st → is_open st s ≡ false → IsNumbered (act st s Begin).state
begin-numbered st s i closed = record {
  owners = wider-open (is_open st) p st.table (λ u h. opened (eqb u s) u h) i.owners;
  counted = λ u h. fewer (eqb u s) u h;
  apart = λ u w h k e. distinct (eqb u s) (eqb w s) u w refl refl h k e;
}
  where
    p : ℕ → Bool
    p = λ (u : ℕ). is_some (cond (eqb u s) (Some (record { number = st.count + 1; doomed = false })) (st.begun u))

    opened : (b : Bool) (u : ℕ) → is_open st u ≡ true → is_some (cond b (Some (record { number = st.count + 1; doomed = false })) (st.begun u)) ≡ true
    opened true u h = refl
    opened false u h = h

    fewer : (b : Bool) (u : ℕ) → is_some (cond b (Some (record { number = st.count + 1; doomed = false })) (st.begun u)) ≡ true → number_in (cond b (Some (record { number = st.count + 1; doomed = false })) (st.begun u)) ≤ st.count + 1
    fewer true u h = omega arith
    fewer false u h = omega (arith, i.counted u h)

    distinct : (b c : Bool) (u w : ℕ) → eqb u s ≡ b → eqb w s ≡ c → is_some (cond b (Some (record { number = st.count + 1; doomed = false })) (st.begun u)) ≡ true → is_some (cond c (Some (record { number = st.count + 1; doomed = false })) (st.begun w)) ≡ true
        → number_in (cond b (Some (record { number = st.count + 1; doomed = false })) (st.begun u)) ≡ number_in (cond c (Some (record { number = st.count + 1; doomed = false })) (st.begun w)) → u ≡ w
    distinct true true u w f g h k e = (Decides-eqb u s).0 f ∙ sym ((Decides-eqb w s).0 g)
    distinct true false u w f g h k e = absurd (omega (arith, i.counted w k))
    distinct false true u w f g h k e = absurd (omega (arith, i.counted u h))
    distinct false false u w f g h k e = i.apart u w h k e

-- a release keeps IsNumbered
released-numbered : (st : State) (s : ℕ) (r : List ℕ) → IsNumbered st → request_of s st.table.requests ≡ None → IsNumbered (with_table (after_release s r st.table) st)
released-numbered st s r i n =
    retabled st (after_release s r st.table) i
    (promoted-open (is_open st) r (one_less s r st.table)
    (altered-open (is_open st) s st.table (one_less s r st.table) (less-alters s r st.table n) i.owners (λ x k e. i.owners.holding s x k (less-held s r x st.table k e).1)))

-- every call that passes its tests keeps IsNumbered
act-numbered : (st : State) (s : ℕ) (c : Call) → IsNumbered st → first_failing (tests st s c) ≡ None → IsNumbered (act st s c).state
act-numbered st s Begin i h = let p = all-pass (tests st s Begin) h in begin-numbered st s i p.0
act-numbered st s (Lock r m) i h = let p = all-pass (tests st s (Lock r m)) h in asked-numbered st s r (target_of (held_mode st.table s r) m) i (not-false _ p.0)
act-numbered st s (Convert r m) i h = let p = all-pass (tests st s (Convert r m)) h in asked-numbered st s r (target_of (held_mode st.table s r) m) i (not-false _ p.0)
act-numbered st s Poll i h = i
act-numbered st s (Release r) i h = let p = all-pass (tests st s (Release r)) h in released-numbered st s r i (is-none _ p.1.0)
act-numbered st s Commit i h = ended-numbered st s i
act-numbered st s Abort i h = ended-numbered st s i
act-numbered st s (Try r m) i h = let p = all-pass (tests st s (Lock r m)) (try-locks st s r m h) in asked-numbered st s r (target_of (held_mode st.table s r) m) i (not-false _ p.0)
act-numbered st s Withdraw i h = retabled st (after_cancel s st.table) i (cancelled-open (is_open st) s st.table i.owners)
act-numbered st s Restart i h = restarted-numbered st s i

-- every call keeps IsNumbered, refused or not
pub step-numbered : (st : State) (s : ℕ) (c : Call) → IsNumbered st → IsNumbered (step st s c).state
step-numbered st s c i = go (first_failing (tests st s c)) refl
  where
    go : (o : Option Why) → first_failing (tests st s c) ≡ o → IsNumbered (outcome_of o st s c).state
    go None e = act-numbered st s c i e
    go (Some w) e = i

-- IsNumbered holds of the empty state
empty-numbered : IsNumbered empty
empty-numbered = record {
  owners = record { waiting = λ s q e. absurd (cc); holding = λ s r m e. absurd (cc) };
  counted = λ s h. absurd (cc);
  apart = λ s u h k e. absurd (cc);
}

-- every list of calls keeps IsNumbered
after-numbered : (es : List Entry) (st : State) → IsNumbered st → IsNumbered (state_after st es)
after-numbered [] st i = i
after-numbered (e ∷ es) st i = after-numbered es (step st e.session e.call).state (step-numbered st e.session e.call i)

-- IsNumbered holds in every state that a history leads to
pub state-numbered : (es : List Entry) → IsNumbered (state_of es)
state-numbered es = after-numbered es empty empty-numbered

-- a request that begins to wait, of a session with a transaction, keeps IsNumbered
pub waiting-numbered : (st : State) (s : ℕ) (r : List ℕ) (m : Mode) → IsNumbered st → is_open st s ≡ true → IsNumbered (with_table (with_request s r m st.table) st)
waiting-numbered st s r m i h = retabled st (with_request s r m st.table) i (begins-open (is_open st) s r m st.table i.owners h)

-- every session that holds a lock or waits has a transaction, as the law states it
pub owners-open : (st : State) → IsNumbered st → AreOwnersOpen st
owners-open st i s h = elim h [ inl k ↦ i.owners.holding s k.0 k.1 k.2 | inr k ↦ i.owners.waiting s k.0 k.1 ]
