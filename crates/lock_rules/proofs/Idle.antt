-- A doomed transaction has no waiting request.
use Rattle.std.proofs.Common.{◌≡◌, ℕ, zero, suc, ◌+◌, Bool, true, false, cond, eqb, inl, inr, List, [], ◌∷◌, ◌++◌, length, map, Option, Some, None, refl, sym, ◌∙◌, ap}
use Rattle.std.proofs.lemmas.Bool.Decides.{Decides-eqb}
use Rattle.std.proofs.lemmas.Bool.{cases_Bool}
use Rattle.lock_modes.specs.declared.Mode.{Mode}
use Rattle.lock_rules.specs.declared.calls.Call.{Call}
use Rattle.lock_rules.specs.declared.calls.Call.TheVariants.{Begin, Lock, Convert, Poll, Release, Commit, Abort, Try, Withdraw, Restart}
use Rattle.lock_rules.specs.declared.calls.Transaction.{Transaction}
use Rattle.lock_rules.specs.declared.calls.Why.{Why}
use Rattle.lock_rules.specs.Entries.{Entry}
use Rattle.lock_rules.specs.State.{Claim, Table, State, empty, held_mode, request_of, claims_of, claims_but, is_doomed, doomed_in, with_begun, with_table}
use Rattle.lock_rules.specs.Queue.{queue, fits, after_grant, granted_while_fitting, after_promotion, after_promotions, with_request, is_granted_at_once}
use Rattle.lock_rules.specs.Waits.{resource_of_request, without_request, doom, reaches, victim_of, after_victim, after_victims}
use Rattle.lock_rules.specs.Step.{target_of, tests, first_failing, is_held, after_wait, after_asking, without_claims, after_end, restarted, act, outcome_of, step}
use Rattle.lock_rules.specs.Legal.{state_after, state_of}
use Rattle.lock_rules.specs.Laws.{DoDoomedWaitForNothing}
use Rattle.lock_rules.proofs.Lists.{request_of-claims_but, request_of-claims_but_other}
use Rattle.lock_rules.proofs.Alters.{request-alters, true≢false}
use Rattle.lock_rules.proofs.Cuts.{one_less}
use Rattle.lock_rules.proofs.Begins.{back}
use Rattle.lock_rules.proofs.Steps.{all-pass, is-none, try-locks}

-- grants and removals give no session a request

-- a removal gives no session a request
none-but : (u v : ℕ) (qs : List Claim) → request_of u qs ≡ None → request_of u (claims_but v qs) ≡ None
none-but u v qs h = elim (cases_Bool (eqb u v)) [
  | inl y ↦ let f = (Decides-eqb u v).0 y in rw f (request_of-claims_but v qs)
  | inr n ↦ request_of-claims_but_other u v qs n ∙ h
]

-- grants give no session a request
front-none : (u : ℕ) (qs : List Claim) (t : Table) → request_of u t.requests ≡ None → request_of u (granted_while_fitting qs t).requests ≡ None
front-none u [] t h = h
front-none u (q ∷ qs) t h = go (fits t q.session q.resource q.mode) (front-none u qs (after_grant q.session q.resource q.mode t) (none-but u q.session t.requests h))
  where
    go : (b : Bool) → request_of u (granted_while_fitting qs (after_grant q.session q.resource q.mode t)).requests ≡ None → request_of u (cond b (granted_while_fitting qs (after_grant q.session q.resource q.mode t)) t).requests ≡ None
    go true k = k
    go false k = h

-- promotions give no session a request
all-none : (u : ℕ) (rs : List (List ℕ)) (t : Table) → request_of u t.requests ≡ None → request_of u (after_promotions rs t).requests ≡ None
all-none u [] t h = h
all-none u (r ∷ rs) t h = all-none u rs (after_promotion r t) (front-none u (queue t r) t h)

-- a victim

-- a victim keeps the law
victim-idle : (v : ℕ) (st : State) → DoDoomedWaitForNothing st → DoDoomedWaitForNothing (after_victim v st)
victim-idle v st i u d = all-none u (resource_of_request (request_of v st.table.requests)) (without_request v st.table) (elim (cases_Bool (eqb u v)) [
  | inl y ↦ let f = (Decides-eqb u v).0 y in rw f (request_of-claims_but v st.table.requests)
  | inr n ↦ none-but u v st.table.requests (i u (ap (λ (b : Bool). doomed_in (cond b (doom (st.begun v)) (st.begun u))) (sym n) ∙ d))
])

-- the choice of victims keeps the law
settled-idle : (n s : ℕ) (st : State) → DoDoomedWaitForNothing st → DoDoomedWaitForNothing (after_victims n s st)
settled-idle zero s st i = i
settled-idle (suc n) s st i = go (reaches st.table s s) (settled-idle n s (after_victim (victim_of st s) st) (victim-idle (victim_of st s) st i))
  where
    go : (b : Bool) → DoDoomedWaitForNothing (after_victims n s (after_victim (victim_of st s) st)) → DoDoomedWaitForNothing (cond b (after_victims n s (after_victim (victim_of st s) st)) st)
    go true k = k
    go false k = i

-- each call

-- a request that begins to wait keeps the law, if its session isn't doomed
waiting-idle : (st : State) (s : ℕ) (r : List ℕ) (m : Mode) → DoDoomedWaitForNothing st → request_of s st.table.requests ≡ None → is_doomed st s ≡ false → DoDoomedWaitForNothing (with_table (with_request s r m st.table) st)
waiting-idle st s r m i n c u d = elim (cases_Bool (eqb u s)) [
  | inl y ↦ let f = (Decides-eqb u s).0 y in absurd (true≢false (rw f at d) c)
  | inr k ↦ sym (request-alters s (with_request s r m st.table) st.table (back s r m st.table n) u k) ∙ i u d
]

-- a request keeps the law, if its session isn't doomed and doesn't wait
asked-idle : (st : State) (s : ℕ) (r : List ℕ) (m : Mode) → DoDoomedWaitForNothing st → request_of s st.table.requests ≡ None → is_doomed st s ≡ false → DoDoomedWaitForNothing (after_asking st s r m)
asked-idle st s r m i n c = go (is_held (held_mode st.table s r) m) (is_granted_at_once st.table s r m)
  where
    go : (b g : Bool) → DoDoomedWaitForNothing (cond b st (cond g (with_table (after_grant s r m st.table) st) (after_wait st s r m)))
    go true g = i
    go false true = λ u d. none-but u s st.table.requests (i u d)
    go false false = settled-idle (length st.table.requests + 2) s (with_table (with_request s r m st.table) st) (waiting-idle st s r m i n c)

-- a begin keeps the law
begin-idle : (st : State) (s : ℕ) → DoDoomedWaitForNothing st → DoDoomedWaitForNothing (act st s Begin).state
begin-idle st s i u d = go (eqb u s) d
  where
    go : (b : Bool) → doomed_in (cond b (Some (record { number = st.count + 1; doomed = false })) (st.begun u)) ≡ true → request_of u st.table.requests ≡ None
    go true k = absurd (cc)
    go false k = i u k

-- the end or restart of a transaction keeps the law: none is doomed afterwards
ended-idle : (st : State) (s : ℕ) (o : Option Transaction) → doomed_in o ≡ false → DoDoomedWaitForNothing st → DoDoomedWaitForNothing (with_begun s o (with_table (after_end s st.table) st))
ended-idle st s o n i u d =
    all-none u (resource_of_request (request_of s st.table.requests) ++ map (λ (c : Claim). c.resource) (claims_of s st.table.held)) (without_claims s st.table)
    (none-but u s st.table.requests (go (eqb u s) d))
  where
    go : (b : Bool) → doomed_in (cond b o (st.begun u)) ≡ true → request_of u st.table.requests ≡ None
    go true k = absurd (true≢false k n)
    go false k = i u k

-- a restarted transaction isn't doomed
pub restarted-lives : (o : Option Transaction) → doomed_in (restarted o) ≡ false
restarted-lives None = refl
restarted-lives (Some x) = refl

-- every call that passes its tests keeps the law
act-idle : (st : State) (s : ℕ) (c : Call) → DoDoomedWaitForNothing st → first_failing (tests st s c) ≡ None → DoDoomedWaitForNothing (act st s c).state
act-idle st s Begin i h = begin-idle st s i
act-idle st s (Lock r m) i h = let p = all-pass (tests st s (Lock r m)) h in asked-idle st s r (target_of (held_mode st.table s r) m) i (is-none (request_of s st.table.requests) p.1.0) p.1.1.0
act-idle st s (Convert r m) i h = let p = all-pass (tests st s (Convert r m)) h in asked-idle st s r (target_of (held_mode st.table s r) m) i (is-none (request_of s st.table.requests) p.1.0) p.1.1.0
act-idle st s Poll i h = i
act-idle st s (Release r) i h = λ u d. front-none u (queue (one_less s r st.table) r) (one_less s r st.table) (i u d)
act-idle st s Commit i h = ended-idle st s None refl i
act-idle st s Abort i h = ended-idle st s None refl i
act-idle st s (Try r m) i h = let p = all-pass (tests st s (Lock r m)) (try-locks st s r m h) in asked-idle st s r (target_of (held_mode st.table s r) m) i (is-none (request_of s st.table.requests) p.1.0) p.1.1.0
act-idle st s Withdraw i h = λ u d. all-none u (resource_of_request (request_of s st.table.requests)) (without_request s st.table) (none-but u s st.table.requests (i u d))
act-idle st s Restart i h = ended-idle st s (restarted (st.begun s)) (restarted-lives (st.begun s)) i

-- every call keeps the law, refused or not
step-idle : (st : State) (s : ℕ) (c : Call) → DoDoomedWaitForNothing st → DoDoomedWaitForNothing (step st s c).state
step-idle st s c i = go (first_failing (tests st s c)) refl
  where
    go : (o : Option Why) → first_failing (tests st s c) ≡ o → DoDoomedWaitForNothing (outcome_of o st s c).state
    go None e = act-idle st s c i e
    go (Some w) e = i

-- every list of calls keeps the law
after-idle : (es : List Entry) (st : State) → DoDoomedWaitForNothing st → DoDoomedWaitForNothing (state_after st es)
after-idle [] st i = i
after-idle (e ∷ es) st i = after-idle es (step st e.session e.call).state (step-idle st e.session e.call i)

-- the law holds in every state that a history leads to
pub state-idle : (es : List Entry) → DoDoomedWaitForNothing (state_of es)
state-idle es = after-idle es empty (λ s d. refl)
