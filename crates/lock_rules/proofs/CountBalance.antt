-- The counters of a legal history belong together.
use Rattle.std.proofs.Common.{◌≡◌, ℕ, zero, suc, ◌+◌, ◌≤◌, Bool, true, false, cond, not, eqb, ◌&&◌, inl, inr, List, [], ◌∷◌, ◌++◌, length, Option, Some, None, is_some, filter, refl, sym, ◌∙◌, ap, subst, arith, length-append, append-nil}
use Rattle.std.proofs.lemmas.Bool.Decides.{Decides-eqb}
use Rattle.std.proofs.lemmas.Bool.{cases_Bool, not-false, and_right}
use Rattle.lock_modes.specs.declared.Mode.{Mode}
use Rattle.sequential.proofs.Members.{Member}
use Rattle.lock_rules.specs.declared.calls.Call.{Call}
use Rattle.lock_rules.specs.declared.calls.Call.TheVariants.{Begin, Lock, Convert, Poll, Release, Commit, Abort, Try, Withdraw, Restart}
use Rattle.lock_rules.specs.declared.calls.Reply.{Reply}
use Rattle.lock_rules.specs.declared.calls.Reply.TheVariants.{Waiting, Deadlock, Granted, Refused}
use Rattle.lock_rules.specs.declared.calls.Why.{Why}
use Rattle.lock_rules.specs.declared.kinds.Op.TheVariants as op
use Rattle.lock_rules.specs.declared.kinds.ReplyKind.TheVariants as kind
use Rattle.lock_rules.specs.Entries.{Entry}
use Rattle.lock_rules.specs.State.{Claim, State, empty, held_mode, request_of, is_waiting, is_doomed, with_table}
use Rattle.lock_rules.specs.Queue.{queue, after_grant, with_request, is_granted_at_once}
use Rattle.lock_rules.specs.Step.{Outcome, target_of, tests, first_failing, is_held, after_wait, after_asking, ask, restarted, act, outcome_of, step}
use Rattle.lock_rules.specs.Legal.{state_after, state_of, IsLegalFrom, IsLegal}
use Rattle.lock_rules.specs.Laws.{DoDoomedWaitForNothing}
use Rattle.lock_rules.specs.Ended.{has_ended}
use Rattle.lock_rules.specs.Sound.{times}
use Rattle.lock_rules.proofs.Lists.{eqb-refl, times-none, none-times, request_of-push, request_of-claims_but}
use Rattle.lock_rules.proofs.Histories.{state_of-push}
use Rattle.lock_rules.proofs.Cuts.{IsQuiescent, one_less}
use Rattle.lock_rules.proofs.Begins.{new, once-push}
use Rattle.lock_rules.proofs.Steps.{all-pass, is-none, try-locks, state-lawful}
use Rattle.lock_rules.proofs.Idle.{state-idle}
use Rattle.lock_rules.specs.Counts.{one_if, count_if, total_from, is_op, is_kind, is_request, requests, begins_wait, granted_by, victims_of, gives_up, deadlocks}
use Rattle.lock_rules.specs.CountBalance.{AreRequestsAnswered, DoWaitsEndOnce, AreCountsBounded}
use Rattle.lock_rules.proofs.Counting.{one_if-le, count-le-length, count-append, count-splits, count-alike, count-none, count-filtered, total-le}
use Rattle.lock_rules.proofs.CountThinned.{IsThinned, thin-same, thin-but, thin-front, thin-cancel, thin-end, thin-victims, waits-thinned, cancelled-waits-not, member-waits, times-count}

-- one call: how many waited before it, and how many after it

-- the session waited and waits no more
abbrev pub has_stopped : ℕ → List Claim → List Claim → Bool
has_stopped s qs rs = is_some (request_of s qs) && not (is_some (request_of s rs))

-- how many waiting requests of others than the session were granted between two states
abbrev granted_of : ℕ → State → State → ℕ
granted_of s before after = count_if (λ (q : Claim). has_ended s before after q.session && not (is_doomed after q.session)) before.table.requests

-- how many others than the session that waited were doomed between two states
abbrev doomed_of : ℕ → State → State → ℕ
doomed_of s before after = count_if (λ (q : Claim). has_ended s before after q.session && is_doomed after q.session) before.table.requests

-- a test is split by another
split : (w e : Bool) → one_if w ≡ one_if (not e && w) + one_if (e && w)
split true true = refl
split true false = refl
split false true = refl
split false false = refl

-- a test is split by another, which stands behind it
split-behind : (w e : Bool) → one_if w ≡ one_if (w && not e) + one_if (w && e)
split-behind true true = refl
split-behind true false = refl
split-behind false true = refl
split-behind false false = refl

-- a conjunction with a true right side
and-true : (b : Bool) → (b && true) ≡ b
and-true true = refl
and-true false = refl

-- how many requests a session has that has one at most
times-one : (s : ℕ) (qs : List Claim) → times s qs ≤ 1 → times s qs ≡ one_if (is_some (request_of s qs))
times-one s qs few = go (request_of s qs) refl (times s qs) refl
  where
    go : (o : Option Claim) → request_of s qs ≡ o → (n : ℕ) → times s qs ≡ n → n ≡ one_if (is_some o)
    go None e n f = sym f ∙ times-none s qs e
    go (Some q) e zero f = let none : request_of s qs ≡ None = none-times s qs f in absurd (cc)
    go (Some q) e (suc n) f = omega (arith, f, few)

module _ (s : ℕ) (before after : State) (more : List Claim) where
  -- another session's request that is gone
  abbrev another : Claim → Bool
  another q = not (eqb q.session s) && not (is_waiting after q.session)

  -- a request of the session that is gone
  abbrev own : Claim → Bool
  own q = eqb q.session s && not (is_waiting after q.session)

  -- the requests that were there when the call let some go
  abbrev there : List Claim
  there = before.table.requests ++ more

  -- those of others that are gone had their waits ended by a grant or by a doom
  others-gone : ((q : Claim) → Member q more → q.session ≡ s)
      → count_if another there
      ≡ granted_of s before after
      + doomed_of s before after
  others-gone of_s =
      let parts = count-append another before.table.requests more in
      let none = count-none another more (λ q k. not-another q (of_s q k)) in
      let by = count-splits another (λ (q : Claim). has_ended s before after q.session && not (is_doomed after q.session))
      (λ (q : Claim). has_ended s before after q.session && is_doomed after q.session) before.table.requests
      (λ q k. ap one_if (ended q k) ∙ split-behind (has_ended s before after q.session) (is_doomed after q.session)) in
      omega (arith, parts, none, by)
    where
      not-another : (q : Claim) → q.session ≡ s → another q ≡ false
      not-another q e = ap (λ (u : ℕ). not (eqb u s) && not (is_waiting after q.session)) e ∙ ap (λ (b : Bool). not b && not (is_waiting after q.session)) (eqb-refl s)

      ended : (q : Claim) → Member q before.table.requests → another q ≡ has_ended s before after q.session
      ended q k = ap (λ (b : Bool). not (eqb q.session s) && (b && not (is_waiting after q.session))) (sym (member-waits q before.table.requests k))

  -- the session's own request, if it had one, is there or gone
  own-gone : times s there ≤ 1 → count_if own there ≡ one_if (has_stopped s there after.table.requests)
  own-gone few = go (is_waiting after s) refl
    where
      go : (w : Bool) → is_waiting after s ≡ w → count_if own there ≡ one_if (is_some (request_of s there) && not w)
      go true e = count-none own there (λ q k. elim (cases_Bool (eqb q.session s)) [
        | inl y ↦ ap (λ (b : Bool). b && not (is_waiting after q.session)) y
            ∙ ap (λ (u : ℕ). not (is_waiting after u)) ((Decides-eqb q.session s).0 y) ∙ ap not e
        | inr n ↦ ap (λ (b : Bool). b && not (is_waiting after q.session)) n
      ]) ∙ ap one_if (sym (and_right (is_some (request_of s there)) false refl))
      go false e =
          count-alike own (λ (q : Claim). eqb q.session s) there (λ q k. elim (cases_Bool (eqb q.session s)) [
            | inl y ↦ ap (λ (b : Bool). b && not (is_waiting after q.session)) y
                ∙ ap (λ (u : ℕ). not (is_waiting after u)) ((Decides-eqb q.session s).0 y) ∙ ap not e ∙ sym y
            | inr n ↦ ap (λ (b : Bool). b && not (is_waiting after q.session)) n ∙ sym n
          ])
          ∙ sym (times-count s there) ∙ times-one s there few ∙ ap one_if (sym (and-true (is_some (request_of s there))))

  -- those that were there before the call and those that it added wait still, or their waits have ended
  waits-kept : IsThinned there after.table.requests → times s there ≤ 1 → ((q : Claim) → Member q more → q.session ≡ s)
      → length before.table.requests + length more
      ≡ length after.table.requests
      + granted_of s before after
      + doomed_of s before after
      + one_if (has_stopped s there after.table.requests)
  waits-kept t few of_s =
      let all : length there ≡ length (filter (λ (q : Claim). t.keeps q.session) there) + count_if (λ (q : Claim). not (t.keeps q.session)) there
      = count-filtered (λ (q : Claim). t.keeps q.session) there in
      let left : length (filter (λ (q : Claim). t.keeps q.session) there) ≡ length after.table.requests = ap (λ (qs : List Claim). length qs) (sym t.is) in
      let gone : count_if (λ (q : Claim). not (t.keeps q.session)) there ≡ count_if another there + count_if own there
      = count-splits (λ (q : Claim). not (t.keeps q.session)) another own there
      (λ q k. ap (λ (b : Bool). one_if (not b)) (kept q k) ∙ split (not (is_waiting after q.session)) (eqb q.session s)) in
      omega (arith, all, left, gone, others-gone of_s, own-gone few, length-append before.table.requests more)
    where
      kept : (q : Claim) → Member q there → t.keeps q.session ≡ is_waiting after q.session
      kept q k =
          ap (λ (b : Bool). b && t.keeps q.session) (sym (member-waits q there k)) ∙ sym (waits-thinned q.session t.keeps there)
          ∙ ap (λ (qs : List Claim). is_some (request_of q.session qs)) (sym t.is)

-- the ends of waits that an entry tells
abbrev ends_of : State → Entry → State → ℕ
ends_of before e after =
    granted_by before e after + victims_of before e after + one_if (is_op op.Withdraw e && is_kind kind.Withdrawn e)
    + one_if (gives_up op.Abort before e after) + one_if (gives_up op.Restart before e after)

-- the waits before a call and those that it begins are those after it and those that it ends
abbrev IsBalanced : State → ℕ → Call → Outcome → Type 0
IsBalanced st s c o =
    let e : Entry = record { session = s; call = c; reply = o.reply } in
    one_if (begins_wait e) + length st.table.requests ≡ length o.state.table.requests + ends_of st e o.state

module _ (st : State) (i : IsQuiescent st.table) (s : ℕ) where
  -- the requests of the session, if none is added
  few : times s (st.table.requests ++ []) ≤ 1
  few = subst (λ (qs : List Claim). times s qs ≤ 1) (sym (append-nil st.table.requests)) (i.sound.once s)

  -- a call that adds no request
  without-new : (after : State) → IsThinned st.table.requests after.table.requests
      → length st.table.requests
      ≡ length after.table.requests
      + granted_of s st after
      + doomed_of s st after
      + one_if (is_waiting st s && not (is_waiting after s))
  without-new after t =
      let same = append-nil st.table.requests in
      let kept = waits-kept s st after [] (subst (λ (qs : List Claim). IsThinned qs after.table.requests) (sym same) t) few (λ q k. absurd k) in
      omega (arith, kept, ap (λ (qs : List Claim). one_if (has_stopped s qs after.table.requests)) same)

  -- a request that begins to wait
  with-new : (r : List ℕ) (m : Mode) → request_of s st.table.requests ≡ None → (after : State)
      → IsThinned (st.table.requests ++ new s r m ∷ []) after.table.requests
      → length st.table.requests + 1
      ≡ length after.table.requests
      + granted_of s st after
      + doomed_of s st after
      + one_if (not (is_waiting after s))
  with-new r m free after t =
      let waits : is_some (request_of s (st.table.requests ++ new s r m ∷ [])) ≡ true = ap (λ (o : Option Claim). is_some o) (request_of-push s st.table.requests (new s r m) free refl) in
      let kept = waits-kept s st after (new s r m ∷ []) t (once-push s r m st.table.requests i.sound.once free s) (λ q k. elim k [
        | inl e ↦ ap (λ (c : Claim). c.session) (sym e)
        | inr n ↦ absurd n
      ]) in
      omega (arith, kept, ap (λ (b : Bool). one_if (b && not (is_waiting after s))) waits)

  -- a session that didn't wait hasn't stopped
  not-stopped : (after : State) → is_waiting st s ≡ false → one_if (is_waiting st s && not (is_waiting after s)) ≡ 0
  not-stopped after free = ap (λ (b : Bool). one_if (b && not (is_waiting after s))) free

  -- a session that waits as before hasn't stopped
  not-changed : one_if (is_waiting st s && not (is_waiting st s)) ≡ 0
  not-changed = go (is_waiting st s)
    where
      go : (b : Bool) → one_if (b && not b) ≡ 0
      go true = refl
      go false = refl

-- what a request is told of itself: whether it is doomed, and whether it waits
abbrev told : Bool → Bool → Mode → Reply
told d w m = cond d Deadlock (cond w Waiting (Granted m))

module _ (st : State) (i : IsQuiescent st.table) (s : ℕ) (idle : is_doomed st s ≡ false) (free : is_waiting st s ≡ false) where
  -- a request that is told so, after which this is the state
  abbrev IsBalancedAt : Reply → State → Type 0
  IsBalancedAt reply after = (r : List ℕ) (m : Mode) → IsBalanced st s (Lock r m) (record { state = after; reply = reply })

  -- a request that adds none
  told-without : (after : State) (k : Mode) → IsThinned st.table.requests after.table.requests → is_doomed after s ≡ false → is_waiting after s ≡ false
      → IsBalancedAt (told (is_doomed after s) (is_waiting after s) k) after
  told-without after k t d w r m =
      subst (λ (x : Bool). IsBalanced st s (Lock r m) (record { state = after; reply = told x (is_waiting after s) k })) (sym d)
      (subst (λ (x : Bool). IsBalanced st s (Lock r m) (record { state = after; reply = told false x k })) (sym w) sum)
    where
      sum : IsBalanced st s (Lock r m) (record { state = after; reply = Granted k })
      sum =
          let h : 0 + length st.table.requests
          ≡ length after.table.requests
          + (granted_of s st after
          + (0 + doomed_of s st after) + 0 + 0 + 0)
          = omega (arith, without-new st i s after t, not-stopped st i s after free) in h

  -- a request that begins to wait
  told-with : (r : List ℕ) (m k : Mode) (after : State) → IsThinned (st.table.requests ++ new s r m ∷ []) after.table.requests
      → (is_doomed after s ≡ true → is_waiting after s ≡ false)
      → IsBalancedAt (told (is_doomed after s) (is_waiting after s) k) after
  told-with r m k after t calm x y = go (is_doomed after s) (is_waiting after s) calm (with-new st i s r m (is-none (request_of s st.table.requests) free) after t)
    where
      go : (d w : Bool) → (d ≡ true → w ≡ false) → length st.table.requests + 1 ≡ length after.table.requests + granted_of s st after + doomed_of s st after + one_if (not w)
          → IsBalanced st s (Lock x y) (record { state = after; reply = told d w k })
      go true true c e = let no = c refl in absurd (cc)
      go true false c e = let h : 1 + length st.table.requests ≡ length after.table.requests + (granted_of s st after + (1 + doomed_of s st after) + 0 + 0 + 0) = omega (arith, e) in h
      go false true c e = let h : 1 + length st.table.requests ≡ length after.table.requests + (granted_of s st after + (0 + doomed_of s st after) + 0 + 0 + 0) = omega (arith, e) in h
      go false false c e = let h : 0 + length st.table.requests ≡ length after.table.requests + (granted_of s st after + (0 + doomed_of s st after) + 0 + 0 + 0) = omega (arith, e) in h

  -- a request
  asked-balanced : (r : List ℕ) (m : Mode) → DoDoomedWaitForNothing (after_asking st s r m)
      → IsBalancedAt (ask st s r m).reply (after_asking st s r m)
  asked-balanced r m calm = go (is_held (held_mode st.table s r) m) (is_granted_at_once st.table s r m) calm
    where
      go : (b g : Bool) → DoDoomedWaitForNothing (cond b st (cond g (with_table (after_grant s r m st.table) st) (after_wait st s r m)))
          → let after : State = cond b st (cond g (with_table (after_grant s r m st.table) st) (after_wait st s r m)) in
          IsBalancedAt (told (is_doomed after s) (is_waiting after s) m) after
      go true g c = told-without st m (thin-same st.table.requests) idle free
      go false true c =
          told-without (with_table (after_grant s r m st.table) st) m (thin-but s st.table.requests) idle
          (ap (λ (o : Option Claim). is_some o) (request_of-claims_but s st.table.requests))
      go false false c =
          told-with r m m (after_wait st s r m)
          (thin-victims (length st.table.requests + 2) s (with_table (with_request s r m st.table) st))
          (λ d. ap (λ (o : Option Claim). is_some o) (c s d))

module _ (st : State) (i : IsQuiescent st.table) (s : ℕ) where
  -- a call that asks for nothing and ends no wait of its session
  plain-balanced : (after : State) → IsThinned st.table.requests after.table.requests → one_if (is_waiting st s && not (is_waiting after s)) ≡ 0
      → 0 + length st.table.requests ≡ length after.table.requests + (granted_of s st after + (0 + doomed_of s st after) + 0 + 0 + 0)
  plain-balanced after t none = omega (arith, without-new st i s after t, none)

  -- an abort
  abort-balanced : (after : State) → IsThinned st.table.requests after.table.requests
      → 0 + length st.table.requests
      ≡ length after.table.requests + (granted_of s st after + (0 + doomed_of s st after) + 0 + one_if (is_waiting st s && not (is_waiting after s)) + 0)
  abort-balanced after t = omega (arith, without-new st i s after t)

  -- a restart
  restart-balanced : (after : State) → IsThinned st.table.requests after.table.requests
      → 0 + length st.table.requests
      ≡ length after.table.requests + (granted_of s st after + (0 + doomed_of s st after) + 0 + 0 + one_if (is_waiting st s && not (is_waiting after s)))
  restart-balanced after t = omega (arith, without-new st i s after t)

  -- a withdrawal of a session that waited and waits no more
  withdraw-balanced : (after : State) → IsThinned st.table.requests after.table.requests → is_waiting st s ≡ true → is_waiting after s ≡ false
      → 0 + length st.table.requests ≡ length after.table.requests + (granted_of s st after + (0 + doomed_of s st after) + 1 + 0 + 0)
  withdraw-balanced after t waited gone =
      omega (arith, without-new st i s after t, ap (λ (b : Bool). one_if (b && not (is_waiting after s))) waited, ap (λ (b : Bool). one_if (not b)) gone)

  -- a call that passes its tests
  act-balanced : (c : Call) → first_failing (tests st s c) ≡ None → DoDoomedWaitForNothing (act st s c).state → IsBalanced st s c (act st s c)
  act-balanced Begin h calm = plain-balanced (act st s Begin).state (thin-same st.table.requests) (not-changed st i s)
  act-balanced (Lock r m) h calm =
      let p = all-pass (tests st s (Lock r m)) h in
      asked-balanced st i s p.1.1.0 p.1.0 r (target_of (held_mode st.table s r) m) calm r m
  act-balanced (Convert r m) h calm =
      let p = all-pass (tests st s (Convert r m)) h in
      asked-balanced st i s p.1.1.0 p.1.0 r (target_of (held_mode st.table s r) m) calm r m
  act-balanced Poll h calm = plain-balanced st (thin-same st.table.requests) (not-changed st i s)
  act-balanced (Release r) h calm =
      let p = all-pass (tests st s (Release r)) h in
      plain-balanced (act st s (Release r)).state (thin-front (queue (one_less s r st.table) r) (one_less s r st.table))
      (not-stopped st i s (act st s (Release r)).state p.1.0)
  act-balanced Commit h calm =
      let p = all-pass (tests st s Commit) h in
      plain-balanced (act st s Commit).state (thin-end s st.table) (not-stopped st i s (act st s Commit).state p.1.0)
  act-balanced Abort h calm = abort-balanced (act st s Abort).state (thin-end s st.table)
  act-balanced (Try r m) h calm =
      let p = all-pass (tests st s (Lock r m)) (try-locks st s r m h) in
      asked-balanced st i s p.1.1.0 p.1.0 r (target_of (held_mode st.table s r) m) calm r m
  act-balanced Withdraw h calm =
      let p = all-pass (tests st s Withdraw) h in
      withdraw-balanced (act st s Withdraw).state (thin-cancel s st.table) (not-false (is_waiting st s) p.1.1.0) (cancelled-waits-not s st.table)
  act-balanced Restart h calm = restart-balanced (act st s Restart).state (thin-end s st.table)

  -- a call, refused or not
  step-balanced : (c : Call) → DoDoomedWaitForNothing (step st s c).state → IsBalanced st s c (step st s c)
  step-balanced c = go (first_failing (tests st s c)) refl
    where
      refused : (c : Call) (w : Why) → IsBalanced st s c (record { state = st; reply = Refused w })
      refused Begin w = plain-balanced st (thin-same st.table.requests) (not-changed st i s)
      refused (Lock r m) w = plain-balanced st (thin-same st.table.requests) (not-changed st i s)
      refused (Convert r m) w = plain-balanced st (thin-same st.table.requests) (not-changed st i s)
      refused Poll w = plain-balanced st (thin-same st.table.requests) (not-changed st i s)
      refused (Release r) w = plain-balanced st (thin-same st.table.requests) (not-changed st i s)
      refused Commit w = plain-balanced st (thin-same st.table.requests) (not-changed st i s)
      refused Abort w = abort-balanced st (thin-same st.table.requests)
      refused (Try r m) w = plain-balanced st (thin-same st.table.requests) (not-changed st i s)
      refused Withdraw w = plain-balanced st (thin-same st.table.requests) (not-changed st i s)
      refused Restart w = restart-balanced st (thin-same st.table.requests)

      go : (o : Option Why) → first_failing (tests st s c) ≡ o → DoDoomedWaitForNothing (outcome_of o st s c).state → IsBalanced st s c (outcome_of o st s c)
      go None h calm = act-balanced c h calm
      go (Some w) h calm = refused c w

-- histories

-- the waits that entries begin and those before them are those that they end and those after them
waits-from : (es front : List Entry) (st : State) → state_of front ≡ st → IsLegalFrom st es
    → count_if begins_wait es + length st.table.requests
    ≡ length (state_after st es).table.requests
    + (total_from granted_by st es + total_from victims_of st es + count_if (λ (e : Entry). is_op op.Withdraw e && is_kind kind.Withdrawn e) es
    + total_from (λ (before : State) (e : Entry) (after : State). one_if (gives_up op.Abort before e after)) st es
    + total_from (λ (before : State) (e : Entry) (after : State). one_if (gives_up op.Restart before e after)) st es)
waits-from [] front st is l = omega arith
waits-from (e ∷ es) front st is l =
    let after : State = (step st e.session e.call).state in
    let next : state_of (front ++ e ∷ []) ≡ after = state_of-push front e ∙ ap (λ (x : State). (step x e.session e.call).state) is in
    let i : IsQuiescent st.table = subst (λ (x : State). IsQuiescent x.table) is (state-lawful front) in
    let calm : DoDoomedWaitForNothing after = subst DoDoomedWaitForNothing next (state-idle (front ++ e ∷ [])) in
    let here : one_if (begins_wait e) + length st.table.requests ≡ length after.table.requests + ends_of st e after =
    subst (λ (x : Reply). let f : Entry = record { session = e.session; call = e.call; reply = x } in
    one_if (begins_wait f) + length st.table.requests ≡ length after.table.requests + ends_of st f after)
    (sym l.0) (step-balanced st i e.session e.call calm) in
    omega (arith, here, waits-from es (front ++ e ∷ []) after next l.1)

-- each wait of a legal history ended in one way, or hasn't ended
pub waits-end-once : (h : List Entry) → IsLegal h → DoWaitsEndOnce h
waits-end-once h l = omega (arith, waits-from h [] empty refl l)

-- requests

-- a request was granted at once, began a wait or was refused; other calls were none of these
abbrev IsAnswered : ℕ → Call → Reply → Type 0
IsAnswered s c reply =
    let e : Entry = record { session = s; call = c; reply = reply } in
    one_if (is_request e) ≡ one_if (is_request e && is_kind kind.Granted e) + one_if (begins_wait e) + one_if (is_request e && is_kind kind.Refused e)

-- what a request is told
told-answered : (s : ℕ) (r : List ℕ) (x m : Mode) (d w : Bool) → IsAnswered s (Lock r x) (told d w m)
told-answered s r x m true w = refl
told-answered s r x m false true = refl
told-answered s r x m false false = refl

-- a call
step-answered : (st : State) (s : ℕ) (c : Call) → IsAnswered s c (step st s c).reply
step-answered st s c = go c (first_failing (tests st s c))
  where
    asked : (r : List ℕ) (x m : Mode) → IsAnswered s (Lock r x) (ask st s r m).reply
    asked r x m = told-answered s r x m (is_doomed (after_asking st s r m) s) (is_waiting (after_asking st s r m) s)

    go : (c : Call) (o : Option Why) → IsAnswered s c (outcome_of o st s c).reply
    go Begin o = refl
    go (Lock r m) None = asked r m (target_of (held_mode st.table s r) m)
    go (Lock r m) (Some w) = refl
    go (Convert r m) None = asked r m (target_of (held_mode st.table s r) m)
    go (Convert r m) (Some w) = refl
    go Poll o = refl
    go (Release r) o = refl
    go Commit o = refl
    go Abort o = refl
    go (Try r m) None = asked r m (target_of (held_mode st.table s r) m)
    go (Try r m) (Some w) = refl
    go Withdraw o = refl
    go Restart o = refl

-- entries
requests-from : (es : List Entry) (st : State) → IsLegalFrom st es
    → count_if is_request es
    ≡ count_if (λ (e : Entry). is_request e && is_kind kind.Granted e) es + count_if begins_wait es
    + count_if (λ (e : Entry). is_request e && is_kind kind.Refused e) es
requests-from [] st l = refl
requests-from (e ∷ es) st l =
    let here : one_if (is_request e) ≡ one_if (is_request e && is_kind kind.Granted e) + one_if (begins_wait e) + one_if (is_request e && is_kind kind.Refused e) =
    subst (IsAnswered e.session e.call) (sym l.0) (step-answered st e.session e.call) in
    omega (arith, here, requests-from es (step st e.session e.call).state l.1)

-- each request of a legal history was granted at once, began a wait or was refused
pub requests-answered : (h : List Entry) → IsLegal h → AreRequestsAnswered h
requests-answered h l = requests-from h empty l

-- bounds

-- no more deadlocks than victims
some-le : (n : ℕ) → one_if (not (eqb n 0)) ≤ n
some-le zero = omega arith
some-le (suc n) = omega (arith, one_if-le (not (eqb (suc n) 0)))

-- no counter is above the number of calls
pub counts-bounded : (h : List Entry) → IsLegal h → AreCountsBounded h
counts-bounded h l =
    let once = waits-end-once h l in
    let few = count-le-length begins_wait h in
    record {
      begun = few;
      granted = omega (arith, once, few);
      doomed = omega (arith, once, few);
      withdrawn = omega (arith, once, few);
      aborted = omega (arith, once, few);
      restarted = omega (arith, once, few);
      deadlocks = total-le (λ before e after. one_if (not (eqb (victims_of before e after) 0))) victims_of empty h (λ before e after. some-le (victims_of before e after));
    }
