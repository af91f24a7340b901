-- What a Lock or a Convert that isn't refused brings about.
use Rattle.std.proofs.Common.{◌≡◌, ◌≢◌, ℕ, ◌+◌, ◌<◌, Bool, true, false, cond, not, ◌&&◌, ◌||◌, ◌⊎◌, inl, inr, List, [], ◌∷◌, ◌++◌, length, Option, Some, None, is_some, refl, sym, ◌∙◌, ap, arith, subst, length-append}
use Rattle.std.proofs.lemmas.Bool.{and_parts, and_from, or_right, not-false, cases_Bool}
use Rattle.lock_modes.specs.declared.Mode.{Mode}
use Rattle.lock_modes.specs.Order.{at_or_below}
use Rattle.lock_modes.proofs.Order.{at_or_below-antisym, sup_least, at_or_below-refl}
use Rattle.lock_rules.specs.declared.calls.Call.TheVariants.{Lock, Convert, Try}
use Rattle.lock_rules.specs.declared.calls.Reply.{Reply}
use Rattle.lock_rules.specs.declared.calls.Reply.TheVariants.{Granted, Waiting, Deadlock, Refused}
use Rattle.lock_rules.specs.declared.calls.Why.{Why}
use Rattle.lock_rules.specs.declared.calls.Why.TheVariants.{NoTransaction, IsWaiting, IsDoomed, NothingAsked, NotHeld, ParentNotHeld, TooManyLocks, WouldWait}
use Rattle.lock_rules.specs.State.{Claim, Table, State, held_mode, mode_or_nothing, request_of, is_open, is_waiting, is_doomed, doomed_in, with_table}
use Rattle.lock_rules.specs.Queue.{queue, is_empty, fits, after_grant, is_granted_at_once, with_request}
use Rattle.lock_rules.specs.Step.{Outcome, target_of, is_nothing, tests, first_failing, after_wait, is_held, after_asking, ask, outcome_of, would_wait}
use Rattle.lock_rules.specs.Effects.{IsPromotionOf, IsTarget, IsFree, IsWaitOf, IsReplyAfterWait, IsWaitSettled, IsAnswerTo, IsLockAnswered, IsConvertAnswered, IsLockOfHeldConvert, IsGrantedHeld, IsConversionHeld, IsTryAnswered, DoesTryLeaveWaits}
use Rattle.lock_rules.specs.Sound.{IsOnce}
use Rattle.lock_rules.proofs.Lists.{other, differs, request_of-claims_but, request_of-push, claims_but-none}
use Rattle.lock_rules.proofs.Alters.{request-alters, true≢false}
use Rattle.lock_rules.proofs.Marks.{below-sup}
use Rattle.lock_rules.proofs.Begins.{new, back, once-push, queue-fresh, queue-converted, queue-beside}
use Rattle.lock_rules.proofs.Steps.{all-pass, is-none, try-locks, last-passes}
use Rattle.lock_rules.proofs.States.{grant-one}
use Rattle.lock_rules.proofs.Taken.{none, passes, step-acts}
use Rattle.lock_rules.proofs.Victims.{settled-victims}
use Rattle.lock_rules.proofs.Doomed.{doom-dooms, victims-keep, among-or-not}

-- the target

-- `target_of` is the target of a request
pub target : (o : Option Mode) (m : Mode) → IsTarget o m (target_of o m)
target None m = refl
target (Some h) m = sup_least h m (target_of (Some h) m) refl

-- a held mode that is at or below the target and covers it is the target
covered : (o : Option Mode) (k : Mode) → at_or_below (mode_or_nothing o) k ≡ true → is_held o k ≡ true → o ≡ Some k
covered None k h e = absurd (cc)
covered (Some a) k h e = ap (λ (c : Mode). Some c) (at_or_below-antisym a k h e)

-- a held mode that is the target covers it
pub covers : (o : Option Mode) (k : Mode) → o ≡ Some k → is_held o k ≡ true
covers o k e = ap (λ (p : Option Mode). is_held p k) e ∙ at_or_below-refl k

-- a held mode below the target, and not the target, doesn't cover it
pub not-covered : (o : Option Mode) (k : Mode) → at_or_below (mode_or_nothing o) k ≡ true → o ≢ Some k → is_held o k ≡ false
not-covered o k h n = elim (cases_Bool (is_held o k)) [ inl e ↦ absurd (n (covered o k h e)) | inr e ↦ e ]

-- requests that are free

-- an option that isn't None is some
some : (o : Option Mode) → o ≢ None → is_some o ≡ true
some None n = absurd (n refl)
some (Some k) n = refl

-- the empty list is empty by the test
none-empty : (qs : List Claim) → qs ≡ [] → is_empty qs ≡ true
none-empty [] e = refl
none-empty (q ∷ qs) e = cc

-- a free request is granted at once by the test
pub free-granted : (t : Table) (s : ℕ) (r : List ℕ) (k : Mode) → IsFree t s r k → is_granted_at_once t s r k ≡ true
free-granted t s r k f = and_from (fits t s r k) (is_some (held_mode t s r) || is_empty (queue t r)) f.0 (elim f.1 [
  | inl n ↦ ap (λ (b : Bool). b || is_empty (queue t r)) (some (held_mode t s r) n)
  | inr e ↦ or_right (is_some (held_mode t s r)) (is_empty (queue t r)) (none-empty (queue t r) e)
])

-- a request granted at once by the test is free
granted-free : (t : Table) (s : ℕ) (r : List ℕ) (k : Mode) → is_granted_at_once t s r k ≡ true → IsFree t s r k
granted-free t s r k h =
    let p = and_parts (fits t s r k) (is_some (held_mode t s r) || is_empty (queue t r)) h in
    (p.0, either (held_mode t s r) (queue t r) p.1)
  where
    either : (o : Option Mode) (qs : List Claim) → (is_some o || is_empty qs) ≡ true → (o ≢ None) ⊎ (qs ≡ [])
    either (Some a) qs e = inl (λ f. cc)
    either None [] e = inr refl
    either None (q ∷ qs) e = absurd (cc)

-- a request that isn't free isn't granted at once by the test
pub not-free : (t : Table) (s : ℕ) (r : List ℕ) (k : Mode) → (IsFree t s r k → ⊥) → is_granted_at_once t s r k ≡ false
not-free t s r k n = elim (cases_Bool (is_granted_at_once t s r k)) [ inl e ↦ absurd (n (granted-free t s r k e)) | inr e ↦ e ]

-- the three cases of IsAnswerTo

-- a request that begins to wait is queued as IsWaitOf says
waits-behind : (s : ℕ) (r : List ℕ) (k : Mode) (t : Table) → request_of s t.requests ≡ None → IsWaitOf s r k t (with_request s r k t)
waits-behind s r k t n = record {
  held = λ u x. refl;
  waiting = request_of-push s t.requests (new s r k) n refl;
  others_wait = λ u m. sym (request-alters s (with_request s r k t) t (back s r k t n) u (other s u m));
  conversion = λ m. queue-converted s r k t (some (held_mode t s r) m);
  fresh = λ e. queue-fresh s r k t (ap (λ (o : Option Mode). is_some o) e);
  elsewhere = λ x m. queue-beside s r x k t (differs x r m);
}

module _ (st : State) (s : ℕ) (r : List ℕ) (k : Mode) where
  -- the state after a request whose target isn't held yet: a grant or a wait
  abbrev later : Bool → State
  later g = cond g (with_table (after_grant s r k st.table) st) (after_wait st s r k)

  -- the state in which the request has begun to wait
  abbrev waiting : State
  waiting = with_table (with_request s r k st.table) st

  -- the reply to the request in this state
  abbrev answer : State → Reply
  answer after = cond (is_doomed after s) Deadlock (cond (is_waiting after s) Waiting (Granted k))

  -- this state and the reply in it
  abbrev outcome : State → Outcome
  outcome after = record { state = after; reply = answer after }

  -- a target that is held already changes nothing
  same-state : is_held (held_mode st.table s r) k ≡ true → after_asking st s r k ≡ st
  same-state e = ap (λ (b : Bool). cond b st (later (is_granted_at_once st.table s r k))) e

  -- any other target leads to a grant or a wait
  later-state : (g : Bool) → is_held (held_mode st.table s r) k ≡ false → is_granted_at_once st.table s r k ≡ g → after_asking st s r k ≡ later g
  later-state g e f = ap (λ (b : Bool). cond b st (later (is_granted_at_once st.table s r k))) e ∙ ap later f

  -- the reply is Granted if the asker isn't doomed and has no request
  granted-answer : (after : State) → is_doomed after s ≡ false → request_of s after.table.requests ≡ None → answer after ≡ Granted k
  granted-answer after d n =
      ap (λ (b : Bool). cond b Deadlock (cond (is_waiting after s) Waiting (Granted k))) d
      ∙ ap (λ (o : Option Claim). cond (is_some o) Waiting (Granted k)) n

  -- the reply is the one of IsReplyAfterWait
  told : (after : State) → IsReplyAfterWait s k (outcome after)
  told after = record {
    deadlock = λ d. ap (λ (b : Bool). cond b Deadlock (cond (is_waiting after s) Waiting (Granted k))) d;
    waiting = λ d n. ap (λ (b : Bool). cond b Deadlock (cond (is_waiting after s) Waiting (Granted k))) d ∙ ap (λ (b : Bool). cond b Waiting (Granted k)) (requested (request_of s after.table.requests) n);
    granted = granted-answer after;
  }
    where
      requested : (o : Option Claim) → o ≢ None → is_some o ≡ true
      requested None n = absurd (n refl)
      requested (Some q) n = refl

  -- there are more rounds than requests
  few : length (st.table.requests ++ new s r k ∷ []) < length st.table.requests + 2
  few = omega (arith, length-append st.table.requests (new s r k ∷ []))

  -- a wait is settled as IsWaitSettled says
  settles : request_of s st.table.requests ≡ None → IsWaitSettled s r k st (outcome (after_wait st s r k))
  settles n =
      let v = settled-victims (length st.table.requests + 2) s waiting few in
      record { wait = waits-behind s r k st.table n; victims = v.0; one_after_another = v.1; told = told (after_wait st s r k) }

  -- a request is answered as IsAnswerTo says
  ask-answers : request_of s st.table.requests ≡ None → is_doomed st s ≡ false → at_or_below (mode_or_nothing (held_mode st.table s r)) k ≡ true → IsAnswerTo s r k st (ask st s r k)
  ask-answers n d up = record {
    held_already = λ e.
        let f = same-state (covers (held_mode st.table s r) k e) in
        (ap answer f ∙ granted-answer st d n, f);
    at_once = λ m free.
        let f = later-state true (not-covered (held_mode st.table s r) k up m) (free-granted st.table s r k free) in
        (ap answer f ∙ granted-answer (later true) d (request_of-claims_but s st.table.requests), rw f (grant-one s r k st.table), ap (λ (x : State). x.begun) f, ap (λ (x : State). x.count) f);
    later = λ m busy.
        let f = later-state false (not-covered (held_mode st.table s r) k up m) (not-free st.table s r k busy) in
        subst (λ (x : State). IsWaitSettled s r k st (outcome x)) (sym f) (settles n);
  }

  -- a request that wouldn't wait is granted, and changes no request and no transaction
  pub grants-now : request_of s st.table.requests ≡ None → is_doomed st s ≡ false → would_wait st.table s r k ≡ false
      → ((ask st s r k).reply ≡ Granted k) × ((ask st s r k).state.table.requests ≡ st.table.requests) × ((ask st s r k).state.begun ≡ st.begun)
  grants-now n d h = go (is_held (held_mode st.table s r) k) (is_granted_at_once st.table s r k) refl refl h
    where
      go : (b g : Bool) → is_held (held_mode st.table s r) k ≡ b → is_granted_at_once st.table s r k ≡ g → (not b && not g) ≡ false
          → ((ask st s r k).reply ≡ Granted k) × ((ask st s r k).state.table.requests ≡ st.table.requests) × ((ask st s r k).state.begun ≡ st.begun)
      go true g e f w = let x = same-state e in (ap answer x ∙ granted-answer st d n, ap (λ (y : State). y.table.requests) x, ap (λ (y : State). y.begun) x)
      go false true e f w =
          let x = later-state true e f in (
            ap answer x ∙ granted-answer (later true) d (request_of-claims_but s st.table.requests),
            ap (λ (y : State). y.table.requests) x ∙ claims_but-none s st.table.requests n,
            ap (λ (y : State). y.begun) x,
          )
      go false false e f w = absurd (cc)

  -- after a request, a session that isn't doomed and doesn't wait holds the target
  module _ (once : IsOnce st.table.requests) (n : request_of s st.table.requests ≡ None) (opened : is_open st s ≡ true) (up : at_or_below (mode_or_nothing (held_mode st.table s r)) k ≡ true) where
    own-request : request_of s (st.table.requests ++ new s r k ∷ []) ≡ Some (new s r k)
    own-request = request_of-push s st.table.requests (new s r k) n refl

    promoted-held : (last : Table) (q : Claim) → IsPromotionOf s q waiting.table last → held_mode last s r ≡ Some k
    promoted-held last q p =
        let same : new s r k ≡ q = let e = p.waited in let f = own-request in cc in
        subst (λ (c : Claim). held_mode last s c.resource ≡ Some c.mode) (sym same) p.held

    settled-held : is_doomed (after_wait st s r k) s ≡ false → is_waiting (after_wait st s r k) s ≡ false → held_mode (after_wait st s r k).table s r ≡ Some k
    settled-held d w =
        let v = settled-victims (length st.table.requests + 2) s waiting few in
        let kept = victims-keep s v.0 waiting (after_wait st s r k) (once-push s r k st.table.requests once n) v.1 in
        elim (among-or-not s v.0) [
          | inl i ↦ absurd (true≢false (ap doomed_in (kept.victims s i).doomed ∙ doom-dooms (st.begun s) opened) d)
          | inr m ↦ elim (kept.others s m) [
            | inl a ↦ absurd (none (is-none (request_of s (after_wait st s r k).table.requests) w) (a.request ∙ own-request))
            | inr p ↦ promoted-held (after_wait st s r k).table p.0 p.1
          ]
        ]

    asked-held : (h g : Bool) → is_held (held_mode st.table s r) k ≡ h → is_doomed (cond h st (later g)) s ≡ false → is_waiting (cond h st (later g)) s ≡ false → held_mode (cond h st (later g)).table s r ≡ Some k
    asked-held true g e d w = covered (held_mode st.table s r) k up e
    asked-held false true e d w = (grant-one s r k st.table).held
    asked-held false false e d w = settled-held d w

    ask-held : (j : Mode) → (ask st s r k).reply ≡ Granted j → held_mode (after_asking st s r k).table s r ≡ Some j
    ask-held j e =
        let p = parts (is_doomed (after_asking st s r k) s) (is_waiting (after_asking st s r k) s) e in
        asked-held (is_held (held_mode st.table s r) k) (is_granted_at_once st.table s r k) refl p.0 p.1 ∙ ap (λ (m : Mode). Some m) p.2
      where
        parts : (d w : Bool) → cond d Deadlock (cond w Waiting (Granted k)) ≡ Granted j → (d ≡ false) × (w ≡ false) × (k ≡ j)
        parts true w e = absurd (cc)
        parts false true e = absurd (cc)
        parts false false e = (refl, refl, cc)

-- a Lock that isn't refused is answered as the law states it
pub lock-asks : (st : State) → IsLockAnswered st
lock-asks st s r m h =
    let p = all-pass (tests st s (Lock r m)) (passes st s (Lock r m) h) in (
      target_of (held_mode st.table s r) m,
      target (held_mode st.table s r) m,
      subst (λ (o : Outcome). IsAnswerTo s r (target_of (held_mode st.table s r) m) st o) (sym (step-acts st s (Lock r m) h))
          (ask-answers st s r (target_of (held_mode st.table s r) m) (is-none (request_of s st.table.requests) p.1.0) p.1.1.0 (below-sup (mode_or_nothing (held_mode st.table s r)) m)),
    )

-- a Try that passes its tests is granted
try-grants : (st : State) (s : ℕ) (r : List ℕ) (m : Mode) → first_failing (tests st s (Try r m)) ≡ None →
    let k = target_of (held_mode st.table s r) m in
    ((ask st s r k).reply ≡ Granted k) × ((ask st s r k).state.table.requests ≡ st.table.requests) × ((ask st s r k).state.begun ≡ st.begun)
try-grants st s r m e =
    let p = all-pass (tests st s (Lock r m)) (try-locks st s r m e) in
    let l = last-passes (tests st s (Lock r m)) (would_wait st.table s r (target_of (held_mode st.table s r) m), WouldWait) e in
    grants-now st s r (target_of (held_mode st.table s r) m) (is-none (request_of s st.table.requests) p.1.0) p.1.1.0 l

-- a Try that isn't refused is answered as the law states it
pub try-asks : (st : State) → IsTryAnswered st
try-asks st s r m h =
    let e = passes st s (Try r m) h in (
      step-acts st s (Try r m) h ∙ sym (ap (λ (o : Option Why). outcome_of o st s (Lock r m)) (try-locks st s r m e)),
      (target_of (held_mode st.table s r) m, target (held_mode st.table s r) m, ap (λ (o : Outcome). o.reply) (step-acts st s (Try r m) h) ∙ (try-grants st s r m e).0),
    )

-- a Try leaves all waits as they are
pub try-leaves : (st : State) → DoesTryLeaveWaits st
try-leaves st s r m = go (first_failing (tests st s (Try r m))) refl
  where
    go : (o : Option Why) → first_failing (tests st s (Try r m)) ≡ o
        → ((outcome_of o st s (Try r m)).state.table.requests ≡ st.table.requests) × ((outcome_of o st s (Try r m)).state.begun ≡ st.begun)
    go None e = let g = try-grants st s r m e in (g.1, g.2)
    go (Some w) e = (refl, refl)

-- a Convert that isn't refused is answered as the law states it
pub convert-asks : (st : State) → IsConvertAnswered st
convert-asks st s r m h =
    let p = all-pass (tests st s (Convert r m)) (passes st s (Convert r m) h) in (
      target_of (held_mode st.table s r) m,
      target (held_mode st.table s r) m,
      subst (λ (o : Outcome). IsAnswerTo s r (target_of (held_mode st.table s r) m) st o) (sym (step-acts st s (Convert r m) h))
          (ask-answers st s r (target_of (held_mode st.table s r) m) (is-none (request_of s st.table.requests) p.1.0) p.1.1.0 (below-sup (mode_or_nothing (held_mode st.table s r)) m)),
    )

-- what is granted is held

-- a refusal isn't a grant
unlike : (w : Why) (j : Mode) → Refused w ≡ Granted j → ⊥
unlike w j e = cc

-- if a Lock replies Granted, the session holds the resource in that mode
pub lock-holds : (st : State) → IsOnce st.table.requests → IsGrantedHeld st
lock-holds st once s r m j = go (first_failing (tests st s (Lock r m))) refl
  where
    go : (o : Option Why) → first_failing (tests st s (Lock r m)) ≡ o → (outcome_of o st s (Lock r m)).reply ≡ Granted j → held_mode (outcome_of o st s (Lock r m)).state.table s r ≡ Some j
    go (Some w) e g = absurd (unlike w j g)
    go None e g =
        let p = all-pass (tests st s (Lock r m)) e in
        ask-held st s r (target_of (held_mode st.table s r) m) once (is-none (request_of s st.table.requests) p.1.0) (not-false (is_open st s) p.0) (below-sup (mode_or_nothing (held_mode st.table s r)) m) j g

-- if a Convert replies Granted, the session holds the resource in that mode
pub convert-holds : (st : State) → IsOnce st.table.requests → IsConversionHeld st
convert-holds st once s r m j = go (first_failing (tests st s (Convert r m))) refl
  where
    go : (o : Option Why) → first_failing (tests st s (Convert r m)) ≡ o → (outcome_of o st s (Convert r m)).reply ≡ Granted j → held_mode (outcome_of o st s (Convert r m)).state.table s r ≡ Some j
    go (Some w) e g = absurd (unlike w j g)
    go None e g =
        let p = all-pass (tests st s (Convert r m)) e in
        ask-held st s r (target_of (held_mode st.table s r) m) once (is-none (request_of s st.table.requests) p.1.0) (not-false (is_open st s) p.0) (below-sup (mode_or_nothing (held_mode st.table s r)) m) j g

-- a Lock on a resource that the session holds

-- its tests and those of a Convert give the same refusal
held-converts : (st : State) (s : ℕ) (r : List ℕ) (m k : Mode) → (o : Option Mode) → o ≡ Some k → (lacks full : Bool) →
    first_failing ((not (is_open st s), NoTransaction) ∷ (is_waiting st s, IsWaiting) ∷ (is_doomed st s, IsDoomed) ∷ (is_nothing m, NothingAsked) ∷ (lacks, ParentNotHeld) ∷ (not (is_some o) && full, TooManyLocks) ∷ [])
    ≡ first_failing ((not (is_open st s), NoTransaction) ∷ (is_waiting st s, IsWaiting) ∷ (is_doomed st s, IsDoomed) ∷ (is_nothing m, NothingAsked) ∷ (not (is_some o), NotHeld) ∷ (lacks, ParentNotHeld) ∷ [])
held-converts st s r m k None e lacks full = absurd (cc)
held-converts st s r m k (Some h) e lacks full = refl

-- a Lock on a resource that the session holds does what a Convert does
pub lock-converts : (st : State) → IsLockOfHeldConvert st
lock-converts st s r m k e =
    ap (λ (o : Option Why). outcome_of o st s (Lock r m)) (held-converts st s r m k (held_mode st.table s r) e _ _)
    ∙ same-outcome (first_failing (tests st s (Convert r m)))
  where
    same-outcome : (o : Option Why) → outcome_of o st s (Lock r m) ≡ outcome_of o st s (Convert r m)
    same-outcome None = refl
    same-outcome (Some w) = refl
