-- A request stands until it is granted, its session becomes a victim or cancels it.
use Rattle.std.proofs.Common.{◌≡◌, ℕ, ◌+◌, ◌<◌, Bool, true, false, cond, eqb, ◌⊎◌, inl, inr, List, [], ◌∷◌, ◌++◌, length, Option, Some, None, is_some, refl, sym, ◌∙◌, ap, arith, length-append}
use Rattle.std.proofs.lemmas.Bool.Decides.{Decides-eqb}
use Rattle.std.proofs.lemmas.Bool.{cases_Bool}
use Rattle.lock_modes.specs.declared.Mode.{Mode}
use Rattle.lock_rules.specs.declared.calls.Call.{Call}
use Rattle.lock_rules.specs.declared.calls.Call.TheVariants.{Begin, Lock, Convert, Poll, Release, Commit, Abort, Try, Withdraw, Restart}
use Rattle.lock_rules.specs.declared.calls.Why.{Why}
use Rattle.lock_rules.specs.Entries.{Entry}
use Rattle.lock_rules.specs.declared.calls.Transaction.{Transaction}
use Rattle.lock_rules.specs.State.{Claim, Table, State, held_mode, request_of, is_waiting, with_begun, with_table}
use Rattle.lock_rules.specs.Queue.{after_grant, with_request, is_granted_at_once}
use Rattle.lock_rules.specs.Waits.{doom, resource_of_request, after_cancel}
use Rattle.lock_rules.specs.Step.{target_of, tests, first_failing, is_held, after_wait, after_asking, after_release, after_end, restarted, act, outcome_of, step}
use Rattle.lock_rules.specs.Legal.{state_of}
use Rattle.lock_rules.specs.Laws.{IsRequestOver, DoesCancelRequest, DoesWaitOn, DoesRequestStand}
use Rattle.lock_rules.specs.Effects.{HasNoClaimOn, IsWantedBy}
use Rattle.lock_rules.specs.Sound.{IsNumbered}
use Rattle.lock_rules.proofs.Lists.{apart, request_of-claims_but_other}
use Rattle.lock_rules.proofs.Alters.{request-alters, true≢false}
use Rattle.lock_rules.proofs.Cuts.{IsQuiescent}
use Rattle.lock_rules.proofs.Begins.{new, back, once-push}
use Rattle.lock_rules.proofs.Steps.{all-pass, is-none, step-lawful, state-lawful, try-locks}
use Rattle.lock_rules.proofs.Owners.{step-numbered, state-numbered}
use Rattle.lock_rules.proofs.Taken.{IsUnchangedOrPromoted, released-takes, claims-taken}
use Rattle.lock_rules.proofs.Victims.{settled-victims}
use Rattle.lock_rules.proofs.Doomed.{victims-keep, among-or-not, cancelled-others}
use Rattle.lock_rules.proofs.Promote.{among}

module _ (s : ℕ) (q : Claim) where
  -- the request is over or still waits
  abbrev GoesOn : State → Type 0
  GoesOn st = IsRequestOver s q st ⊎ (request_of s st.table.requests ≡ Some q)

  -- a change that leaves the session unchanged or grants its request lets the request go on
  served-goes_on : (P : List ℕ → Type 0) (t : Table) (st : State) → request_of s t.requests ≡ Some q → IsUnchangedOrPromoted s P t st.table → GoesOn st
  served-goes_on P t st w (inl a) = inr (a.request ∙ w)
  served-goes_on P t st w (inr p) =
      let e = p.1.waited in
      let same : p.0 ≡ q = cc in
      inl (p.1.waits_no_more, inl (ap (λ (c : Claim). held_mode st.table s c.resource) (sym same) ∙ (p.1.held ∙ ap (λ (c : Claim). Some c.mode) same)))

  -- the doom of an open transaction is a doomed transaction
  doom-open : (o : Option Transaction) → is_some o ≡ true → (x : Transaction) × (doom o ≡ Some x) × (x.doomed ≡ true)
  doom-open None e = absurd (cc)
  doom-open (Some x) e = (record { number = x.number; doomed = true }, refl, refl)

  module _ (st : State) (i : IsQuiescent st.table) (n : IsNumbered st) (w : request_of s st.table.requests ≡ Some q) where
    -- a session that doesn't wait is another
    apart-from : (u : ℕ) → is_waiting st u ≡ false → eqb s u ≡ false
    apart-from u f = elim (cases_Bool (eqb s u)) [
      | inl e ↦ absurd (true≢false (ap (λ (o : Option Claim). is_some o) w) (ap (λ (v : ℕ). is_waiting st v) ((Decides-eqb s u).0 e) ∙ f))
      | inr e ↦ e
    ]

    -- a wait of another session and its victims let the request go on
    wait-goes_on : (u : ℕ) (r : List ℕ) (m : Mode) → eqb s u ≡ false → request_of u st.table.requests ≡ None → GoesOn (after_wait st u r m)
    wait-goes_on u r m d free =
        let waiting : State = with_table (with_request u r m st.table) st in
        let few : length (st.table.requests ++ new u r m ∷ []) < length st.table.requests + 2 = omega (arith, length-append st.table.requests (new u r m ∷ [])) in
        let before : request_of s waiting.table.requests ≡ Some q = sym (request-alters u (with_request u r m st.table) st.table (back u r m st.table free) s d) ∙ w in
        let v = settled-victims (length st.table.requests + 2) u waiting few in
        let kept = victims-keep u v.0 waiting (after_wait st u r m) (once-push u r m st.table.requests i.sound.once free) v.1 in
        elim (among-or-not s v.0) [
          | inl k ↦
              let d = kept.victims s k in
              let x = doom-open (st.begun s) (n.owners.waiting s q w) in
              inl (d.waits_no_more, inr (x.0, d.doomed ∙ x.1, x.2))
          | inr k ↦ served-goes_on (λ y. IsWantedBy v.0 waiting.table y) waiting.table (after_wait st u r m) before (kept.others s k)
        ]

    -- a request of a session that doesn't wait lets this one go on
    asked-goes_on : (u : ℕ) (r : List ℕ) (m : Mode) → is_waiting st u ≡ false → GoesOn (after_asking st u r m)
    asked-goes_on u r m f = go (is_held (held_mode st.table u r) m) (is_granted_at_once st.table u r m)
      where
        d : eqb s u ≡ false
        d = apart-from u f

        go : (b g : Bool) → GoesOn (cond b st (cond g (with_table (after_grant u r m st.table) st) (after_wait st u r m)))
        go true g = inr w
        go false true = inr (request_of-claims_but_other s u st.table.requests d ∙ w)
        go false false = wait-goes_on u r m d (is-none (request_of u st.table.requests) f)

    -- the call is the session's own and cancels its request, or the request goes on
    abbrev Stands : ℕ → Call → State → Type 0
    Stands u c after = ((u ≡ s) × DoesCancelRequest c) ⊎ GoesOn after

    -- another session that loses its claims, as its transaction ends or restarts, lets the request go on
    ended-goes_on : (u : ℕ) (o : Option Transaction) → eqb s u ≡ false → GoesOn (with_begun u o (with_table (after_end u st.table) st))
    ended-goes_on u o d = served-goes_on (λ x. HasNoClaimOn st.table u x → ⊥) st.table (with_begun u o (with_table (after_end u st.table) st)) w ((claims-taken u o st i.sound).others s (apart u s d))

    -- a call that passes its tests is the session's own and cancels its request, or the request goes on
    act-stands : (u : ℕ) (c : Call) → first_failing (tests st u c) ≡ None → Stands u c (act st u c).state
    act-stands u Begin h = inr (inr w)
    act-stands u (Lock r m) h = let p = all-pass (tests st u (Lock r m)) h in inr (asked-goes_on u r (target_of (held_mode st.table u r) m) p.1.0)
    act-stands u (Convert r m) h = let p = all-pass (tests st u (Convert r m)) h in inr (asked-goes_on u r (target_of (held_mode st.table u r) m) p.1.0)
    act-stands u Poll h = inr (inr w)
    act-stands u (Release r) h =
        let p = all-pass (tests st u (Release r)) h in
        let taken = released-takes u r st i.sound (is-none (request_of u st.table.requests) p.1.0) p.1.1.1.1.0 in
        inr (served-goes_on (λ x. x ≡ r) st.table (with_table (after_release u r st.table) st) w (taken.others s (apart u s (apart-from u p.1.0))))
    act-stands u Commit h = let p = all-pass (tests st u Commit) h in inr (ended-goes_on u None (apart-from u p.1.0))
    act-stands u Abort h = elim (cases_Bool (eqb s u)) [
      | inl e ↦ inl (sym ((Decides-eqb s u).0 e), inl refl)
      | inr d ↦ inr (ended-goes_on u None d)
    ]
    act-stands u (Try r m) h = let p = all-pass (tests st u (Lock r m)) (try-locks st u r m h) in inr (asked-goes_on u r (target_of (held_mode st.table u r) m) p.1.0)
    act-stands u Withdraw h = elim (cases_Bool (eqb s u)) [
      | inl e ↦ inl (sym ((Decides-eqb s u).0 e), inr (inl refl))
      | inr d ↦ inr (served-goes_on (λ x. among (resource_of_request (request_of u st.table.requests)) x ≡ true) st.table (with_table (after_cancel u st.table) st) w (cancelled-others u st.table i.sound.once s d))
    ]
    act-stands u Restart h = elim (cases_Bool (eqb s u)) [
      | inl e ↦ inl (sym ((Decides-eqb s u).0 e), inr (inr refl))
      | inr d ↦ inr (ended-goes_on u (restarted (st.begun u)) d)
    ]

    -- every call is the session's own and cancels its request, or the request goes on
    step-stands : (u : ℕ) (c : Call) → Stands u c (step st u c).state
    step-stands u c = go (first_failing (tests st u c)) refl
      where
        go : (o : Option Why) → first_failing (tests st u c) ≡ o → Stands u c (outcome_of o st u c).state
        go None h = act-stands u c h
        go (Some y) h = inr (inr w)

  -- through a list of calls the session waits on
  waits-on : (es : List Entry) (st : State) → IsQuiescent st.table → IsNumbered st → request_of s st.table.requests ≡ Some q → DoesWaitOn s q st es
  waits-on [] st i n w = w
  waits-on (e ∷ es) st i n w = (
    w,
    elim (step-stands st i n w e.session e.call) [
      | inl own ↦ inl own
      | inr k ↦ elim k [
        | inl over ↦ inr (inl over)
        | inr on ↦ inr (inr (waits-on es (step st e.session e.call).state (step-lawful st e.session e.call i) (step-numbered st e.session e.call n) on))
      ]
    ],
  )

-- a request stands, as the law states it
pub request-stands : (front rest : List Entry) → DoesRequestStand front rest
request-stands front rest s q w = waits-on s q rest (state_of front) (state-lawful front) (state-numbered front) w
