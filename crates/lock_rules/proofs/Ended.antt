-- Whose wait a call has ended.
use Rattle.std.proofs.Common.{◌≡◌, ◌≢◌, ℕ, zero, suc, ◌+◌, ◌<◌, ◌≤◌, ◌↔◌, Bool, true, false, cond, not, eqb, ◌&&◌, ◌⊎◌, inl, inr, List, [], ◌∷◌, ◌++◌, length, Option, Some, None, is_some, filter, refl, sym, ◌∙◌, ap, arith, subst, length-append}
use Rattle.std.specs.List.{range_with_len}
use Rattle.std.proofs.lemmas.Bool.{and_parts, and_from, not-true, cases_Bool}
use Rattle.std.proofs.lemmas.Bool.Decides.{Decides-eqb}
use Rattle.std.proofs.lemmas.List.FromFn.{length-range_with_len, get_or-range_with_len}
use Rattle.std.proofs.lemmas.List.Kept.{IsStrictlyIncreasing-filter}
use Rattle.std.specs.List.Sorted.{IsStrictlyIncreasing}
use Rattle.lock_modes.specs.declared.Mode.{Mode}
use Rattle.lock_rules.specs.declared.calls.Call.{Call}
use Rattle.lock_rules.specs.declared.calls.Call.TheVariants.{Begin, Lock, Convert, Poll, Release, Commit, Abort, Try, Withdraw, Restart}
use Rattle.lock_rules.specs.declared.calls.Reply.TheVariants.{Deadlock, Clear}
use Rattle.lock_rules.specs.declared.calls.Transaction.{Transaction}
use Rattle.lock_rules.specs.declared.calls.Why.{Why}
use Rattle.lock_rules.specs.Entries.{Entry}
use Rattle.lock_rules.specs.State.{Claim, State, held_mode, request_of, is_waiting, with_begun, with_table}
use Rattle.lock_rules.specs.Queue.{after_grant, with_request, is_granted_at_once}
use Rattle.lock_rules.specs.Waits.{doom, resource_of_request, after_cancel}
use Rattle.lock_rules.specs.Step.{target_of, tests, first_failing, is_held, after_wait, after_asking, after_release, after_end, restarted, act, outcome_of, step}
use Rattle.lock_rules.specs.Legal.{state_of}
use Rattle.lock_rules.specs.Effects.{IsPromotionOf, IsDoomOf}
use Rattle.lock_rules.specs.Ended.{has_ended, ended_waits, HasEnded, AreEndedListed, DoesNothingEndNone, AreEndedToldByPoll, AreOthersToldAsBefore}
use Rattle.lock_rules.specs.Sound.{IsNumbered}
use Rattle.lock_rules.proofs.Lists.{other}
use Rattle.sequential.proofs.Members.{Member, contains-member, member-contains}
use Rattle.sequential.proofs.Ranges.{member-range}
use Rattle.lock_rules.proofs.Alters.{request-alters, true≢false}
use Rattle.lock_rules.proofs.Cuts.{IsQuiescent}
use Rattle.lock_rules.proofs.Begins.{new, back, once-push}
use Rattle.lock_rules.proofs.Steps.{all-pass, is-none, state-lawful, try-locks}
use Rattle.lock_rules.proofs.Owners.{state-numbered}
use Rattle.lock_rules.proofs.Taken.{IsUnchangedOrPromoted, same-promotion, none, released-takes, claims-taken, granted-other}
use Rattle.lock_rules.proofs.Victims.{settled-victims}
use Rattle.lock_rules.proofs.Doomed.{victims-keep, among-or-not, cancelled-others}
use Rattle.lock_rules.proofs.Sessions.{told_of, poll-told}
use Rattle.lock_rules.proofs.Promote.{among}

-- what a call does to another session

-- its transaction is as before, and so is its request, or the request is granted; or it is a victim
abbrev Fares : ℕ → State → State → Type 0
Fares u st after = ((after.begun u ≡ st.begun u) × ((request_of u after.table.requests ≡ request_of u st.table.requests) ⊎ ((q : Claim) × IsPromotionOf u q st.table after.table))) ⊎ IsDoomOf u st after

-- a change of the table that leaves the session unchanged or grants its request, and leaves its transaction
fares : (u : ℕ) (P : List ℕ → Type 0) (st after : State) → after.begun u ≡ st.begun u → IsUnchangedOrPromoted u P st.table after.table → Fares u st after
fares u P st after b (inl a) = inl (b, inl a.request)
fares u P st after b (inr p) = inl (b, inr (p.0, p.1))

module _ (st : State) (i : IsQuiescent st.table) (u s : ℕ) (d : eqb u s ≡ false) where
  -- a wait of s and its victims
  wait-fares : (r : List ℕ) (m : Mode) → request_of s st.table.requests ≡ None → Fares u st (after_wait st s r m)
  wait-fares r m free =
      let waiting : State = with_table (with_request s r m st.table) st in
      let few : length (st.table.requests ++ new s r m ∷ []) < length st.table.requests + 2 = omega (arith, length-append st.table.requests (new s r m ∷ [])) in
      let same : request_of u waiting.table.requests ≡ request_of u st.table.requests = sym (request-alters s (with_request s r m st.table) st.table (back s r m st.table free) u d) in
      let v = settled-victims (length st.table.requests + 2) s waiting few in
      let kept = victims-keep s v.0 waiting (after_wait st s r m) (once-push s r m st.table.requests i.sound.once free) v.1 in
      elim (among-or-not u v.0) [
        | inl k ↦
            let e = kept.victims u k in
            inr (record { waited = (e.waited.0, sym same ∙ e.waited.1); waits_no_more = e.waits_no_more; doomed = e.doomed; held = e.held })
        | inr k ↦ elim (kept.others u k) [
          | inl a ↦ inl (kept.others_begun u k, inl (a.request ∙ same))
          | inr p ↦ inl (kept.others_begun u k, inr (p.0, same-promotion u p.0 st.table waiting.table (after_wait st s r m).table (record { held = λ x. refl; request = same }) p.1))
        ]
      ]

  -- a request of s
  asked-fares : (r : List ℕ) (m : Mode) → request_of s st.table.requests ≡ None → Fares u st (after_asking st s r m)
  asked-fares r m free = go (is_held (held_mode st.table s r) m) (is_granted_at_once st.table s r m)
    where
      go : (b g : Bool) → Fares u st (cond b st (cond g (with_table (after_grant s r m st.table) st) (after_wait st s r m)))
      go true g = inl (refl, inl refl)
      go false true = inl (refl, inl (granted-other u (new s r m) st.table d).request)
      go false false = wait-fares r m free

  -- the session is another
  apart : u ≢ s
  apart e = true≢false ((Decides-eqb u s).1 e) d

  -- the end or restart of the transaction of s
  ended-fares : (o : Option Transaction) → Fares u st (with_begun s o (with_table (after_end s st.table) st))
  ended-fares o =
      let taken = claims-taken s o st i.sound in
      elim (taken.others u apart) [
        | inl a ↦ inl (taken.others_open u apart, inl a.request)
        | inr p ↦ inl (taken.others_open u apart, inr (p.0, p.1))
      ]

  -- a call of s that passes its tests
  act-fares : (c : Call) → first_failing (tests st s c) ≡ None → Fares u st (act st s c).state
  act-fares Begin h = inl (ap (λ (b : Bool). cond b (Some (record { number = st.count + 1; doomed = false })) (st.begun u)) d, inl refl)
  act-fares (Lock r m) h = let p = all-pass (tests st s (Lock r m)) h in asked-fares r (target_of (held_mode st.table s r) m) (is-none (request_of s st.table.requests) p.1.0)
  act-fares (Convert r m) h = let p = all-pass (tests st s (Convert r m)) h in asked-fares r (target_of (held_mode st.table s r) m) (is-none (request_of s st.table.requests) p.1.0)
  act-fares Poll h = inl (refl, inl refl)
  act-fares (Release r) h =
      let p = all-pass (tests st s (Release r)) h in
      let taken = released-takes s r st i.sound (is-none (request_of s st.table.requests) p.1.0) p.1.1.1.1.0 in
      fares u (λ x. x ≡ r) st (with_table (after_release s r st.table) st) refl (taken.others u apart)
  act-fares Commit h = ended-fares None
  act-fares Abort h = ended-fares None
  act-fares (Try r m) h = let p = all-pass (tests st s (Lock r m)) (try-locks st s r m h) in asked-fares r (target_of (held_mode st.table s r) m) (is-none (request_of s st.table.requests) p.1.0)
  act-fares Withdraw h = fares u (λ x. among (resource_of_request (request_of s st.table.requests)) x ≡ true) st (with_table (after_cancel s st.table) st) refl (cancelled-others s st.table i.sound.once u d)
  act-fares Restart h = ended-fares (restarted (st.begun s))

  -- any call of s
  step-fares : (c : Call) → Fares u st (step st s c).state
  step-fares c = go (first_failing (tests st s c)) refl
    where
      go : (o : Option Why) → first_failing (tests st s c) ≡ o → Fares u st (outcome_of o st s c).state
      go None h = act-fares c h
      go (Some y) h = inl (refl, inl refl)

-- polls

-- two states with the same transaction and the same request are told the same
told-same : (st after : State) (u : ℕ) → after.begun u ≡ st.begun u → request_of u after.table.requests ≡ request_of u st.table.requests → (step after u Poll).reply ≡ (step st u Poll).reply
told-same st after u b e = poll-told after u ∙ ap (λ (o : Option Transaction). told_of o (request_of u after.table.requests)) b ∙ ap (told_of (st.begun u)) e ∙ sym (poll-told st u)

-- a doomed transaction is told Deadlock
told-doomed : (o : Option Transaction) (w : Option Claim) → is_some o ≡ true → told_of (doom o) w ≡ Deadlock
told-doomed None w e = absurd (cc)
told-doomed (Some x) w e = refl

-- without a request, a session that waited before is told Clear or Deadlock
told-over : (o : Option Transaction) → is_some o ≡ true → (told_of o None ≡ Clear) ⊎ (told_of o None ≡ Deadlock)
told-over None e = absurd (cc)
told-over (Some x) e = go x.doomed
  where
    go : (b : Bool) → (cond b Deadlock Clear ≡ Clear) ⊎ (cond b Deadlock Clear ≡ Deadlock)
    go true = inr refl
    go false = inl refl

-- an ended wait is told by a poll
pub ended-told : (st : State) → IsQuiescent st.table → IsNumbered st → AreEndedToldByPoll st
ended-told st i n s u c q h w = elim (step-fares st i u s (other s u h.another) c) [
  | inl k ↦ elim k.1 [
    | inl same ↦ absurd (none (sym same ∙ h.waits_no_more) w)
    | inr p ↦
        let e = p.1.waited in
        let f : q ≡ p.0 = cc in
        let reply = poll-told (step st s c).state u ∙ ap (told_of ((step st s c).state.begun u)) h.waits_no_more in
        let open_ : is_some ((step st s c).state.begun u) ≡ true = ap (λ (o : Option Transaction). is_some o) k.0 ∙ n.owners.waiting u q w in
        elim (told-over ((step st s c).state.begun u) open_) [
          | inl clear ↦ inl (reply ∙ clear, subst (λ (x : Claim). held_mode (step st s c).state.table u x.resource ≡ Some x.mode) (sym f) p.1.held)
          | inr doomed ↦ inr (reply ∙ doomed)
        ]
  ]
  | inr e ↦ inr (poll-told (step st s c).state u ∙ ap (λ (o : Option Transaction). told_of o (request_of u (step st s c).state.table.requests)) e.doomed ∙ told-doomed (st.begun u) (request_of u (step st s c).state.table.requests) (n.owners.waiting u q w))
]

-- a promoted or doomed session's wait has ended
pub others-told : (st : State) → IsQuiescent st.table → AreOthersToldAsBefore st
others-told st i s u c apart_ h = elim (step-fares st i u s (other s u apart_) c) [
  | inl k ↦ elim k.1 [
    | inl same ↦ told-same st (step st s c).state u k.0 same
    | inr p ↦ absurd (h (record { another = apart_; waited = (p.0, p.1.waited); waits_no_more = p.1.waits_no_more }))
  ]
  | inr e ↦ absurd (h (record { another = apart_; waited = e.waited; waits_no_more = e.waits_no_more }))
]

-- the list

-- has_ended says HasEnded
pub ended-decides : (s : ℕ) (before after : State) (u : ℕ) → (has_ended s before after u ≡ true) ↔ HasEnded s before after u
ended-decides s before after u = (there, back_)
  where
    waited : (o : Option Claim) → is_some o ≡ true → (q : Claim) × (o ≡ Some q)
    waited None e = absurd (cc)
    waited (Some q) e = (q, refl)

    gone : (o : Option Claim) → not (is_some o) ≡ true → o ≡ None
    gone None e = refl
    gone (Some q) e = absurd (cc)

    there : has_ended s before after u ≡ true → HasEnded s before after u
    there h =
        let p = and_parts (not (eqb u s)) (is_waiting before u && not (is_waiting after u)) h in
        let q = and_parts (is_waiting before u) (not (is_waiting after u)) p.1 in
        record {
          another = λ e. true≢false ((Decides-eqb u s).1 e) (not-true (eqb u s) p.0);
          waited = waited (request_of u before.table.requests) q.0;
          waits_no_more = gone (request_of u after.table.requests) q.1;
        }

    back_ : HasEnded s before after u → has_ended s before after u ≡ true
    back_ h =
        and_from (not (eqb u s)) (is_waiting before u && not (is_waiting after u)) (ap not (other s u h.another))
        (and_from (is_waiting before u) (not (is_waiting after u)) (ap (λ (o : Option Claim). is_some o) h.waited.1) (ap (λ (o : Option Claim). not (is_some o)) h.waits_no_more))

-- the numbers of a range rise
range-rises : (n a : ℕ) → IsStrictlyIncreasing (range_with_len a n)
range-rises n a k within =
    let l = length-range_with_len a n in
    let e = get_or-range_with_len a n k 0 (omega (arith, l, within)) in
    let f = get_or-range_with_len a n (k + 1) 0 (omega (arith, l, within)) in
    omega (arith, e, f)

-- the list is as AreEndedListed says
pub ended-listed : (n s : ℕ) (before after : State) → AreEndedListed n s before after
ended-listed n s before after = record {
  listed = λ u.
      let m = member-range (has_ended s before after) n 1 u in
      let d = ended-decides s before after u in (
        λ h. let k = m.0 (contains-member u (ended_waits n s before after) h) in let l = k.1 in (k.0, omega (arith, l), d.0 k.2),
        λ h. let l = h.1 in member-contains u (ended_waits n s before after) (m.1 (h.0, omega (arith, l), d.1 h.2)),
      );
  rising = IsStrictlyIncreasing-filter (has_ended s before after) (range_with_len 1 n) (range-rises n 1);
}

-- a list without members is empty
no-members : (xs : List ℕ) → ((u : ℕ) → Member u xs → ⊥) → xs ≡ []
no-members [] h = refl
no-members (x ∷ xs) h = absurd (h x (inl refl))

-- without a change of the requests no wait has ended
pub nothing-ends : (st : State) → DoesNothingEndNone st
nothing-ends st n s c e = no-members (ended_waits n s st (step st s c).state) (λ u m.
    let k = (member-range (has_ended s st (step st s c).state) n 1 u).0 m in
    let h = (ended-decides s st (step st s c).state u).0 k.2 in
    none (ap (request_of u) (sym e) ∙ h.waits_no_more) h.waited.1)

-- the laws in the state that a history leads to
pub ended-told-after : (es : List Entry) → AreEndedToldByPoll (state_of es)
ended-told-after es = ended-told (state_of es) (state-lawful es) (state-numbered es)

pub others-told-after : (es : List Entry) → AreOthersToldAsBefore (state_of es)
others-told-after es = others-told (state_of es) (state-lawful es)
