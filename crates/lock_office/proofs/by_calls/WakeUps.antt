-- Who tells a session that waits that its wait has ended.
use Rattle.std.proofs.Common.{◌≡◌, ◌≢◌, ◌⊎◌, inl, inr, ⊎_elim, ℕ, zero, suc, ◌+◌, ◌<◌, ◌≤◌, cond, Bool, true, false, eqb, Option, Some, None, List, [], ◌∷◌, ◌++◌, length, get_or, take, refl, sym, ap, subst, ◌∙◌, arith, append-nil, append_assoc, length-append, Contains}
use Rattle.std.specs.Prelude.{All}
use Rattle.std.proofs.lemmas.List.Elements.{All-nil, All-cons}
use Rattle.std.proofs.lemmas.Bool.Decides.{Decides-eqb}
use Rattle.std.proofs.Math.Seq.{take-append_seam}
use mathlib.Core.Option as opt
use lib.ListN.{get_elem?}
use Rattle.lock_modes.specs.declared.Mode.{Mode}
use Rattle.lock_rules.specs.declared.calls.Call.{Call}
use Rattle.lock_rules.specs.declared.calls.Call.TheVariants.{Begin, Lock, Convert, Poll, Release, Commit, Abort, Try, Withdraw, Restart}
use Rattle.lock_rules.specs.declared.calls.Reply.TheVariants.{Waiting, Deadlock, Granted, Clear}
use Rattle.lock_rules.specs.declared.calls.Why.{Why}
use Rattle.lock_rules.specs.Entries.{Entry, Answered}
use Rattle.lock_rules.specs.State.{Claim, State, empty, request_of, is_waiting}
use Rattle.lock_rules.specs.Step.{Outcome, tests, first_failing, outcome_of, step}
use Rattle.lock_rules.specs.Ended.{HasEnded}
use Rattle.lock_rules.specs.Laws.{HasRequest}
use Rattle.lock_rules.specs.Legal.{IsLegal, state_of}
use Rattle.lock_rules.proofs.Histories.{legal-steps, state_of-push}
use Rattle.lock_rules.proofs.Sessions.{waiting-decides}
use Rattle.sequential.specs.Histories.{calls_from, calls_of}
use Rattle.sequential.specs.EndedWaits.{HasEndedIn}
use Rattle.lock_desk.specs.Batches.{ends_wait}
use Rattle.publication.specs.Views.{entry, answer}
use Rattle.lock_office.specs.by_calls.WakeUps.{MakesNoCall, WasToldToWait}
use Rattle.lock_office.proofs.by_calls.ToldIsHeld.{split}

-- A session that makes no call in some entries makes none in those behind the first ones.
pub no-call-behind : (u : ℕ) (xs ys : List Entry) → MakesNoCall u (xs ++ ys) → MakesNoCall u ys
no-call-behind u [] ys h = h
no-call-behind u (x ∷ xs) ys h = no-call-behind u xs ys (λ k d few. h (suc k) d (omega (arith, few)))

-- A wait that other sessions' entries have ended

-- Entries behind more entries of the front.
pub further : (front some others : List Entry) (u : ℕ) → HasEndedIn ends_wait (front ++ some) others u → HasEndedIn ends_wait front (some ++ others) u
further front some others u h = record {
  earlier = some ++ h.earlier;
  entry = h.entry;
  later = h.later;
  entries_are = ap (λ (l : List Entry). some ++ l) h.entries_are ∙ sym (append_assoc some h.earlier (h.entry ∷ h.later));
  ended = subst (λ (l : List Entry). HasEnded h.entry.session (state_of l) (step (state_of l) h.entry.session h.entry.call).state u) (append_assoc front some h.earlier) h.ended;
}

-- A session with a request and none behind entries that are others' has had its wait ended by one of them.
pub wait-ended : (front es : List Entry) (u : ℕ) → HasRequest (state_of front) u → MakesNoCall u es → request_of u (state_of (front ++ es)).table.requests ≡ None → HasEndedIn ends_wait front es u
wait-ended front [] u waited none gone =
    let some : Some waited.0 ≡ None = sym waited.1 ∙ (ap (λ (l : List Entry). request_of u (state_of l).table.requests) (sym (append-nil front)) ∙ gone) in
    absurd (cc some)
wait-ended front (e ∷ es) u waited none gone = by_request (request_of u next.table.requests) refl (λ q is. wait-ended (front ++ e ∷ []) es u
    (q, ap (λ (st : State). request_of u st.table.requests) (state_of-push front e) ∙ is) (no-call-behind u (e ∷ []) es none)
    (ap (λ (l : List Entry). request_of u (state_of l).table.requests) (append_assoc front (e ∷ []) es) ∙ gone))
  where
    next : State
    next = (step (state_of front) e.session e.call).state

    by_request : (o : Option Claim) → request_of u next.table.requests ≡ o → ((q : Claim) → request_of u next.table.requests ≡ Some q → HasEndedIn ends_wait (front ++ e ∷ []) es u) → HasEndedIn ends_wait front (e ∷ es) u
    by_request None is later = record {
      earlier = [];
      entry = e;
      later = es;
      entries_are = refl;
      ended = subst (λ (l : List Entry). HasEnded e.session (state_of l) (step (state_of l) e.session e.call).state u) (sym (append-nil front))
          (record { another = λ same. none 0 e (omega arith) (sym same); waited = waited; waits_no_more = is });
    }
    by_request (Some q) is later = further front (e ∷ []) es u (later q is)

-- A reply Waiting

-- What is answered Waiting has a waiting request.
waits-after : (st : State) (s : ℕ) (c : Call) → (step st s c).reply ≡ Waiting → HasRequest (step st s c).state s
waits-after st s c is = by_test (first_failing (tests st s c)) c is
  where
    asked : (d w : Bool) (k : Mode) → cond d Deadlock (cond w Waiting (Granted k)) ≡ Waiting → w ≡ true
    asked true w k e = absurd (cc e)
    asked false true k e = refl
    asked false false k e = absurd (cc e)

    polled : (d w : Bool) → cond d Deadlock (cond w Waiting Clear) ≡ Waiting → w ≡ true
    polled true w e = absurd (cc e)
    polled false true e = refl
    polled false false e = absurd (cc e)

    by_test : (o : Option Why) (y : Call) → (outcome_of o st s y).reply ≡ Waiting → HasRequest (outcome_of o st s y).state s
    by_test (Some why) y e = absurd (cc e)
    by_test None Begin e = absurd (cc e)
    by_test None (Lock r m) e = (waiting-decides (outcome_of None st s (Lock r m)).state s).0 (asked _ _ _ e)
    by_test None (Convert r m) e = (waiting-decides (outcome_of None st s (Convert r m)).state s).0 (asked _ _ _ e)
    by_test None Poll e = (waiting-decides st s).0 (polled _ _ e)
    by_test None (Release r) e = absurd (cc e)
    by_test None Commit e = absurd (cc e)
    by_test None Abort e = absurd (cc e)
    by_test None (Try r m) e = (waiting-decides (outcome_of None st s (Try r m)).state s).0 (asked _ _ _ e)
    by_test None Withdraw e = absurd (cc e)
    by_test None Restart e = absurd (cc e)

-- Where an entry stands.

elem-seam : (xs : List Entry) (e : Entry) (ys : List Entry) → get_elem? (xs ++ e ∷ ys) (length xs) ≡ opt.some e
elem-seam [] e ys = refl
elem-seam (x ∷ xs) e ys = elem-seam xs e ys

-- A session that was told to wait.
module _ (h : List Entry) (legal : IsLegal h) (u : ℕ) (w : WasToldToWait h u) where
  abbrev pub told_so : List Entry
  told_so = w.front ++ entry u w.call Waiting ∷ []

  whole : h ≡ told_so ++ w.rest
  whole = w.history_is ∙ sym (append_assoc w.front (entry u w.call Waiting ∷ []) w.rest)

  asked : HasRequest (state_of told_so) u
  asked = subst (λ (st : State). HasRequest st u) (sym (state_of-push w.front (entry u w.call Waiting)))
      (waits-after (state_of w.front) u w.call (sym (legal-steps h legal w.front w.rest (entry u w.call Waiting) w.history_is)))

  -- it has a waiting request, or an entry behind that answer has ended its wait
  pub waits-or-ended : HasRequest (state_of h) u ⊎ HasEndedIn ends_wait told_so w.rest u
  waits-or-ended = by_request (request_of u (state_of h).table.requests) refl
    where
      by_request : (o : Option Claim) → request_of u (state_of h).table.requests ≡ o → HasRequest (state_of h) u ⊎ HasEndedIn ends_wait told_so w.rest u
      by_request (Some q) is = inl (q, is)
      by_request None is = inr (wait-ended told_so w.rest u asked w.quiet (ap (λ (l : List Entry). request_of u (state_of l).table.requests) (sym whole) ∙ is))

  -- where that entry stands
  pub ended-behind : HasEndedIn ends_wait told_so w.rest u → (place : ℕ) × (length w.front < place) × (place < length h) × (e : Entry) × (get_elem? h place ≡ opt.some e) × ends_wait (take place h) e u
  ended-behind k =
      let place : ℕ = length (told_so ++ k.earlier) in
      let all : h ≡ (told_so ++ k.earlier) ++ k.entry ∷ k.later = whole ∙ (ap (λ (l : List Entry). told_so ++ l) k.entries_are ∙ sym (append_assoc told_so k.earlier (k.entry ∷ k.later))) in (
        place,
        omega (arith, length-append told_so k.earlier, length-append w.front (entry u w.call Waiting ∷ [])),
        omega (arith, ap (λ (l : List Entry). length l) all, length-append (told_so ++ k.earlier) (k.entry ∷ k.later)),
        k.entry,
        ap (λ (l : List Entry). get_elem? l place) all ∙ elem-seam (told_so ++ k.earlier) k.entry k.later,
        subst (λ (l : List Entry). ends_wait l k.entry u) (sym (ap (λ (l : List Entry). take place l) all ∙ take-append_seam (told_so ++ k.earlier) (k.entry ∷ k.later))) k.ended,
      )

-- A session that collected the answer Waiting last, and has no call pending.

no-calls : (u k : ℕ) (es : List Entry) → calls_from u k es ≡ [] → MakesNoCall u es
no-calls u k [] none = All-nil (λ (x : Entry). x.session ≢ u)
no-calls u k (x ∷ xs) none = go (eqb x.session u) refl none (λ more. no-calls u (k + 1) xs more)
  where
    go : (b : Bool) → eqb x.session u ≡ b → cond b (answer k x.call x.reply ∷ calls_from u (k + 1) xs) (calls_from u (k + 1) xs) ≡ [] → (calls_from u (k + 1) xs ≡ [] → MakesNoCall u xs) → MakesNoCall u (x ∷ xs)
    go true is none more = absurd (cc none)
    go false is none more = All-cons (λ (y : Entry). y.session ≢ u) x xs (λ same. absurd (let yes = (Decides-eqb x.session u).1 same in cc (yes, is))) (more none)

pub told-to-wait : (history : List Entry) (u : ℕ) (before : List Answered) (place : ℕ) (call : Call) → calls_of u history ≡ before ++ answer place call Waiting ∷ [] → WasToldToWait history u
told-to-wait history u before place call calls =
    let t = split u 0 history before (answer place call Waiting) [] calls in
    record { front = t.front; call = call; rest = t.rest; history_is = t.whole; quiet = no-calls u t.at t.rest t.after_is }
