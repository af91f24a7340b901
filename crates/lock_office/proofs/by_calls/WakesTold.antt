-- No wake-up is lost, and none is idle.
use Rattle.std.proofs.Common.{◌≡◌, ◌≢◌, ℕ, ◌+◌, ◌<◌, ◌⊎◌, inl, inr, ⊎_elim, List, [], ◌∷◌, ◌++◌, length, take, drop, Contains, sym, ap, ◌∙◌, subst, arith, append-nil, append_assoc, length-append}
use Rattle.std.proofs.lemmas.Bool.{cases_Bool}
use Rattle.std.proofs.lemmas.List.{length-take-le}
use Rattle.std.proofs.Math.Seq.{drop-append_seam, take-append_seam}
use mathlib.Core.Option as opt
use lib.ListN.{get_elem?}
use Rattle.lock_rules.specs.declared.calls.Call.TheVariants.{Poll}
use Rattle.lock_rules.specs.declared.calls.Reply.TheVariants.{Clear, Deadlock}
use Rattle.lock_rules.specs.Entries.{Entry}
use Rattle.lock_rules.specs.State.{State, request_of}
use Rattle.lock_rules.specs.Step.{step}
use Rattle.lock_rules.specs.Ended.{has_ended, HasEnded, AreEndedToldByPoll, AreOthersToldAsBefore}
use Rattle.lock_rules.specs.Legal.{state_of}
use Rattle.lock_rules.proofs.Alters.{true≢false}
use Rattle.lock_rules.proofs.Histories.{state_of-push}
use Rattle.lock_rules.proofs.Ended.{ended-decides}
use Rattle.sequential.specs.EndedWaits.{HasEndedIn}
use Rattle.lock_desk.specs.Batches.{ends_wait}
use Rattle.publication.proofs.Lists.{at_there}
use Rattle.combining.proofs.EndedWaits.{split-at, elem-seam}
use Rattle.lock_office.specs.by_calls.WakeUps.{MakesNoCall}
use Rattle.lock_office.proofs.by_calls.WakeUps.{no-call-behind, wait-ended}
use Rattle.lock_office.specs.by_calls.Ended.{HasEndedAt, AreToldBy, IsToldByPoll, AreEntered, AreWakesTold}

-- no wake-up is lost

-- A wait that an entry of a stretch has ended was ended at its place.
ended-at : (history front own rest : List Entry) (places : List ℕ) (u : ℕ) → history ≡ front ++ own ++ rest → AreEntered front own places → HasEndedIn ends_wait front own u → HasEndedAt history places u
ended-at history front own rest places u whole entered h =
    let ahead = front ++ h.earlier in
    let all : history ≡ ahead ++ h.entry ∷ (h.later ++ rest)
    = whole ∙ (ap (λ (l : List Entry). (front ++ l) ++ rest) h.entries_are ∙ (append_assoc front (h.earlier ++ h.entry ∷ h.later) rest
    ∙ (ap (λ (l : List Entry). front ++ l) (append_assoc h.earlier (h.entry ∷ h.later) rest) ∙ sym (append_assoc front h.earlier (h.entry ∷ (h.later ++ rest)))))) in
    record {
      place = length ahead;
      among = entered (length ahead) (omega (arith, length-append front h.earlier))
          (omega (arith, length-append front h.earlier, ap (λ (l : List Entry). length l) h.entries_are, length-append h.earlier (h.entry ∷ h.later)));
      entry = h.entry;
      stands = ap (λ (l : List Entry). get_elem? l (length ahead)) all ∙ elem-seam ahead h.entry (h.later ++ rest);
      ended = subst (λ (l : List Entry). ends_wait l h.entry u) (sym (ap (λ (l : List Entry). take (length ahead) l) all ∙ take-append_seam ahead (h.entry ∷ (h.later ++ rest)))) h.ended;
    }

-- none is idle

module _ (told : (h : List Entry) → AreEndedToldByPoll (state_of h)) (others : (h : List Entry) → AreOthersToldAsBefore (state_of h)) where
  -- A poll tells of an ended wait.
  ended-polled : (h : List Entry) (e : Entry) (u : ℕ) → HasEnded e.session (state_of h) (step (state_of h) e.session e.call).state u → IsToldByPoll (h ++ e ∷ []) u
  ended-polled h e u ended =
      let t = told h e.session u e.call ended.waited.0 ended ended.waited.1 in
      subst (λ (st : State). ((step st u Poll).reply ≡ Clear) ⊎ ((step st u Poll).reply ≡ Deadlock)) (sym (state_of-push h e)) (⊎_elim (λ clear. inl clear.0) (λ doomed. inr doomed) t)

  -- It goes on to, through another session's call.
  one-on : (h : List Entry) (e : Entry) (u : ℕ) → e.session ≢ u → IsToldByPoll h u → IsToldByPoll (h ++ e ∷ []) u
  one-on h e u other p =
      let next : State = (step (state_of h) e.session e.call).state in
      let d = ended-decides e.session (state_of h) next u in
      ⊎_elim (λ yes. ended-polled h e u (d.0 yes))
      (λ no. let same = others h e.session u e.call (λ k. other (sym k)) (λ ended. true≢false (d.1 ended) no) in
      subst (λ (st : State). ((step st u Poll).reply ≡ Clear) ⊎ ((step st u Poll).reply ≡ Deadlock)) (sym (state_of-push h e)) (⊎_elim (λ clear. inl (same ∙ clear)) (λ doomed. inr (same ∙ doomed)) p))
      (cases_Bool (has_ended e.session (state_of h) next u))

  all-on : (h es : List Entry) (u : ℕ) → MakesNoCall u es → IsToldByPoll h u → IsToldByPoll (h ++ es) u
  all-on h [] u none p = subst (λ (l : List Entry). IsToldByPoll l u) (sym (append-nil h)) p
  all-on h (e ∷ es) u none p = subst (λ (l : List Entry). IsToldByPoll l u) (append_assoc h (e ∷ []) es)
      (all-on (h ++ e ∷ []) es u (no-call-behind u (e ∷ []) es none) (one-on h e u (none 0 e (omega arith)) p))

  -- A session whose wait was ended at a place is told so by its next poll, if it makes no call behind the place.
  polled : (history : List Entry) (places : List ℕ) (u : ℕ) (k : HasEndedAt history places u) (later : List Entry) → MakesNoCall u (drop (k.place + 1) history ++ later) → IsToldByPoll (history ++ later) u
  polled history places u k later none =
      let ahead = take k.place history in
      let split = split-at history k.place k.entry k.stands in
      let here = (at_there history k.place k.entry k.entry k.stands).1 in
      let known = ahead ++ k.entry ∷ [] in
      let whole : history ≡ known ++ split.0 = split.1 ∙ sym (append_assoc ahead (k.entry ∷ []) split.0) in
      let long : length known ≡ k.place + 1 = omega (arith, length-append ahead (k.entry ∷ []), length-take-le k.place history (omega (arith, here))) in
      let rest : drop (k.place + 1) history ≡ split.0 = ap (λ (n : ℕ). drop n history) (sym long) ∙ (ap (λ (l : List Entry). drop (length known) l) whole ∙ drop-append_seam known split.0) in
      subst (λ (l : List Entry). IsToldByPoll l u) (sym (append_assoc known split.0 later) ∙ ap (λ (l : List Entry). l ++ later) (sym whole))
      (all-on known (split.0 ++ later) u (subst (λ (l : List Entry). MakesNoCall u (l ++ later)) rest none) (ended-polled ahead k.entry u k.ended))

  -- The law.
  pub wakes-told : (n : ℕ) (history : List Entry) (places list : List ℕ) → AreToldBy n history places list → AreWakesTold n history places list
  wakes-told n history places list told = record {
    none_lost = λ front own rest u whole entered first last waited none gone.
        (told.members u).1 (first, last, ended-at history front own rest places u whole entered (wait-ended front own u waited none gone));
    none_idle = λ u has. let k = ((told.members u).0 has).2 in (k.place, k.among, λ later none. polled history places u k later none);
  }
