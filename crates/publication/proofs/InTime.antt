-- The calls so far stay linearizable: while nobody notes an event and the history stays, with one event more, and with one entry
-- more.
use Rattle.std.proofs.Common.{◌≡◌, ◌≢◌, ◌⊎◌, inl, inr, ℕ, suc, ◌+◌, ◌<◌, ◌≤◌, Option, Some, None, List, [], ◌∷◌, ◌++◌, length, map, refl, sym, ap, subst, ◌∙◌, arith, length-append}
use Rattle.std.proofs.lemmas.List.{map-append}
use mathlib.Core.Option as opt
use mathlib.Core.Logic.{dite}
use native.Mathlib.Decide.{ℕ_discrete}
use lib.ListN.{get_elem?}
use Rattle.sequential.specs.declared.entry.Entry.{Entry}
use Rattle.sequential.specs.declared.object.Sequential.{Ghosts}
use Rattle.sequential.specs.Histories.{Answered, IsEntryWithin}
use Rattle.sequential.specs.Linearizable.{Event, invocation, response, Calls, calls_in, MayFollow, performed_by, IsCompletionOf}
use Rattle.publication.specs.Moments.{session_of, noted_by}
use Rattle.publication.specs.Views.{Pending, Own, answer}
use Rattle.publication.specs.Rule.{own_at, RecordState, call_of, calls_known, IsInTime}
use Rattle.publication.specs.Rule.RecordState.{vacant, posted, busy, served, retired}
use Rattle.publication.specs.declared.slot.SlotValue.{SlotValue}
use Rattle.publication.proofs.Moments.{noted-mine, noted-other, calls-other, calls-made, calls-returned}
use Rattle.publication.proofs.LinearEvents.{well_formed-push, event-linear, entry-linear}

-- A function that gives the same of each element of a list.
pub same_map : {A B : Type 0} (f g : A → B) (l : List A) → ((p : ℕ) (x : A) → get_elem? l p ≡ opt.some x → f x ≡ g x) → map f l ≡ map g l
same_map f g [] same = refl
same_map f g (x ∷ xs) same = let a = same 0 x refl in let b = same_map f g xs (λ p y at. same (suc p) y at) in cc (a, b)

module _ {C R : Type 0} where
  -- A session notes one event, which may happen now.
  abbrev pub NotesOne : ℕ → List (Event C R) → ℕ → Own C R → Own C R → Type 0
  NotesOne sessions events i before after = (event : Event C R) × (session_of event ≡ i) × MayFollow sessions events event
      × (after.log ≡ before.log ++ (length events, event) ∷ []) × (calls_in i (events ++ event ∷ []) ≡ calls_known after)

  -- What a session notes by a step: nothing, and it knows of its calls what it knew; or one event.
  abbrev pub NotesAtMostOne : ℕ → List (Event C R) → ℕ → Own C R → Own C R → Type 0
  NotesAtMostOne sessions events i before after = ((after.log ≡ before.log) × (calls_known after ≡ calls_known before)) ⊎ NotesOne sessions events i before after

  -- The history agrees with what a session knows of its calls, in each state of its record.
  pub completes : {O : Type 0} {h : List (Entry C R)} {i w : ℕ} {slot : opt.Option (SlotValue O C R)} {o : Own C R} → RecordState h i w slot o → IsCompletionOf (calls_known o) (performed_by i h)
  completes (vacant t) = inl (ap (λ (l : List (Answered C R)). map (λ a. (a.call, a.reply)) l) t.calls)
  completes (posted call floor t) = inl (ap (λ (l : List (Answered C R)). map (λ a. (a.call, a.reply)) l) t.calls)
  completes (busy call floor t) = inl (ap (λ (l : List (Answered C R)). map (λ a. (a.call, a.reply)) l) t.calls)
  completes {o} (served call floor place reply t) = inr (
    call,
    reply,
    ap call_of t.some,
    ap (λ (l : List (Answered C R)). map (λ a. (a.call, a.reply)) l) t.calls ∙ map-append (λ (a : Answered C R). (a.call, a.reply)) o.collected (answer place call reply ∷ []),
  )
  completes (retired t) = inl (ap (λ (l : List (Answered C R)). map (λ a. (a.call, a.reply)) l) t.calls)

module _ {O C R : Type 0} {obj : Ghosts O C R} where
  module _ (h : List (Entry C R)) (slots : ℕ) (owns : List (Own C R)) (t : IsInTime obj h slots owns) where
    -- Nobody notes an event, or knows more of its calls.
    quiet : (later : List (Own C R)) → ((j : ℕ) → ((own_at later j).log ≡ (own_at owns j).log) × (calls_known (own_at later j) ≡ calls_known (own_at owns j))) → IsInTime obj h slots later
    quiet later same = record {
      events = t.events;
      sessions = t.sessions;
      sessions_are = t.sessions_are;
      well_formed = t.well_formed;
      linear = t.linear;
      logs = λ j. (same j).0 ∙ t.logs j;
      calls = λ j. t.calls j ∙ sym (same j).1;
    }

    -- Session i notes an event.
    module _ (later : List (Own C R)) (i : ℕ) (e : Event C R) (is : session_of e ≡ i) (may : MayFollow t.sessions t.events e) (log : (own_at later i).log ≡ (own_at owns i).log ++ (length t.events, e) ∷ [])
        (knows : calls_in i (t.events ++ e ∷ []) ≡ calls_known (own_at later i)) (others : (j : ℕ) → j ≢ i → own_at later j ≡ own_at owns j)
        (complete : (j : ℕ) → 0 < j → j < slots → IsCompletionOf (calls_known (own_at later j)) (performed_by j h)) where
      other : (j : ℕ) → j ≢ i → session_of e ≢ j
      other j ne z = ne (sym z ∙ is)

      calls_now : (j : ℕ) → calls_in j (t.events ++ e ∷ []) ≡ calls_known (own_at later j)
      calls_now j = dite (ℕ_discrete j i)
          (λ same. subst (λ (k : ℕ). calls_in k (t.events ++ e ∷ []) ≡ calls_known (own_at later k)) (sym same) knows)
          (λ ne. calls-other j t.events e (other j ne) ∙ (t.calls j ∙ ap (λ (o : Own C R). calls_known o) (sym (others j ne))))

      event : IsInTime obj h slots later
      event = record {
        events = t.events ++ e ∷ [];
        sessions = t.sessions;
        sessions_are = t.sessions_are;
        well_formed = well_formed-push t.sessions t.events e t.well_formed may;
        linear = event-linear t.sessions t.events h e t.linear
            (λ j some few. subst (λ (d : Calls C R). IsCompletionOf d (performed_by j h)) (sym (calls_now j)) (complete j (omega (arith, some)) (omega (arith, few, t.sessions_are))));
        logs = λ j. dite (ℕ_discrete j i)
            (λ same. subst (λ (k : ℕ). (own_at later k).log ≡ noted_by k (t.events ++ e ∷ [])) (sym same)
            (log ∙ (ap (λ (l : List (ℕ × Event C R)). l ++ (length t.events, e) ∷ []) (t.logs i) ∙ sym (noted-mine i t.events e is))))
            (λ ne. ap (λ (o : Own C R). o.log) (others j ne) ∙ (t.logs j ∙ sym (noted-other j t.events e (other j ne))));
        calls = calls_now;
      }

      -- There is one event more then.
      event_longer : (u : IsInTime obj h slots later) × (length u.events ≡ length t.events + 1)
      unfolding event
      event_longer = (event, omega (arith, length-append t.events (e ∷ [])))

    -- Session i notes one event.
    pub noted_one : (later : List (Own C R)) (i : ℕ) (o w : Own C R) → o ≡ own_at owns i → own_at later i ≡ w → ((j : ℕ) → j ≢ i → own_at later j ≡ own_at owns j) → NotesOne t.sessions t.events i o w
        → ((j : ℕ) → 0 < j → j < slots → IsCompletionOf (calls_known (own_at later j)) (performed_by j h)) → (u : IsInTime obj h slots later) × (length u.events ≡ length t.events + 1)
    noted_one later i o w mine now others e complete = event_longer later i e.0 e.1 e.2
        (ap (λ (x : Own C R). x.log) now ∙ (e.3 ∙ ap (λ (x : Own C R). x.log ++ (length t.events, e.0) ∷ []) mine))
        (e.4 ∙ ap (λ (x : Own C R). calls_known x) (sym now)) others complete

    -- Session i notes at most one event.
    pub noted_event : (later : List (Own C R)) (i : ℕ) (o w : Own C R) → o ≡ own_at owns i → own_at later i ≡ w → ((j : ℕ) → j ≢ i → own_at later j ≡ own_at owns j) → NotesAtMostOne t.sessions t.events i o w
        → ((j : ℕ) → 0 < j → j < slots → IsCompletionOf (calls_known (own_at later j)) (performed_by j h)) → IsInTime obj h slots later
    noted_event later i o w mine now others (inl same) complete = quiet later (λ j. dite (ℕ_discrete j i)
        (λ e. subst (λ (k : ℕ). ((own_at later k).log ≡ (own_at owns k).log) × (calls_known (own_at later k) ≡ calls_known (own_at owns k))) (sym e)
        (ap (λ (x : Own C R). x.log) now ∙ (same.0 ∙ ap (λ (x : Own C R). x.log) mine), ap (λ (x : Own C R). calls_known x) now ∙ (same.1 ∙ ap (λ (x : Own C R). calls_known x) mine)))
        (λ ne. (ap (λ (x : Own C R). x.log) (others j ne), ap (λ (x : Own C R). calls_known x) (others j ne))))
    noted_event later i o w mine now others (inr e) complete = (noted_one later i o w mine now others e complete).0

    -- The history has one entry more.
    entry_more : (e : Entry C R) → obj.is_legal (h ++ e ∷ []) → IsEntryWithin t.sessions e → ((j : ℕ) → 0 < j → j < slots → IsCompletionOf (calls_known (own_at owns j)) (performed_by j (h ++ e ∷ [])))
        → IsInTime obj (h ++ e ∷ []) slots owns
    entry_more e legal within complete = record {
      events = t.events;
      sessions = t.sessions;
      sessions_are = t.sessions_are;
      well_formed = t.well_formed;
      linear = entry-linear t.sessions t.events h e t.linear legal within
          (λ j some few. subst (λ (d : Calls C R). IsCompletionOf d (performed_by j (h ++ e ∷ []))) (sym (t.calls j)) (complete j (omega (arith, some)) (omega (arith, few, t.sessions_are))));
      logs = t.logs;
      calls = t.calls;
    }

    -- There are as many events then.
    pub entered_more : (e : Entry C R) → obj.is_legal (h ++ e ∷ []) → IsEntryWithin t.sessions e → ((j : ℕ) → 0 < j → j < slots → IsCompletionOf (calls_known (own_at owns j)) (performed_by j (h ++ e ∷ [])))
        → (u : IsInTime obj (h ++ e ∷ []) slots owns) × (length u.events ≡ length t.events)
    unfolding entry_more
    entered_more e legal within complete = (entry_more e legal within complete, refl)

module _ {C R : Type 0} where
  -- What a session knows of its calls, with no other call pending.
  pub same_known : (o w : Own C R) → w.collected ≡ o.collected → w.pending ≡ o.pending → calls_known w ≡ calls_known o
  same_known o w collected pending =
      ap (λ (l : List (Answered C R)). record { returned = map (λ a. (a.call, a.reply)) l; pending = call_of w.pending }) collected
      ∙ ap (λ (p : Option (Pending C)). record { returned = map (λ a. (a.call, a.reply)) o.collected; pending = call_of p }) pending

module _ {O C R : Type 0} {obj : Ghosts O C R} where
  module _ (h : List (Entry C R)) (slots : ℕ) (owns : List (Own C R)) (t : IsInTime obj h slots owns) (i : ℕ) (o w : Own C R) (mine : o ≡ own_at owns i) (some : 0 < i) (small : i < slots) (k : ℕ) (is : k ≡ i) where
    before : calls_in i t.events ≡ calls_known o
    before = t.calls i ∙ ap (λ (x : Own C R). calls_known x) (sym mine)

    -- The session makes a call.
    pub invokes : (call : C) → o.pending ≡ None → w.log ≡ o.log ++ (length t.events, invocation k call) ∷ [] → w.collected ≡ o.collected → call_of w.pending ≡ Some call → NotesOne t.sessions t.events i o w
    invokes call none log collected pending = (
      invocation k call,
      is,
      subst (λ (j : ℕ). (1 ≤ j) × (j ≤ t.sessions) × ((calls_in j t.events).pending ≡ None)) (sym is)
          (omega (arith, some), omega (arith, small, t.sessions_are), ap (λ (d : Calls C R). d.pending) before ∙ ap {B = Option C} call_of none),
      log,
      subst (λ (j : ℕ). calls_in i (t.events ++ invocation j call ∷ []) ≡ calls_known w) (sym is)
          (calls-made i t.events call ∙ (ap (λ (d : Calls C R). record { returned = d.returned; pending = Some call }) before
          ∙ (ap (λ (l : List (Answered C R)). record { returned = map (λ a. (a.call, a.reply)) l; pending = Some call }) (sym collected)
          ∙ ap (λ (p : Option C). record { returned = map (λ a. (a.call, a.reply)) w.collected; pending = p }) (sym pending)))),
    )

    -- Its call returns.
    pub responds : (call : C) (place : ℕ) (reply : R) → call_of o.pending ≡ Some call → w.log ≡ o.log ++ (length t.events, response k reply) ∷ [] → w.collected ≡ o.collected ++ answer place call reply ∷ [] → w.pending ≡ None
        → NotesOne t.sessions t.events i o w
    responds call place reply waits log collected none =
        let pending : (calls_in i t.events).pending ≡ Some call = ap (λ (d : Calls C R). d.pending) before ∙ waits in (
          response k reply,
          is,
          subst (λ (j : ℕ). (1 ≤ j) × (j ≤ t.sessions) × ((calls_in j t.events).pending ≢ None)) (sym is)
              (omega (arith, some), omega (arith, small, t.sessions_are), λ z. let c : Some call ≡ None = sym pending ∙ z in cc c),
          log,
          subst (λ (j : ℕ). calls_in i (t.events ++ response j reply ∷ []) ≡ calls_known w) (sym is)
              (calls-returned i t.events call reply pending ∙ (ap (λ (d : Calls C R). record { returned = d.returned ++ (call, reply) ∷ []; pending = None }) before
              ∙ (ap (λ (l : List (C × R)). record { returned = l; pending = None }) (sym (map-append (λ (a : Answered C R). (a.call, a.reply)) o.collected (answer place call reply ∷ [])))
              ∙ (ap (λ (l : List (Answered C R)). record { returned = map (λ a. (a.call, a.reply)) l; pending = None }) (sym collected)
              ∙ ap (λ (p : Option (Pending C)). record { returned = map (λ a. (a.call, a.reply)) w.collected; pending = call_of p }) (sym none))))),
        )
