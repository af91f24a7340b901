-- At every instant the calls made so far are linearizable: the events of a state are those of its rule.
use Rattle.std.proofs.Common.{◌≡◌, ◌≢◌, ◌⊎◌, inl, inr, ⊎_elim, ℕ, zero, suc, ◌+◌, ◌<◌, ◌≤◌, Option, List, [], ◌∷◌, ◌++◌, length, map, get_or, refl, sym, ap, subst, ◌∙◌, arith, append_assoc}
use mathlib.Core.Option as opt
use mathlib.Core.Logic.{dite}
use native.Mathlib.Decide.{ℕ_discrete}
use lib.ListN.{get_elem?}
use Rattle.sequential.specs.declared.object.Sequential.{Ghosts}
use Rattle.sequential.specs.Histories.{Answered}
use Rattle.sequential.specs.Linearizable.{Event, invocation, response, calls_in, IsWellFormed, IsLinearization}
use Rattle.publication.specs.Moments.{session_of, noted_from, noted_by}
use Rattle.publication.specs.Views.{Pending, Own, Handed}
use Rattle.publication.specs.Rule.{blank, BoardState, seat, own_at}
use Rattle.publication.specs.List.{IsRuled}
use Rattle.publication.specs.Collected.{HasCollected}
use Rattle.publication.specs.BoardHistory.{history_of}
use Rattle.publication.specs.Instants.{HasView, Tells, AreEventsOf, calls_told}
use Rattle.publication.specs.declared.view.View.{View}
use Rattle.publication.proofs.SeatViews.{session_of as seat-session, others_of}
use Rattle.publication.proofs.Collected.{own-of}
use Rattle.publication.proofs.BoardHistory.{is-history}
use Rattle.publication.proofs.OnlyEvents.{else, only, told-so}

module _ {A B : Type 0} where
  -- An element of a list, mapped.
  mapped_at : (f : A → B) (l : List A) (p : ℕ) (x : A) → get_elem? l p ≡ opt.some x → get_elem? (map f l) p ≡ opt.some (f x)
  mapped_at f [] p x e = absurd (opt.some-ne-none x (sym e))
  mapped_at f (y ∷ ys) zero x e = ap (λ (z : A). opt.some (f z)) (opt.some-injective y x e)
  mapped_at f (y ∷ ys) (suc p) x e = mapped_at f ys p x e

  at_mapped : (f : A → B) (l : List A) (p : ℕ) (b : B) → get_elem? (map f l) p ≡ opt.some b → (x : A) × (get_elem? l p ≡ opt.some x) × (f x ≡ b)
  at_mapped f [] p b e = absurd (opt.some-ne-none b (sym e))
  at_mapped f (y ∷ ys) zero b e = (y, refl, opt.some-injective (f y) b e)
  at_mapped f (y ∷ ys) (suc p) b e = at_mapped f ys p b e

module _ {A : Type 0} where
  -- An index within a list has an element.
  elem_at : (l : List A) (i : ℕ) (d : A) → i < length l → get_elem? l i ≡ opt.some (get_or l i d)
  elem_at [] i d lt = absurd (omega arith)
  elem_at (x ∷ xs) zero d lt = refl
  elem_at (x ∷ xs) (suc i) d lt = elem_at xs i d (omega (arith, lt))

  -- An index past the end has the default.
  past : (l : List A) (i : ℕ) (d : A) → (i < length l) ⊎ (get_or l i d ≡ d)
  past [] i d = inr refl
  past (x ∷ xs) zero d = inl (omega arith)
  past (x ∷ xs) (suc i) d = ⊎_elim (λ lt. inl (omega (arith, lt))) (λ e. inr e) (past xs i d)

module _ {C R : Type 0} where
  -- All events are of the sessions.
  of_session : (n : ℕ) (before : List (Event C R)) (e : Event C R) → (es after : List (Event C R)) → IsWellFormed n es → es ≡ before ++ e ∷ after → (1 ≤ session_of e) × (session_of e ≤ n)
  of_session n before (invocation i call) es after well is = let m = well before after (invocation i call) is in (m.0, m.1)
  of_session n before (response i reply) es after well is = let m = well before after (response i reply) is in (m.0, m.1)

  outside_from : (n i at : ℕ) (before es all : List (Event C R)) → IsWellFormed n all → all ≡ before ++ es → ((j : ℕ) → 1 ≤ j → j ≤ n → j ≢ i) → noted_from i at es ≡ []
  outside_from n i at before [] all well is out = refl
  outside_from n i at before (e ∷ es) all well is out =
      let w = of_session n before e all es well is in
      else i at e es (out (session_of e) w.0 w.1) ∙ outside_from n i (at + 1) (before ++ e ∷ []) es all well (is ∙ sym (append_assoc before (e ∷ []) es)) out

  -- Nobody else has noted any.
  outside : (n i : ℕ) (es : List (Event C R)) → IsWellFormed n es → ((j : ℕ) → 1 ≤ j → j ≤ n → j ≢ i) → noted_by i es ≡ []
  outside n i es well out = outside_from n i 0 [] es es well refl out

module _ {O C R : Type 0} {obj : Ghosts O C R} where
  module _ (s : BoardState O C R) (r : IsRuled obj s) where
    abbrev events : List (Event C R)
    events = r.records.in_time.events

    -- What each session has noted is what it has of the events.
    noted_so : (k : ℕ) (v : View C R) (i : ℕ) (log : List (ℕ × Event C R)) → HasView s k v → Tells v i log → log ≡ noted_by i r.records.in_time.events
    noted_so k v i log me (inl t) =
        let d = seat-session s r.records k v me t.0 in
        sym t.2 ∙ (ap (λ (x : Own C R). x.log) d.own_is ∙ (ap (λ (j : ℕ). (own_at r.records.owns j).log) (sym d.is ∙ t.1) ∙ r.records.in_time.logs i))
    noted_so k v i log me (inr t) =
        let d = at_mapped (λ (x : Handed C R). (x.number, (own_at r.records.owns x.number).log)) v.others.handed t.0 (i, log)
        (ap (λ (l : List (ℕ × List (ℕ × Event C R))). get_elem? l t.0) (sym (others_of s r.records k v me).logged) ∙ t.1) in
        let number : d.0.number ≡ i = ap (λ (y : ℕ × List (ℕ × Event C R)). y.0) d.2 in
        ap (λ (y : ℕ × List (ℕ × Event C R)). y.1) (sym d.2) ∙ (ap (λ (j : ℕ). (own_at r.records.owns j).log) number ∙ r.records.in_time.logs i)

    -- The seat of a session, and that of one to which a session was handed in.
    sits : (k : ℕ) → (seat s k ≢ blank) → HasView s k (seat s k)
    sits k some = ⊎_elim (λ lt. elem_at s.views k blank lt) (λ e. absurd (some e)) (past s.views k blank)

    -- Each event was noted by a session that is there.
    no_others : (i : ℕ) → noted_by i r.records.in_time.events ≢ [] → (k : ℕ) × (v : View C R) × HasView s k v × Tells v i (noted_by i r.records.in_time.events)
    no_others i some =
        let t = r.records.in_time in
        let mine : (own_at r.records.owns i).log ≡ noted_by i t.events = t.logs i in
        let positive : 0 < i = dite (ℕ_discrete i 0) (λ z. absurd (some (outside t.sessions i t.events t.well_formed (λ j one few e. omega (arith, one, e, z))))) (λ ne. omega (arith, ne)) in
        let few : i < r.records.slots = dite_lt i t.sessions (λ far. absurd (some (outside t.sessions i t.events t.well_formed (λ j one within e. omega (arith, within, e, far))))) (λ le. omega (arith, le, t.sessions_are)) in
        let made : i < length s.views = ⊎_elim (λ lt. lt) (λ le. absurd (some (sym mine ∙ ap (λ (x : Own C R). x.log) (r.records.unmade i le)))) (below i (length s.views)) in
        ⊎_elim
        (λ is. let number : (seat s i).number ≢ 0 = λ z. omega (arith, z, is, positive) in
        (i, seat s i, sits i (λ e. number (ap (λ (v : View C R). v.number) e)), inl (number, is, ap (λ (x : Own C R). x.log) (r.records.sessions i number).own_is ∙ mine)))
        (λ h. (
          h.0,
          seat s h.0,
          sits h.0 (λ e. opt.some-ne-none h.2 (sym h.3 ∙ ap (λ (v : View C R). get_elem? v.others.handed h.1) e)),
          inr (
            h.1,
            ap (λ (l : List (ℕ × List (ℕ × Event C R))). get_elem? l h.1) (r.records.others h.0).logged
                ∙ (mapped_at (λ (x : Handed C R). (x.number, (own_at r.records.owns x.number).log)) (seat s h.0).others.handed h.1 h.2 h.3
                ∙ ap (λ (y : ℕ × List (ℕ × Event C R)). opt.some y) (pair h.2.number i h.4 (ap (λ (j : ℕ). (own_at r.records.owns j).log) h.4 ∙ mine))),
          ),
        ))
        (r.records.present.each i positive few made)
      where
        below : (a b : ℕ) → (a < b) ⊎ (b ≤ a)
        below zero zero = inr (omega arith)
        below zero (suc b) = inl (omega arith)
        below (suc a) zero = inr (omega arith)
        below (suc a) (suc b) = ⊎_elim (λ lt. inl (omega (arith, lt))) (λ le. inr (omega (arith, le))) (below a b)

        dite_lt : {P : Type 0} (a b : ℕ) → (b < a → P) → (a ≤ b → P) → P
        dite_lt a b far near = ⊎_elim far near (below b a)

        pair : (a b : ℕ) → a ≡ b → {x y : List (ℕ × Event C R)} → x ≡ y → ◌≡◌ {A = ℕ × List (ℕ × Event C R)} (a, x) (b, y)
        pair a b e {x} {y} f = ap (λ (k : ℕ). (k, x)) e ∙ ap (λ (l : List (ℕ × Event C R)). (b, l)) f

    pub are_events : AreEventsOf s r.records.in_time.events
    are_events = record { noted_so = noted_so; no_others = no_others }

module _ {O C R : Type 0} where
  -- A state has one list of events.
  pub only-events : (s : BoardState O C R) (E F : List (Event C R)) → AreEventsOf s E → AreEventsOf s F → E ≡ F
  only-events s E F a b = only F E (λ i. told-so (noted_by i E) (noted_by i F)
      (λ some. let t = a.no_others i some in b.noted_so t.0 t.1 i (noted_by i E) t.2 t.3)
      (λ some. let t = b.no_others i some in a.noted_so t.0 t.1 i (noted_by i F) t.2 t.3))

module _ {O C R : Type 0} {obj : Ghosts O C R} where
  module _ (s : BoardState O C R) (r : IsRuled obj s) (E : List (Event C R)) (are : AreEventsOf s E) where
    same : r.records.in_time.events ≡ E
    same = only-events s r.records.in_time.events E (are_events s r) are

    module _ (n : ℕ) (sessions : length s.homes ≡ n + 1) where
      as_many : r.records.in_time.sessions ≡ n
      as_many = omega (arith, sessions, r.records.homes_are, r.records.in_time.sessions_are)

      pub well-formed : IsWellFormed n E
      well-formed = subst (λ (k : ℕ). IsWellFormed k E) as_many (subst (IsWellFormed r.records.in_time.sessions) same r.records.in_time.well_formed)

      -- The board's history is a linearization of them.
      pub linear : IsLinearization obj n E (history_of obj s)
      linear = subst (λ (k : ℕ). IsLinearization obj k E (history_of obj s)) as_many
          (subst (λ (es : List (Event C R)). IsLinearization obj r.records.in_time.sessions es (history_of obj s)) same
          (subst (IsLinearization obj r.records.in_time.sessions r.records.in_time.events) (is-history s r.records) r.records.in_time.linear))

    -- They have of each session the calls that it has collected, and the pending one.
    pub calls-are : (i : ℕ) (answers : List (Answered C R)) (pending : Option (Pending C)) → HasCollected s i answers pending → calls_in i E ≡ calls_told answers pending
    calls-are i answers pending has =
        let d = own-of s r.records i answers pending has in
        ap (λ (es : List (Event C R)). calls_in i es) (sym same) ∙ (r.records.in_time.calls i
        ∙ (ap (λ (l : List (Answered C R)). calls_told l (own_at r.records.owns i).pending) d.answers_are ∙ ap (λ (p : Option (Pending C)). calls_told answers p) d.pending_is))
