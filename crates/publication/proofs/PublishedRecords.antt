-- What is published in each record, which records are on the list, and what steps of other sessions leave of both.
use Rattle.std.proofs.Common.{◌≡◌, ◌≢◌, ◌⊎◌, inl, inr, ⊎_elim, ℕ, ◌<◌, Bool, true, false, Option, Some, None, List, [], ◌∷◌, ◌++◌, length, refl, sym, ap, subst, ◌∙◌, arith, length-append, length-set, set, get_or-set_other}
use mathlib.Core.Option as opt
use mathlib.Core.Logic.{dite}
use native.Mathlib.Decide.{ℕ_discrete}
use lib.ListN.{get_elem?}
use Rattle.sequential.specs.declared.entry.Entry.{Entry}
use Rattle.sequential.specs.Histories.{Answered, calls_of}
use Rattle.publication.specs.Words.{OUT, POSTED, BUSY, SERVED, CLOSED, EMPTY}
use Rattle.publication.specs.Views.{Pending, Own, entry, answer, asks}
use Rattle.publication.specs.Rule.{blank, BoardState, word, home, seat, own_at, RecordState, IsOrderly}
use Rattle.publication.specs.Rule.RecordState.{vacant, posted, busy, served, retired}
use Rattle.publication.specs.List.{IsOn, head_of, belongs, is_listed, link, IsRuled}
use Rattle.publication.specs.PublicationList.{IsPublicationList, HasRoomForEnd, HasPending, IsUnlinkedNow}
use Rattle.publication.specs.StepKinds.{replied}
use Rattle.publication.specs.BoardHistory.{history_of}
use Rattle.publication.specs.PublishedRecords.{Published, HasCallPending, HoldsNothing, IsPublished, IsServedFurther, HasListedCall}
use Rattle.publication.specs.PublishedRecords.Published.{nothing, waiting, opened, answered}
use Rattle.publication.specs.Runs.{StepName, answer_record, enter, IsStep, IsSeatSplit, IsSeatJoin}
use Rattle.publication.specs.declared.view.View.{View}
use Rattle.publication.specs.declared.slot.SlotValue.TheVariants.{Empty, ServedReply}
use Rattle.publication.proofs.Lists.{at_there, there_at, each_set, each_snoc, past_end}
use Rattle.publication.proofs.SeatViews.{opened_of}
use Rattle.publication.proofs.Histories.{calls-mine, calls-other}
use Rattle.publication.proofs.RecordStates.{waiting_belongs}
use Rattle.publication.proofs.BoardHistory.{is-history, nobody}
use Rattle.publication.proofs.HistorySteps.{joins, waits-for}
use Rattle.publication.proofs.RealTime.{is-answer, is-enter, step-enters, step-unchanged}
use Rattle.publication.proofs.ListLaws.{same_list, unlinked_now, found, whole_route}
use Rattle.sequential.specs.declared.object.Sequential.{Ghosts}

-- What is published in a record.

-- A vacant record's word isn't POSTED, BUSY or SERVED.
pub idle_word : (w k : ℕ) → (w ≡ EMPTY) ⊎ ((w ≡ OUT) ⊎ (w ≡ CLOSED)) → w ≡ k → 0 < k → k < CLOSED → ⊥
idle_word w k (inl e) is some few = omega (arith, e, is, some, few)
idle_word w k (inr (inl e)) is some few = omega (arith, e, is, some, few)
idle_word w k (inr (inr e)) is some few = omega (arith, e, is, some, few)

module _ {C : Type 0} where
  -- One session has one call pending.
  pub same_pending : (p : Option (Pending C)) (c d : C) (f g : ℕ) → p ≡ Some (asks c f) → p ≡ Some (asks d g) → c ≡ d
  same_pending p c d f g is also =
      let e : Some (asks c f) ≡ Some (asks d g) = sym is ∙ also in
      let q : asks c f ≡ asks d g = cc e in
      ap (λ (x : Pending C). x.call) q

  pub none_pending : (p : Option (Pending C)) (c : C) (f : ℕ) → p ≡ None → p ≡ Some (asks c f) → ⊥
  none_pending p c f none some = cc (none, some)

module _ {C R : Type 0} where
  -- The calls of a record's session in the history are those collected, and the answered one.
  abbrev pub CallsAre : List (Answered C R) → List (Answered C R) → Published C R → Type 0
  CallsAre calls collected nothing = calls ≡ collected
  CallsAre calls collected (waiting call) = calls ≡ collected
  CallsAre calls collected (opened call) = calls ≡ collected
  CallsAre calls collected (answered call place reply) = calls ≡ collected ++ answer place call reply ∷ []

module _ {O C R : Type 0} {obj : Ghosts O C R} where
  module _ (s : BoardState O C R) (j : ℕ) (r : IsRuled obj s) (some : 0 < j) where
    abbrev own : Own C R
    own = own_at r.records.owns j

    -- A pending call of the rule is that of the seat.
    at_seat : (call : C) (floor : ℕ) → own.pending ≡ Some (asks call floor) → HasCallPending s j call
    at_seat call floor e = (floor, ap (λ (w : Own C R). w.pending) (r.records.waits j (λ none. none_pending own.pending call floor none e)) ∙ e)

    -- A session that has its seat has no call pending there if it has none by the rule.
    none_at_seat : own.pending ≡ None → (seat s j).number ≡ j → (seat s j).own.pending ≡ None
    none_at_seat none named = ap (λ (w : Own C R). w.pending) (r.records.sessions j (λ z. omega (arith, z, named, some))).own_is ∙ none

    -- An idle session's slot is empty, or with it.
    idle_slot : (b : Bool) → own.started ≡ b → (own.started ≡ true → home s j ≡ opt.none) → (own.started ≡ false → home s j ≡ opt.some Empty) → (home s j ≡ opt.some Empty) ⊎ (home s j ≡ opt.none)
    idle_slot true e out in_place = inr (out e)
    idle_slot false e out in_place = inl (in_place e)

    -- In each state of a record one thing is published.
    stated : RecordState r.records.history j (word s j) (home s j) own → (x : Published C R) × IsPublished obj s j x × CallsAre (calls_of j r.records.history) own.collected x
    stated (vacant t) = (
      nothing,
      record { word_is = ⊎_elim (λ (e : word s j ≡ EMPTY). inl e) (λ (e : word s j ≡ OUT). inr (inl e)) t.is; slot = idle_slot own.started refl t.out t.empty_slot; none = none_at_seat t.none },
      t.calls,
    )
    stated (posted call floor t) = (waiting call, record { word_is = t.is; slot = t.asked; pending = at_seat call floor t.some }, t.calls)
    stated (busy call floor t) =
        let b = r.records.opened j some t.is in
        let k = r.records.opens (word s 0) j b.0 b.1 in (
          opened b.0,
          record {
            word_is = t.is;
            locked = λ free. nobody s r.records free (word s 0) k.object;
            opened_is = (at_there (seat s (word s 0)).combiner.opened j (Some b.0) None b.1).0;
            slot = dite (ℕ_discrete (seat s (word s 0)).combiner.hand j) (λ e. inr e) (λ ne. inl (k.empty_slot ne));
            pending = at_seat b.0 k.call_of.0 k.call_of.1;
          },
          t.calls,
        )
    stated (served call floor place reply t) = (
      answered call place reply,
      record { word_is = t.is; slot = t.replied; pending = at_seat call floor t.some; entry_is = subst (λ (h : List (Entry C R)). get_elem? h place ≡ opt.some (entry j call reply)) (is-history s r.records) t.stands },
      t.calls,
    )
    stated (retired t) = (
      nothing,
      record { word_is = inr (inr t.is); slot = idle_slot own.started refl t.out t.empty_slot; none = none_at_seat t.none },
      t.calls,
    )

    -- In each record something is published.
    told : j < length s.homes → (x : Published C R) × IsPublished obj s j x × CallsAre (calls_of j r.records.history) own.collected x
    told small = stated (r.records.stands j some (omega (arith, small, r.records.homes_are)))

    pub is_something : j < length s.homes → (x : Published C R) × IsPublished obj s j x
    is_something small = let t = told small in (t.0, t.1)

module _ {O C R : Type 0} (obj : Ghosts O C R) where
  -- And no more than one thing.
  pub is_one_thing : (s : BoardState O C R) (j : ℕ) (x y : Published C R) → IsPublished obj s j x → IsPublished obj s j y → x ≡ y
  is_one_thing s j nothing nothing p q = refl
  is_one_thing s j nothing (waiting d) p q = absurd (idle_word (word s j) POSTED p.word_is q.word_is (omega arith) (omega arith))
  is_one_thing s j nothing (opened d) p q = absurd (idle_word (word s j) BUSY p.word_is q.word_is (omega arith) (omega arith))
  is_one_thing s j nothing (answered d b v) p q = absurd (idle_word (word s j) SERVED p.word_is q.word_is (omega arith) (omega arith))
  is_one_thing s j (waiting c) nothing p q = absurd (idle_word (word s j) POSTED q.word_is p.word_is (omega arith) (omega arith))
  is_one_thing s j (waiting c) (waiting d) p q = ap (λ (x : C). waiting x) (same_pending (seat s j).own.pending c d p.pending.0 q.pending.0 p.pending.1 q.pending.1)
  is_one_thing s j (waiting c) (opened d) p q = absurd (omega (arith, p.word_is, q.word_is))
  is_one_thing s j (waiting c) (answered d b v) p q = absurd (omega (arith, p.word_is, q.word_is))
  is_one_thing s j (opened c) nothing p q = absurd (idle_word (word s j) BUSY q.word_is p.word_is (omega arith) (omega arith))
  is_one_thing s j (opened c) (waiting d) p q = absurd (omega (arith, p.word_is, q.word_is))
  is_one_thing s j (opened c) (opened d) p q = ap (λ (x : C). opened x) (same_pending (seat s j).own.pending c d p.pending.0 q.pending.0 p.pending.1 q.pending.1)
  is_one_thing s j (opened c) (answered d b v) p q = absurd (omega (arith, p.word_is, q.word_is))
  is_one_thing s j (answered c a u) nothing p q = absurd (idle_word (word s j) SERVED q.word_is p.word_is (omega arith) (omega arith))
  is_one_thing s j (answered c a u) (waiting d) p q = absurd (omega (arith, p.word_is, q.word_is))
  is_one_thing s j (answered c a u) (opened d) p q = absurd (omega (arith, p.word_is, q.word_is))
  is_one_thing s j (answered c a u) (answered d b v) p q =
      let same : c ≡ d = same_pending (seat s j).own.pending c d p.pending.0 q.pending.0 p.pending.1 q.pending.1 in
      let slot : ServedReply a u ≡ ServedReply b v = opt.some-injective (ServedReply a u) (ServedReply b v) (sym p.slot ∙ q.slot) in
      cc (same, slot)

module _ {O C R : Type 0} {obj : Ghosts O C R} where
  -- What is published says which calls the history has of the session.
  pub calls_are : (s : BoardState O C R) (j : ℕ) (r : IsRuled obj s) (some : 0 < j) → j < length s.homes → (x : Published C R) → IsPublished obj s j x → CallsAre (calls_of j r.records.history) (own_at r.records.owns j).collected x
  calls_are s j r some small x p = let t = told s j r some small in subst (CallsAre (calls_of j r.records.history) (own_at r.records.owns j).collected) (is_one_thing obj s j t.0 x t.1 p) t.2

  -- What is on the list.

  module _ (s : BoardState O C R) (r : IsRuled obj s) (few : HasRoomForEnd s) (list : List ℕ) (is : IsPublicationList s list) where
    -- An EMPTY record is on the list, or is unlinked.
    pub empty_on : (j : ℕ) → 0 < j → word s j ≡ EMPTY → IsOn j list ⊎ IsUnlinkedNow s j
    empty_on j some e = ⊎_elim (λ on. inl (subst (IsOn j) (same_list s r few list is) on)) (λ (off : j ≡ r.list.off). inr (unlinked_now s r few list is j some off)) (r.list.ons j some (ap (λ (w : ℕ). belongs w (seat s j).own.listed) e))

    -- A record that must not be on the list isn't, and isn't unlinked.
    off_both : (j : ℕ) → 0 < j → is_listed s j ≡ Some false → IsOn j list ⊎ IsUnlinkedNow s j → ⊥
    off_both j some claim (inl on) = (r.list.offs j some claim).0 (subst (IsOn j) (sym (same_list s r few list is)) on)
    off_both j some claim (inr u) = (r.list.offs j some claim).1 (sym u.1 ∙ (r.list.walkers (word s 0) (r.records.taken u.0).0).off_is)

    -- One that is OUT isn't on the list.
    pub out_off : (j : ℕ) → 0 < j → word s j ≡ OUT → IsOn j list ⊎ IsUnlinkedNow s j → ⊥
    out_off j some e = off_both j some (ap (λ (w : ℕ). belongs w (seat s j).own.listed) e)

    -- A record on the list is EMPTY or CLOSED, or has a listed call.
    pub on_members : (j : ℕ) → IsOn j list → (word s j ≡ EMPTY) ⊎ ((word s j ≡ CLOSED) ⊎ HasListedCall s j)
    on_members j on = go (r.records.stands j here.0 (omega (arith, here.1, r.records.homes_are)))
      where
        here : (0 < j) × (j < length s.homes)
        here = is.within j on

        calls : RecordState r.records.history j (word s j) (home s j) (own_at r.records.owns j) → (own_at r.records.owns j).pending ≢ None → HasListedCall s j
        calls st waits = (λ none. waits (ap (λ (w : Own C R). w.pending) (sym (r.records.waits j waits)) ∙ none), by (seat s j).own.listed refl)
          where
            by : (b : Bool) → (seat s j).own.listed ≡ b → (seat s j).own.listed ≡ true
            by true e = e
            by false e = absurd (off_both j here.0 (waiting_belongs st waits (seat s j).own.listed ∙ ap (λ (b : Bool). Some b) e) (inl on))

        go : RecordState r.records.history j (word s j) (home s j) (own_at r.records.owns j) → (word s j ≡ EMPTY) ⊎ ((word s j ≡ CLOSED) ⊎ HasListedCall s j)
        go (vacant t) = ⊎_elim (λ (e : word s j ≡ EMPTY). inl e) (λ (e : word s j ≡ OUT). absurd (out_off j here.0 e (inl on))) t.is
        go (posted call floor t) = inr (inr (calls (posted call floor t) (λ none. none_pending (own_at r.records.owns j).pending call floor none t.some)))
        go (busy call floor t) = inr (inr (calls (busy call floor t) (λ none. none_pending (own_at r.records.owns j).pending call floor none t.some)))
        go (served call floor place reply t) = inr (inr (calls (served call floor place reply t) (λ none. none_pending (own_at r.records.owns j).pending call floor none t.some)))
        go (retired t) = inr (inl t.is)

  -- Walks.

  -- A walk from the first record meets each listed call, but at the record that the combiner has unlinked.
  pub meets_listed : (s : BoardState O C R) (k : ℕ) → IsRuled obj s → HasRoomForEnd s → (seat s k).combiner.has_object ≡ true → link s 0 ≡ head_of (seat s k).listing.route
      → (j : ℕ) → HasPending s j true → IsOn j (seat s k).listing.route ⊎ ((seat s k).listing.off ≡ j)
  meets_listed s k r few has first j p = ⊎_elim (λ on. inl on) (λ (u : IsUnlinkedNow s j). inr (ap (λ (i : ℕ). (seat s i).listing.off) (sym (r.records.combiners k has).lock_is) ∙ u.1))
      (found s r few (seat s k).listing.route (whole_route s k r few has first) j p)

  -- Steps of other sessions.

  -- A step leaves the views of other seats.
  pub other_seat : (name : StepName C R) (s t : BoardState O C R) (c : IsStep obj name s t) (j : ℕ) → c.id ≢ j → seat t j ≡ seat s j
  other_seat name s t c j ne = ap (λ (x : BoardState O C R). seat x j) c.is ∙ get_or-set_other s.views c.id j c.after.0 blank (λ e. ne (sym e))

  -- A listed call stays pending and listed.
  pub stays_listed : (name : StepName C R) (s t : BoardState O C R) (c : IsStep obj name s t) (j : ℕ) → c.id ≢ j → HasPending s j true → HasPending t j true
  stays_listed name s t c j ne p =
      let same = other_seat name s t c j ne in
      record {
        some = p.some;
        named = ap (λ (v : View C R). v.number) same ∙ p.named;
        waits = λ none. p.waits (ap (λ (v : View C R). v.own.pending) (sym same) ∙ none);
        listed_is = ap (λ (v : View C R). v.own.listed) same ∙ p.listed_is;
      }

module _ {O C R : Type 0} where
  -- The call that the combiner has opened in record j is answered: it is the session's pending one, and its entry is the
  -- history's last.
  pub record IsAnsweredNow (s : BoardState O C R) (h k : List (Entry C R)) (j : ℕ) : Type 0 where
    pub call : C
    pub reply : R
    pub is_busy : word s j ≡ BUSY
    pub pending : HasCallPending s j call
    pub calls : calls_of j k ≡ calls_of j h ++ answer (length h) call reply ∷ []

module _ {O C R : Type 0} {obj : Ghosts O C R} where
  -- A step of another session leaves the calls of session j in the history, or answers one.
  abbrev pub DoCallsStay : (s t : BoardState O C R) → IsOrderly obj s → IsOrderly obj t → ℕ → Type 0
  DoCallsStay s t o p j = (calls_of j p.history ≡ calls_of j o.history) ⊎ IsAnsweredNow s o.history p.history j

  module _ (s t : BoardState O C R) (r : IsRuled obj s) (q : IsRuled obj t) (j : ℕ) where
    -- An answer.
    answers_one : (c : IsStep obj answer_record s t) → DoCallsStay s t r.records q.records j
    answers_one c = dite (ℕ_discrete c.before.0.combiner.hand j) mine (λ other. inl (ap (calls_of j) grows ∙ calls-other j c.before.0.combiner.hand r.records.history c.asked.1.0 (replied obj c.before.1) other))
      where
        grows : q.records.history ≡ r.records.history ++ entry c.before.0.combiner.hand c.asked.1.0 (replied obj c.before.1) ∷ []
        grows = (subst (λ (x : BoardState O C R). (p : IsOrderly obj x) → p.history ≡ r.records.history ++ entry c.before.0.combiner.hand c.asked.1.0 (replied obj c.before.1) ∷ []) (sym c.is)
            (λ p. joins s r.records c.at c.put c.id c.first c.second c.before c.after c.act p c.seated c.valid c.carried c.asked.1.0 c.asked.0 c.asked.1.1 c.told.0)) q.records

        mine : c.before.0.combiner.hand ≡ j → DoCallsStay s t r.records q.records j
        mine e =
            let w = waits-for s r.records c.at c.put c.id c.first c.second c.before c.after c.act (subst (IsOrderly obj) c.is q.records) c.seated c.valid c.carried c.asked.1.0 c.asked.1.1 in
            let b = (opened_of s r.records c.id c.before.0 c.seated c.before.0.combiner.hand c.asked.1.0 (there_at c.before.0.combiner.opened c.before.0.combiner.hand c.asked.1.0 c.asked.1.1)).is_busy in
            inr (record {
              call = c.asked.1.0;
              reply = replied obj c.before.1;
              is_busy = subst (λ (i : ℕ). word s i ≡ BUSY) e b;
              pending = subst (λ (i : ℕ). HasCallPending s i c.asked.1.0) e w;
              calls = ap (calls_of j) grows ∙ subst (λ (i : ℕ). calls_of j (r.records.history ++ entry i c.asked.1.0 (replied obj c.before.1) ∷ []) ≡ calls_of j r.records.history ++ answer (length r.records.history) c.asked.1.0 (replied obj c.before.1) ∷ []) (sym e) (calls-mine j r.records.history c.asked.1.0 (replied obj c.before.1));
            })

    -- A direct entry.
    enters_one : (call : C) (reply : R) (c : IsStep obj (enter call reply) s t) → c.id ≢ j → DoCallsStay s t r.records q.records j
    enters_one call reply c ne =
        let d = step-enters call reply s t r q c in
        let grows : q.records.history ≡ r.records.history ++ entry d.0 call reply ∷ []
        = is-history t q.records ∙ (d.1.history ∙ ap (λ (l : List (Entry C R)). l ++ entry d.0 call reply ∷ []) (sym (is-history s r.records))) in
        dite (ℕ_discrete d.0 j)
        (λ e.
        let same : seat t d.0 ≡ seat s d.0 = subst (λ (i : ℕ). seat t i ≡ seat s i) (sym e) (other_seat (enter call reply) s t c j ne) in
        let more = sym d.1.after.answers_are ∙ (ap (λ (v : View C R). v.own.collected) same ∙ d.1.before.answers_are) in
        absurd (omega (arith, ap {B = ℕ} (λ (l : List (Answered C R)). length l) more, length-append d.1.answers (answer (length (history_of obj s)) call reply ∷ []))))
        (λ other. inl (ap (calls_of j) grows ∙ calls-other j d.0 r.records.history call reply other))

    -- Any step but a direct entry, of whichever session.
    pub calls_stay_but : (name : StepName C R) → ((call : C) (reply : R) → name ≢ enter call reply) → (c : IsStep obj name s t) → DoCallsStay s t r.records q.records j
    calls_stay_but name direct c = elim (is-answer name) [
      | inl e ↦ (subst (λ (n : StepName C R). IsStep obj n s t → DoCallsStay s t r.records q.records j) (sym e) answers_one) c
      | inr other ↦ inl (ap (calls_of j) (is-history t q.records ∙ (step-unchanged name s t other direct r q c ∙ sym (is-history s r.records))))
    ]

    -- A step of another session.
    calls_stay : (name : StepName C R) (c : IsStep obj name s t) → c.id ≢ j → DoCallsStay s t r.records q.records j
    calls_stay name c ne = elim (is-enter name) [
      | inl e ↦ (subst (λ (n : StepName C R). (d : IsStep obj n s t) → d.id ≢ j → DoCallsStay s t r.records q.records j) (sym e.2) (enters_one e.0 e.1)) c ne
      | inr direct ↦ calls_stay_but name direct c
    ]

-- What a step of another session makes of what is published.

module _ {C R : Type 0} where
  -- A list isn't itself with one more.
  pub no_more : (xs : List (Answered C R)) (a : Answered C R) → xs ≡ xs ++ a ∷ [] → ⊥
  no_more xs a e = omega (arith, ap {B = ℕ} (λ (l : List (Answered C R)). length l) e, length-append xs (a ∷ []))

  -- Lists that are equal up to their last answers have equal last answers.
  pub same_last : (xs : List (Answered C R)) (a b : Answered C R) → xs ++ a ∷ [] ≡ xs ++ b ∷ [] → a ≡ b
  same_last [] a b e = cc e
  same_last (x ∷ xs) a b e = let k : xs ++ a ∷ [] ≡ xs ++ b ∷ [] = cc e in same_last xs a b k

module _ {O C R : Type 0} where
  module _ (s t : BoardState O C R) (j : ℕ) (named : (seat s j).number ≡ j) (still : (seat t j).number ≡ j) (same : (seat t j).own.pending ≡ (seat s j).own.pending) (end : ℕ) where
    -- The session has the same call pending before and after.
    one_call : (c d : C) → HasCallPending s j c → HasCallPending t j d → c ≡ d
    one_call c d p q = same_pending (seat s j).own.pending c d p.0 q.0 p.1 (sym same ∙ q.1)

    -- It has one before or after, not both or neither: that can't be.
    lost : (c : C) → HasCallPending s j c → HoldsNothing t j → ⊥
    lost c p q = none_pending (seat s j).own.pending c p.0 (sym same ∙ q.none still) p.1

    won : (d : C) → HoldsNothing s j → HasCallPending t j d → ⊥
    won d p q = none_pending (seat s j).own.pending d q.0 (p.none named) (sym same ∙ q.1)

    module _ (obj : Ghosts O C R) (calls collected : List (Answered C R)) where
      -- The session's calls in the history are as before.
      pub alike : (x y : Published C R) → IsPublished obj s j x → IsPublished obj t j y → CallsAre calls collected x → CallsAre calls collected y → (y ≡ x) ⊎ IsServedFurther end x y
      alike nothing nothing p q f g = inl refl
      alike nothing (waiting d) p q f g = absurd (won d p q.pending)
      alike nothing (opened d) p q f g = absurd (won d p q.pending)
      alike nothing (answered d b v) p q f g = absurd (won d p q.pending)
      alike (waiting c) nothing p q f g = absurd (lost c p.pending q)
      alike (waiting c) (waiting d) p q f g = inl (ap (λ (x : C). waiting x) (sym (one_call c d p.pending q.pending)))
      alike (waiting c) (opened d) p q f g = inr (one_call c d p.pending q.pending)
      alike (waiting c) (answered d b v) p q f g = absurd (no_more collected (answer b d v) (sym f ∙ g))
      alike (opened c) nothing p q f g = absurd (lost c p.pending q)
      alike (opened c) (waiting d) p q f g = inr (one_call c d p.pending q.pending)
      alike (opened c) (opened d) p q f g = inl (ap (λ (x : C). opened x) (sym (one_call c d p.pending q.pending)))
      alike (opened c) (answered d b v) p q f g = absurd (no_more collected (answer b d v) (sym f ∙ g))
      alike (answered c a u) nothing p q f g = absurd (lost c p.pending q)
      alike (answered c a u) (waiting d) p q f g = absurd (no_more collected (answer a c u) (sym g ∙ f))
      alike (answered c a u) (opened d) p q f g = absurd (no_more collected (answer a c u) (sym g ∙ f))
      alike (answered c a u) (answered d b v) p q f g = let e = same_last collected (answer a c u) (answer b d v) (sym f ∙ g) in inl (cc (ap (λ (z : Answered C R). z.call) e, ap (λ (z : Answered C R). z.place) e, ap (λ (z : Answered C R). z.reply) e))

      -- The session's opened call is answered.
      pub ended : (x y : Published C R) (call : C) (reply : R) → word s j ≡ BUSY → HasCallPending s j call → IsPublished obj s j x → IsPublished obj t j y
          → CallsAre calls collected x → CallsAre (calls ++ answer end call reply ∷ []) collected y → (y ≡ x) ⊎ IsServedFurther end x y
      ended nothing y call reply is_busy waits p q f g = absurd (idle_word (word s j) BUSY p.word_is is_busy (omega arith) (omega arith))
      ended (waiting c) y call reply is_busy waits p q f g = absurd (omega (arith, p.word_is, is_busy))
      ended (answered c a u) y call reply is_busy waits p q f g = absurd (omega (arith, p.word_is, is_busy))
      ended (opened c) nothing call reply is_busy waits p q f g = absurd (lost c p.pending q)
      ended (opened c) (waiting d) call reply is_busy waits p q f g = absurd (no_more collected (answer end call reply) (sym g ∙ ap (λ (l : List (Answered C R)). l ++ answer end call reply ∷ []) f))
      ended (opened c) (opened d) call reply is_busy waits p q f g = absurd (no_more collected (answer end call reply) (sym g ∙ ap (λ (l : List (Answered C R)). l ++ answer end call reply ∷ []) f))
      ended (opened c) (answered d b v) call reply is_busy waits p q f g =
          let e = same_last collected (answer end call reply) (answer b d v) (sym (ap (λ (l : List (Answered C R)). l ++ answer end call reply ∷ []) f) ∙ g) in
          inr (one_call c d p.pending q.pending, ap (λ (z : Answered C R). z.place) (sym e))

module _ {O C R : Type 0} {obj : Ghosts O C R} where
  -- A step of another session leaves what is published in the record, or serves it further.
  pub served_further : (name : StepName C R) (s t : BoardState O C R) (r : IsRuled obj s) (q : IsRuled obj t) (c : IsStep obj name s t) (j : ℕ) → c.id ≢ j → 0 < j → (seat s j).number ≡ j
      → (x y : Published C R) → IsPublished obj s j x → IsPublished obj t j y → (y ≡ x) ⊎ IsServedFurther (length (history_of obj s)) x y
  served_further name s t r q c j ne some named x y p u = elim (calls_stay s t r q j name c ne) [
    | inl stay ↦ alike s t j named still kept (length (history_of obj s)) obj (calls_of j r.records.history) (seat s j).own.collected x y p u before (subst (λ (l : List (Answered C R)). CallsAre l (seat s j).own.collected y) stay after)
    | inr now ↦ ended s t j named still kept (length (history_of obj s)) obj (calls_of j r.records.history) (seat s j).own.collected x y now.call now.reply now.is_busy now.pending p u before
        (subst (λ (h : List (Entry C R)). CallsAre (calls_of j r.records.history ++ answer (length h) now.call now.reply ∷ []) (seat s j).own.collected y) (is-history s r.records) (subst (λ (l : List (Answered C R)). CallsAre l (seat s j).own.collected y) now.calls after))
  ]
    where
      same : seat t j ≡ seat s j
      same = other_seat name s t c j ne

      still : (seat t j).number ≡ j
      still = ap (λ (v : View C R). v.number) same ∙ named

      kept : (seat t j).own.pending ≡ (seat s j).own.pending
      kept = ap (λ (v : View C R). v.own.pending) same

      before : CallsAre (calls_of j r.records.history) (seat s j).own.collected x
      before = subst (λ (o : Own C R). CallsAre (calls_of j r.records.history) o.collected x) (sym (r.records.sessions j (λ z. omega (arith, z, named, some))).own_is) (calls_are s j r some (omega (arith, (r.records.sessions j (λ z. omega (arith, z, named, some))).small, r.records.homes_are)) x p)

      after : CallsAre (calls_of j q.records.history) (seat s j).own.collected y
      after = subst (λ (o : Own C R). CallsAre (calls_of j q.records.history) o.collected y) (sym (q.records.sessions j (λ z. omega (arith, z, ap (λ (v : View C R). v.number) same, named, some))).own_is ∙ ap (λ (v : View C R). v.own) same) (calls_are t j q some (omega (arith, (q.records.sessions j (λ z. omega (arith, z, ap (λ (v : View C R). v.number) same, named, some))).small, q.records.homes_are)) y u)

-- Splits and joins of seats.

module _ {O C R : Type 0} where
  -- A session that has its seat has the same call pending there afterwards, or none.
  abbrev DoesPendingStay : BoardState O C R → ℕ → View C R → Type 0
  DoesPendingStay s k v = 0 < k → (seat s k).number ≡ k → (v.own.pending ≡ (seat s k).own.pending) ⊎ (v.own.pending ≡ None)

  split_pending : (s t : BoardState O C R) → IsSeatSplit s t → (j : ℕ) → DoesPendingStay s j (seat t j)
  split_pending s t c = subst (λ (x : BoardState O C R). (j : ℕ) → DoesPendingStay s j (seat x j)) (sym c.is)
      (each_snoc (set s.views c.id c.left) c.right blank (DoesPendingStay s) beyond
      (each_set s.views c.id c.left blank (DoesPendingStay s) (at_there s.views c.id c.view blank c.seated).1 left (λ k ne some named. inl refl)))
    where
      seat_is : seat s c.id ≡ c.view
      seat_is = (at_there s.views c.id c.view blank c.seated).0

      left : DoesPendingStay s c.id c.left
      left some named = elim c.cut [
        | inl m ↦ (let e = ap (λ (v : View C R). v.number) seat_is ∙ m.0 in absurd (omega (arith, e, named, some)))
        | inr m ↦ inl (ap (λ (v : View C R). v.own.pending) (m.0 ∙ sym seat_is))
      ]

      beyond : DoesPendingStay s (length (set s.views c.id c.left)) c.right
      beyond some named =
          let none : seat s (length (set s.views c.id c.left)) ≡ blank = ap (seat s) (length-set s.views c.id c.left) ∙ past_end s.views blank in
          let e = ap (λ (v : View C R). v.number) none in
          absurd (omega (arith, e, named, some))

  join_pending : (s t : BoardState O C R) → IsSeatJoin s t → (j : ℕ) → DoesPendingStay s j (seat t j)
  join_pending s t c = subst (λ (x : BoardState O C R). (j : ℕ) → DoesPendingStay s j (seat x j)) (sym c.is)
      (each_set (set s.views c.id c.both) c.other blank blank (DoesPendingStay s) (let l = length-set s.views c.id c.both in let n = (at_there s.views c.other c.theirs blank c.beside).1 in omega (arith, l, n)) (λ some named. inr refl)
      (λ k not_other. each_set s.views c.id c.both blank (DoesPendingStay s) (at_there s.views c.id c.view blank c.seated).1 both (λ i ne some named. inl refl) k))
    where
      seat_is : seat s c.id ≡ c.view
      seat_is = (at_there s.views c.id c.view blank c.seated).0

      both : DoesPendingStay s c.id c.both
      both some named = elim c.join [
        | inl m ↦ inl (ap (λ (v : View C R). v.own.pending) m.0 ∙ ap (λ (v : View C R). v.own.pending) (sym seat_is))
        | inr m ↦ inl (ap (λ (v : View C R). v.own.pending) m.0 ∙ ap (λ (v : View C R). v.own.pending) (sym seat_is))
      ]

  seats_pending : (s t : BoardState O C R) → IsSeatSplit s t ⊎ IsSeatJoin s t → (j : ℕ) → DoesPendingStay s j (seat t j)
  seats_pending s t (inl c) = split_pending s t c
  seats_pending s t (inr c) = join_pending s t c

  words_stay : (s t : BoardState O C R) → IsSeatSplit s t ⊎ IsSeatJoin s t → (j : ℕ) → (word t j ≡ word s j) × (home t j ≡ home s j)
  words_stay s t (inl c) j = (ap (λ (x : BoardState O C R). word x j) c.is, ap (λ (x : BoardState O C R). home x j) c.is)
  words_stay s t (inr c) j = (ap (λ (x : BoardState O C R). word x j) c.is, ap (λ (x : BoardState O C R). home x j) c.is)

module _ {O C R : Type 0} {obj : Ghosts O C R} where
  -- They leave what is published in a record.
  pub seats_publish : (s t : BoardState O C R) → IsRuled obj s → IsRuled obj t → IsSeatSplit s t ⊎ IsSeatJoin s t → (j : ℕ) → 0 < j → (seat s j).number ≡ j → (x y : Published C R) → IsPublished obj s j x → IsPublished obj t j y → y ≡ x
  seats_publish s t r q c j some named x y p u = go x y p u
    where
      same : word t j ≡ word s j
      same = (words_stay s t c j).0

      slot : home t j ≡ home s j
      slot = (words_stay s t c j).1

      one : (a d : C) → HasCallPending s j a → HasCallPending t j d → d ≡ a
      one a d v w = elim (seats_pending s t c j some named) [
        | inl e ↦ same_pending (seat s j).own.pending d a w.0 v.0 (sym e ∙ w.1) v.1
        | inr none ↦ absurd (none_pending (seat t j).own.pending d w.0 none w.1)
      ]

      go : (x y : Published C R) → IsPublished obj s j x → IsPublished obj t j y → y ≡ x
      go nothing nothing p u = refl
      go nothing (waiting d) p u = absurd (idle_word (word s j) POSTED p.word_is (sym same ∙ u.word_is) (omega arith) (omega arith))
      go nothing (opened d) p u = absurd (idle_word (word s j) BUSY p.word_is (sym same ∙ u.word_is) (omega arith) (omega arith))
      go nothing (answered d b v) p u = absurd (idle_word (word s j) SERVED p.word_is (sym same ∙ u.word_is) (omega arith) (omega arith))
      go (waiting a) nothing p u = absurd (idle_word (word t j) POSTED u.word_is (same ∙ p.word_is) (omega arith) (omega arith))
      go (opened a) nothing p u = absurd (idle_word (word t j) BUSY u.word_is (same ∙ p.word_is) (omega arith) (omega arith))
      go (answered a e w) nothing p u = absurd (idle_word (word t j) SERVED u.word_is (same ∙ p.word_is) (omega arith) (omega arith))
      go (waiting a) (waiting d) p u = ap (λ (k : C). waiting k) (one a d p.pending u.pending)
      go (waiting a) (opened d) p u = absurd (omega (arith, same, p.word_is, u.word_is))
      go (waiting a) (answered d b v) p u = absurd (omega (arith, same, p.word_is, u.word_is))
      go (opened a) (waiting d) p u = absurd (omega (arith, same, p.word_is, u.word_is))
      go (opened a) (opened d) p u = ap (λ (k : C). opened k) (one a d p.pending u.pending)
      go (opened a) (answered d b v) p u = absurd (omega (arith, same, p.word_is, u.word_is))
      go (answered a e w) (waiting d) p u = absurd (omega (arith, same, p.word_is, u.word_is))
      go (answered a e w) (opened d) p u = absurd (omega (arith, same, p.word_is, u.word_is))
      go (answered a e w) (answered d b v) p u =
          let call : d ≡ a = one a d p.pending u.pending in
          let held : ServedReply b v ≡ ServedReply e w = opt.some-injective (ServedReply b v) (ServedReply e w) (sym u.slot ∙ (slot ∙ p.slot)) in
          cc (call, held)
