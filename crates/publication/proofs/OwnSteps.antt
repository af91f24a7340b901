-- What a step of the session itself makes of what is published in its record.
use Rattle.std.proofs.Common.{◌≡◌, ◌≢◌, ◌⊎◌, inl, inr, ℕ, ◌<◌, Some, None, List, [], ◌∷◌, ◌++◌, length, get_or, refl, sym, ap, subst, ◌∙◌, arith, get_or-set_same}
use mathlib.Core.Option as opt
use mathlib.Core.Logic.{dite}
use native.Mathlib.Decide.{ℕ_discrete}
use Rattle.atomic_table.specs.Table.{step}
use Rattle.sequential.specs.declared.entry.Entry.{Entry}
use Rattle.sequential.specs.Histories.{Answered, calls_of}
use Rattle.publication.specs.Words.{word_of, FREE, POSTED, BUSY, SERVED, CLOSED, EMPTY}
use Rattle.publication.specs.Views.{Own, Combiner, answer, asks}
use Rattle.publication.specs.Rule.{blank, BoardState, word, seat, own_at}
use Rattle.publication.specs.List.{IsRuled}
use Rattle.publication.specs.StepKinds.{Seated, asked, opened_in}
use Rattle.publication.specs.BoardHistory.{history_of}
use Rattle.publication.specs.PublishedRecords.{Published, HasCallPending, HoldsNothing, IsPublished, IsServedFurther, IsPublishedOrCollected}
use Rattle.publication.specs.PublishedRecords.Published.{nothing, waiting, opened, answered}
use Rattle.publication.specs.Runs.{StepName, start, post, look_at_head, link, enlist, look_for_reply, take_reply, look_at_lock, seize, release, walk, walk_on, unlink, mark_out, relink, look_at_record, open_record, lay, pick, answer_record, put_back, enter, learn, compare, retire, leave, kind_of, StepRequires, IsStep}
use Rattle.publication.specs.declared.view.View.{View}
use Rattle.publication.specs.declared.slot.SlotValue.{SlotValue}
use Rattle.publication.proofs.Lists.{at_there, there_at}
use Rattle.publication.proofs.BoardHistory.{is-history}
use Rattle.publication.proofs.RealTime.{step-unchanged}
use Rattle.publication.proofs.SessionsGoOn.{follows}
use Rattle.publication.proofs.PublishedRecords.{idle_word, none_pending, CallsAre, calls_are, calls_stay_but, no_more, alike, ended, other_seat, served_further}
use Rattle.sequential.specs.declared.object.Sequential.{Ghosts}

module _ {O C R : Type 0} where
  -- What a step does to what its session knows of its own calls: nothing; it notes a call as pending, with none pending before; it
  -- takes a reply out of its own record; or it enters a call with none pending.
  data OwnChange (m n : Seated O C R) (at found : ℕ) (name : StepName C R) : Type 0 where
    kept : n.0.own.pending ≡ m.0.own.pending → n.0.own.collected ≡ m.0.own.collected → ((call : C) (reply : R) → name ≢ enter call reply) → OwnChange m n at found name
    noted : (call : C) (floor : ℕ) → m.0.own.pending ≡ None → n.0.own.pending ≡ Some (asks call floor) → n.0.own.collected ≡ m.0.own.collected → n.0.combiner ≡ m.0.combiner → name ≢ answer_record
        → ((call : C) (reply : R) → name ≢ enter call reply) → OwnChange m n at found name
    took : at ≡ word_of m.0.number → found ≡ SERVED → n.0.own.pending ≡ None → OwnChange m n at found name
    entered : m.0.own.pending ≡ None → n.0.own.pending ≡ None → OwnChange m n at found name

  module _ (obj : Ghosts O C R) (m n : Seated O C R) (slots at first second found : ℕ) where
    calm : (name : StepName C R) (w : View C R) (d : List (ℕ × SlotValue O C R)) → n ≡ (w, d) → w.own.pending ≡ m.0.own.pending → w.own.collected ≡ m.0.own.collected → ((call : C) (reply : R) → name ≢ enter call reply) → OwnChange m n at found name
    calm name w d e pending collected direct = kept (ap (λ (x : Seated O C R). x.0.own.pending) e ∙ pending) (ap (λ (x : Seated O C R). x.0.own.collected) e ∙ collected) direct

    unmoved : (name : StepName C R) → n ≡ m → ((call : C) (reply : R) → name ≢ enter call reply) → OwnChange m n at found name
    unmoved name e direct = calm name m.0 m.1 e refl refl direct

    -- Each kind of step.
    own_change : (name : StepName C R) → StepRequires obj name at m → kind_of obj name (step slots at first second opt.none) m found n → OwnChange m n at found name
    own_change start asks told = entered asks (ap (λ (x : Seated O C R). x.0.own.pending) told)
    own_change post asks told = noted (asked obj m.1) (length m.0.front) asks.0 (ap (λ (x : Seated O C R). x.0.own.pending) told.0) (ap (λ (x : Seated O C R). x.0.own.collected) told.0) (ap (λ (x : Seated O C R). x.0.combiner) told.0) (λ e. absurd (cc e)) (λ call reply e. absurd (cc e))
    own_change look_at_head asks told = unmoved look_at_head told.0 (λ call reply e. absurd (cc e))
    own_change link asks told = calm link _ _ told refl refl (λ call reply e. absurd (cc e))
    own_change enlist asks told = dite (ℕ_discrete found first) (λ e. calm enlist _ _ (told.0 e) refl refl (λ call reply e. absurd (cc e))) (λ ne. calm enlist _ _ (told.1 ne).0 refl refl (λ call reply e. absurd (cc e)))
    own_change look_for_reply asks told = unmoved look_for_reply told.0 (λ call reply e. absurd (cc e))
    own_change take_reply asks told = dite (ℕ_discrete found SERVED)
        (λ hit. let x = told.0 hit in took asks hit (ap (λ (y : Seated O C R). y.0.own.pending) x.2.4))
        (λ ne. unmoved take_reply (told.1 ne).0 (λ call reply e. absurd (cc e)))
    own_change look_at_lock asks told = unmoved look_at_lock told.0 (λ call reply e. absurd (cc e))
    own_change seize asks told = dite (ℕ_discrete found FREE) (λ hit. let x = told.0 hit in calm seize _ _ x.1 refl refl (λ call reply e. absurd (cc e))) (λ ne. unmoved seize (told.1 ne).0 (λ call reply e. absurd (cc e)))
    own_change release asks told = calm release _ _ told refl refl (λ call reply e. absurd (cc e))
    own_change walk asks told = calm walk _ _ told.1 refl refl (λ call reply e. absurd (cc e))
    own_change walk_on asks told = unmoved walk_on told.0 (λ call reply e. absurd (cc e))
    own_change unlink asks told = calm unlink _ _ told refl refl (λ call reply e. absurd (cc e))
    own_change mark_out asks told = dite (ℕ_discrete found EMPTY) (λ hit. calm mark_out _ _ (told.0 hit) refl refl (λ call reply e. absurd (cc e)))
        (λ ne. dite (ℕ_discrete found CLOSED) (λ hit. calm mark_out _ _ (told.1 hit) refl refl (λ call reply e. absurd (cc e))) (λ nc. unmoved mark_out (told.2 ne nc) (λ call reply e. absurd (cc e))))
    own_change relink asks told = calm relink _ _ told refl refl (λ call reply e. absurd (cc e))
    own_change look_at_record asks told = unmoved look_at_record told.0 (λ call reply e. absurd (cc e))
    own_change open_record asks told = dite (ℕ_discrete found POSTED) (λ hit. let x = told.0 hit in calm open_record _ _ x.1 refl refl (λ call reply e. absurd (cc e))) (λ ne. unmoved open_record (told.1 ne).0 (λ call reply e. absurd (cc e)))
    own_change lay asks told = calm lay _ _ told refl refl (λ call reply e. absurd (cc e))
    own_change pick asks told = calm pick _ _ told refl refl (λ call reply e. absurd (cc e))
    own_change answer_record asks told = calm answer_record _ _ told.0 refl refl (λ call reply e. absurd (cc e))
    own_change put_back asks told = calm put_back _ _ told refl refl (λ call reply e. absurd (cc e))
    own_change (enter call reply) asks told = entered asks.2 (ap (λ (x : Seated O C R). x.0.own.pending) told.0 ∙ asks.2)
    own_change learn asks told = calm learn _ _ told.0 refl refl (λ call reply e. absurd (cc e))
    own_change compare asks told = unmoved compare told.0 (λ call reply e. absurd (cc e))
    own_change retire asks told = entered asks (ap (λ (x : Seated O C R). x.0.own.pending) told)
    own_change leave asks told = entered asks.0 (ap (λ (x : Seated O C R). x.0.own.pending) told)

module _ {O C R : Type 0} {obj : Ghosts O C R} where
  module _ (name : StepName C R) (s t : BoardState O C R) (r : IsRuled obj s) (q : IsRuled obj t) (c : IsStep obj name s t) (j : ℕ) (here : c.id ≡ j) (some : 0 < j) (named : (seat s j).number ≡ j) where
    before_is : seat s j ≡ c.before.0
    before_is = ap (seat s) (sym here) ∙ (at_there s.views c.id c.before.0 blank c.seated).0

    after_is : seat t j ≡ c.after.0
    after_is = ap (seat t) (sym here) ∙ (ap (λ (x : BoardState O C R). seat x c.id) c.is ∙ get_or-set_same s.views c.id c.after.0 blank (at_there s.views c.id c.before.0 blank c.seated).1)

    number_is : c.before.0.number ≡ j
    number_is = ap (λ (v : View C R). v.number) (sym before_is) ∙ named

    -- The seat is the session's afterwards.
    still : (seat t j).number ≡ j
    still = ap (λ (v : View C R). v.number) after_is ∙ (((follows c.before c.after obj name (length s.homes) c.at c.first c.second (get_or s.words c.at 0) c.told).0 (omega (arith, number_is, some))).0 ∙ number_is)

    small : j < length s.homes
    small = omega (arith, (r.records.sessions j (λ z. omega (arith, z, named, some))).small, r.records.homes_are)

    small_after : j < length t.homes
    small_after = omega (arith, (q.records.sessions j (λ z. omega (arith, z, still, some))).small, q.records.homes_are)

    -- What the history has of the session's calls, before and after.
    calls_before : (x : Published C R) → IsPublished obj s j x → CallsAre (calls_of j r.records.history) c.before.0.own.collected x
    calls_before x p = subst (λ (o : Own C R). CallsAre (calls_of j r.records.history) o.collected x) (sym (r.records.sessions j (λ z. omega (arith, z, named, some))).own_is ∙ ap (λ (v : View C R). v.own) before_is) (calls_are s j r some small x p)

    calls_after : (y : Published C R) → IsPublished obj t j y → CallsAre (calls_of j q.records.history) c.after.0.own.collected y
    calls_after y u = subst (λ (o : Own C R). CallsAre (calls_of j q.records.history) o.collected y) (sym (q.records.sessions j (λ z. omega (arith, z, still, some))).own_is ∙ ap (λ (v : View C R). v.own) after_is) (calls_are t j q some small_after y u)

    pending_before : (call : C) → HasCallPending s j call → (floor : ℕ) × (c.before.0.own.pending ≡ Some (asks call floor))
    pending_before call p = (p.0, ap (λ (v : View C R). v.own.pending) (sym before_is) ∙ p.1)

    pending_after : (call : C) → HasCallPending t j call → (floor : ℕ) × (c.after.0.own.pending ≡ Some (asks call floor))
    pending_after call p = (p.0, ap (λ (v : View C R). v.own.pending) (sym after_is) ∙ p.1)

    none_after : HoldsNothing t j → c.after.0.own.pending ≡ None
    none_after p = ap (λ (v : View C R). v.own.pending) (sym after_is) ∙ p.none still

    -- With no call pending afterwards, nothing is published then.
    only_nothing : c.after.0.own.pending ≡ None → (call : C) → HasCallPending t j call → ⊥
    only_nothing none call p = let w = pending_after call p in none_pending c.after.0.own.pending call w.0 none w.1

    abbrev Moves : Published C R → Published C R → Type 0
    Moves x y = (y ≡ x) ⊎ (IsServedFurther (length (history_of obj s)) x y ⊎ IsPublishedOrCollected x y)

    served_on : (x y : Published C R) → (y ≡ x) ⊎ IsServedFurther (length (history_of obj s)) x y → Moves x y
    served_on x y m = elim m [ inl e ↦ inl e | inr f ↦ inr (inl f) ]

    -- The session knows of its calls what it knew.
    kept_moves : c.after.0.own.pending ≡ c.before.0.own.pending → c.after.0.own.collected ≡ c.before.0.own.collected → ((call : C) (reply : R) → name ≢ enter call reply)
        → (x y : Published C R) → IsPublished obj s j x → IsPublished obj t j y → Moves x y
    kept_moves pending collected direct x y p u = served_on x y (elim (calls_stay_but s t r q j name direct c) [
      | inl stay ↦ alike s t j named still same (length (history_of obj s)) obj (calls_of j r.records.history) c.before.0.own.collected x y p u (calls_before x p) (subst (λ (l : List (Answered C R)). CallsAre l c.before.0.own.collected y) stay after)
      | inr now ↦ ended s t j named still same (length (history_of obj s)) obj (calls_of j r.records.history) c.before.0.own.collected x y now.call now.reply now.is_busy now.pending p u (calls_before x p)
          (subst (λ (h : List (Entry C R)). CallsAre (calls_of j r.records.history ++ answer (length h) now.call now.reply ∷ []) c.before.0.own.collected y) (is-history s r.records) (subst (λ (l : List (Answered C R)). CallsAre l c.before.0.own.collected y) now.calls after))
    ])
      where
        same : (seat t j).own.pending ≡ (seat s j).own.pending
        same = ap (λ (v : View C R). v.own.pending) after_is ∙ (pending ∙ ap (λ (v : View C R). v.own.pending) (sym before_is))

        after : CallsAre (calls_of j q.records.history) c.before.0.own.collected y
        after = subst (λ (l : List (Answered C R)). CallsAre (calls_of j q.records.history) l y) collected (calls_after y u)

    -- With no call pending before, nothing was published.
    only_nothing_before : c.before.0.own.pending ≡ None → (call : C) → HasCallPending s j call → ⊥
    only_nothing_before none call p = let w = pending_before call p in none_pending c.before.0.own.pending call w.0 none w.1

    -- Who is opened by whom is as before.
    module _ (combiner : c.after.0.combiner ≡ c.before.0.combiner) where
      combiners : (k : ℕ) → (seat t k).combiner ≡ (seat s k).combiner
      combiners k = dite (ℕ_discrete k j)
          (λ e. subst (λ (i : ℕ). (seat t i).combiner ≡ (seat s i).combiner) (sym e) (ap (λ (v : View C R). v.combiner) after_is ∙ (combiner ∙ ap (λ (v : View C R). v.combiner) (sym before_is))))
          (λ ne. ap (λ (v : View C R). v.combiner) (other_seat name s t c k (λ e. ne (sym e ∙ here))))

      -- One that is opened afterwards was opened before, with this call.
      opened_before : (call : C) → opened_in (seat t (word t 0)) j ≡ Some call → (word s j ≡ BUSY) × ((floor : ℕ) × ((own_at r.records.owns j).pending ≡ Some (asks call floor)))
      opened_before call is =
          let o = r.records.opens (word t 0) j call (there_at (seat s (word t 0)).combiner.opened j call (ap (λ (b : Combiner C). get_or b.opened j None) (sym (combiners (word t 0))) ∙ is)) in
          (o.is_busy, o.call_of)

      module _ (collected : c.after.0.own.collected ≡ c.before.0.own.collected) (other : name ≢ answer_record) (direct : (call : C) (reply : R) → name ≢ enter call reply) where
        history_stays : q.records.history ≡ r.records.history
        history_stays = is-history t q.records ∙ (step-unchanged name s t other direct r q c ∙ sym (is-history s r.records))

        calls_same : (y : Published C R) → IsPublished obj t j y → CallsAre (calls_of j r.records.history) c.before.0.own.collected y
        calls_same y u = subst (λ (h : List (Entry C R)). CallsAre (calls_of j h) c.before.0.own.collected y) history_stays (subst (λ (l : List (Answered C R)). CallsAre (calls_of j q.records.history) l y) collected (calls_after y u))

        -- The session publishes a call, with none pending before.
        noted_moves : (call : C) (floor : ℕ) → c.before.0.own.pending ≡ None → c.after.0.own.pending ≡ Some (asks call floor) → (x y : Published C R) → IsPublished obj s j x → IsPublished obj t j y → Moves x y
        noted_moves call floor was is x nothing p u = absurd (none_pending c.after.0.own.pending call floor (none_after u) is)
        noted_moves call floor was is (waiting a) y p u = absurd (only_nothing_before was a p.pending)
        noted_moves call floor was is (opened a) y p u = absurd (only_nothing_before was a p.pending)
        noted_moves call floor was is (answered a b v) y p u = absurd (only_nothing_before was a p.pending)
        noted_moves call floor was is nothing (waiting d) p u = inr (inr tt)
        noted_moves call floor was is nothing (opened d) p u = absurd (idle_word (word s j) BUSY p.word_is (opened_before d u.opened_is).0 (omega arith) (omega arith))
        noted_moves call floor was is nothing (answered d b v) p u = absurd (no_more c.before.0.own.collected (answer b d v) (sym (calls_before nothing p) ∙ calls_same (answered d b v) u))

    -- The session takes the reply out of its record.
    module _ (at : c.at ≡ word_of c.before.0.number) (hit : get_or s.words c.at 0 ≡ SERVED) where
      served_word : word s j ≡ SERVED
      served_word = ap (λ (k : ℕ). get_or s.words (word_of k) 0) (sym number_is) ∙ (ap (λ (k : ℕ). get_or s.words k 0) (sym at) ∙ hit)

      took_moves : c.after.0.own.pending ≡ None → (x y : Published C R) → IsPublished obj s j x → IsPublished obj t j y → Moves x y
      took_moves none x (waiting d) p u = absurd (only_nothing none d u.pending)
      took_moves none x (opened d) p u = absurd (only_nothing none d u.pending)
      took_moves none x (answered d b v) p u = absurd (only_nothing none d u.pending)
      took_moves none nothing nothing p u = inl refl
      took_moves none (answered a b v) nothing p u = inr (inr tt)
      took_moves none (waiting a) nothing p u = absurd (omega (arith, p.word_is, served_word))
      took_moves none (opened a) nothing p u = absurd (omega (arith, p.word_is, served_word))

    -- The session has no call pending before or after.
    idle_moves : c.before.0.own.pending ≡ None → c.after.0.own.pending ≡ None → (x y : Published C R) → IsPublished obj s j x → IsPublished obj t j y → Moves x y
    idle_moves was none x (waiting d) p u = absurd (only_nothing none d u.pending)
    idle_moves was none x (opened d) p u = absurd (only_nothing none d u.pending)
    idle_moves was none x (answered d b v) p u = absurd (only_nothing none d u.pending)
    idle_moves was none nothing nothing p u = inl refl
    idle_moves was none (waiting a) nothing p u = absurd (only_nothing_before was a p.pending)
    idle_moves was none (opened a) nothing p u = absurd (only_nothing_before was a p.pending)
    idle_moves was none (answered a b v) nothing p u = absurd (only_nothing_before was a p.pending)

    own_moves : (x y : Published C R) → IsPublished obj s j x → IsPublished obj t j y → Moves x y
    own_moves x y p u = go (own_change obj c.before c.after (length s.homes) c.at c.first c.second (get_or s.words c.at 0) name c.asked c.told)
      where
        go : OwnChange c.before c.after c.at (get_or s.words c.at 0) name → Moves x y
        go (kept pending collected direct) = kept_moves pending collected direct x y p u
        go (noted call floor was is collected combiner other direct) = noted_moves combiner collected other direct call floor was is x y p u
        go (took at hit none) = took_moves at hit none x y p u
        go (entered was none) = idle_moves was none x y p u

  -- Whoever makes the step, what is published in a record stays or goes one step further.
  pub record_moves : (name : StepName C R) (s t : BoardState O C R) → IsRuled obj s → IsRuled obj t → IsStep obj name s t → (j : ℕ) → 0 < j → (seat s j).number ≡ j → (x y : Published C R) → IsPublished obj s j x → IsPublished obj t j y
      → (y ≡ x) ⊎ (IsServedFurther (length (history_of obj s)) x y ⊎ IsPublishedOrCollected x y)
  record_moves name s t r q c j some named x y p u = dite (ℕ_discrete c.id j)
      (λ here. own_moves name s t r q c j here some named x y p u)
      (λ ne. elim (served_further name s t r q c j ne some named x y p u) [ inl e ↦ inl e | inr f ↦ inr (inl f) ])
