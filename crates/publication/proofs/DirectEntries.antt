-- A direct entry keeps the rule: the history, what its session knows of it and the answers that the session collected grow
-- by the same entry.
use Rattle.std.proofs.Common.{false, ◌≡◌, ◌≢◌, inl, inr, ℕ, ◌+◌, ◌^◌, ◌<◌, ◌≤◌, true, Option, Some, None, List, [], ◌∷◌, ◌++◌, length, map, get_or, set, sym, refl, ap, ◌∙◌, subst, arith, length-set, length-append, get_or-set_other, get_or-set_same}
use Rattle.sequential.specs.Bounds.{Bounds}
use Rattle.std.proofs.lemmas.List.{append_assoc, map-append, set-get_or}
use mathlib.Core.Option as opt
use mathlib.Core.Logic.{dite}
use mathlib.Core.List.{IsPrefix}
use native.Mathlib.Decide.{ℕ_discrete}
use lib.ListN.{get_elem?}
use Rattle.atomic_table.specs.Table.{keeps, step, Allows}
use Rattle.sequential.specs.declared.entry.Entry.{Entry}
use Rattle.sequential.specs.Histories.{Answered, calls_of}
use Rattle.sequential.specs.Linearizable.{Event, invocation, response, performed_by, IsCompletionOf}
use Rattle.publication.specs.Words.{word_of, BUSY}
use Rattle.publication.specs.Views.{Own, Combiner, Others, entry, answer, asks}
use Rattle.publication.specs.Rule.{blank, BoardState, word, home, seat, fresh, own_at, announced, IsVacant, RecordState, HasObject, IsOpened, IsSession, IsMaker, AreTrue, HasPieces, calls_known, IsInTime, IsOrderly}
use Rattle.publication.specs.Rule.RecordState.{vacant}
use Rattle.publication.specs.List.{IsLinked, IsRuled, IsBounded}
use Rattle.publication.specs.StepKinds.{entering, enters}
use Rattle.publication.specs.declared.view.View.{View}
use Rattle.publication.specs.declared.slot.SlotValue.{SlotValue}
use Rattle.publication.proofs.Lists.{at_there, each_set, prefix_self, prefix_trans}
use Rattle.publication.proofs.SeatViews.{session_of, heard_few, others_of, object_of, pieces_of_seat}
use Rattle.publication.proofs.Others.{still-true}
use Rattle.publication.proofs.Pieces.{pieces_kept}
use Rattle.publication.proofs.Present.{IsAlike, present_kept}
use Rattle.publication.proofs.InTime.{completes, noted_one, entered_more, invokes, responds}
use Rattle.publication.proofs.Histories.{calls-mine}
use Rattle.publication.proofs.RecordStates.{is_vacant, idle_announced, grown}
use Rattle.publication.proofs.UnchangedList.{aside, same_walk}
use Rattle.publication.proofs.SessionKinds.{Goes, seated}
use Rattle.sequential.specs.declared.object.Sequential.{Ghosts}

module _ {O C R : Type 0} {obj : Ghosts O C R} where
  -- The combiner, with view v and no call pending, enters this call with this reply.
  module _ (v : View C R) (some_number : 0 < v.number) (s : BoardState O C R) (o : IsOrderly obj s) (l : IsLinked s) (me : get_elem? s.views v.number ≡ opt.some v) (small : v.number < o.slots)
      (has : v.combiner.has_object ≡ true) (none : v.own.pending ≡ None) (live : v.own.retired ≡ false) (call : C) (reply : R)
      (legal : obj.is_legal (v.front ++ entry v.number call reply ∷ [])) (short : length v.front + 1 < 2 ^ 64) where
    -- The session's number.
    abbrev i : ℕ
    i = v.number

    -- The session's events after the step.
    abbrev log : List (ℕ × Event C R)
    log = v.own.log ++ (length o.in_time.events, invocation v.number call) ∷ (length o.in_time.events + 1, response v.number reply) ∷ []

    -- The session's view after the step.
    abbrev u : View C R
    u = entering v log call reply

    -- The history after the step.
    abbrev h : List (Entry C R)
    h = v.front ++ entry v.number call reply ∷ []

    -- What the session knows of its own calls after the step.
    abbrev w : Own C R
    w = (entering v log call reply).own

    -- The board after the step.
    abbrev after : BoardState O C R
    after = record { words = s.words; homes = s.homes; views = set s.views v.number (entering v log call reply) }

    -- The sessions' own calls after the step.
    abbrev owns_after : List (Own C R)
    owns_after = set o.owns v.number (entering v log call reply).own

    is_me : seat s i ≡ v
    is_me = (at_there s.views i v blank me).0

    sits : i < length s.views
    sits = (at_there s.views i v blank me).1

    lives : v.number ≢ 0
    lives e = omega arith

    object : HasObject o.history (word s 0) i v
    object = object_of s o i v me has

    session : IsSession o.slots o.owns i v
    session = session_of s o i v me lives

    h_is : h ≡ o.history ++ entry i call reply ∷ []
    h_is = ap (λ (f : List (Entry C R)). f ++ entry i call reply ∷ []) object.whole

    grows : IsPrefix o.history h
    grows = (entry i call reply ∷ [], sym h_is)

    seat_other : (j : ℕ) → j ≢ i → seat after j ≡ seat s j
    seat_other j ne = get_or-set_other s.views i j u blank ne

    seats_kept : length (set s.views i u) ≡ length s.views
    seats_kept = length-set s.views i u

    own_other : (j : ℕ) → j ≢ i → own_at owns_after j ≡ own_at o.owns j
    own_other j ne = get_or-set_other o.owns i j w fresh ne

    own_here : own_at owns_after i ≡ w
    own_here = get_or-set_same o.owns i w fresh (omega (arith, o.owns_are))

    -- A combiner's part with one place more that was entered.
    abbrev IsKept : Combiner C → Combiner C → Type 0
    IsKept c d = (d.has_object ≡ c.has_object) × (d.opened ≡ c.opened) × (d.hand ≡ c.hand)

    combiner_kept : (k : ℕ) → IsKept (seat s k).combiner (seat after k).combiner
    combiner_kept = each_set s.views i u blank (λ k x. IsKept (seat s k).combiner x.combiner) sits
        (subst (λ (x : View C R). IsKept x.combiner u.combiner) (sym is_me) (refl, refl, refl)) (λ k ne. (refl, refl, refl))

    -- The session's record stays vacant: the answers that it collected grow with the history.

    was_vacant : IsVacant o.history i (word s i) (home s i) v.own
    was_vacant = is_vacant (subst (λ (y : Own C R). RecordState o.history i (word s i) (home s i) y) (sym session.own_is) (o.stands i some_number small)) none live

    calls_now : calls_of i h ≡ w.collected
    calls_now = calls-mine i v.front call reply ∙ ap (λ (cs : List (Answered C R)). cs ++ answer (length v.front) call reply ∷ []) (ap (calls_of i) object.whole ∙ was_vacant.calls)

    stands_here : RecordState h i (word s i) (home s i) w
    stands_here = let t = was_vacant in vacant record { is = t.is; none = none; out = t.out; empty_slot = t.empty_slot; publishes = live; calls = calls_now }

    stands_after : (j : ℕ) → 0 < j → j < o.slots → RecordState h j (word s j) (home s j) (own_at owns_after j)
    stands_after j some_record few = dite (ℕ_discrete j i)
        (λ e. subst (λ (m : ℕ). RecordState h m (word s m) (home s m) (own_at owns_after m)) (sym e) (rw own_here stands_here))
        (λ ne. rw (own_other j ne) (subst (λ (f : List (Entry C R)). RecordState f j (word s j) (home s j) (own_at o.owns j)) (sym h_is) (grown o.history j i call reply ne (o.stands j some_record few))))

    -- It announces one call more.

    announces_more : announced v.own ≤ announced w
    announces_more = omega (arith, idle_announced v.own none, idle_announced w none, length-append v.own.collected (answer (length v.front) call reply ∷ []))

    announced_more : (j : ℕ) → announced (own_at o.owns j) ≤ announced (own_at owns_after j)
    announced_more = each_set o.owns i w fresh (λ j x. announced (own_at o.owns j) ≤ announced x) (omega (arith, o.owns_are)) (omega (arith, ap announced session.own_is, announces_more)) (λ j ne. omega arith)

    heard_after : (m j : ℕ) → get_or (seat after m).heard j 0 ≤ announced (own_at owns_after j)
    heard_after m j = each_set s.views i u blank (λ m x. get_or x.heard j 0 ≤ announced (own_at owns_after j)) sits (omega (arith, heard_few s o i v me j, announced_more j))
        (λ m ne. omega (arith, o.heard m j, announced_more j)) m

    -- The other seats.

    makes_after : IsMaker o.slots (length (set s.views i u)) (seat after 0)
    makes_after = subst (λ (m : ℕ). IsMaker o.slots m (seat after 0)) (sym seats_kept)
        (subst (λ (x : View C R). IsMaker o.slots (length s.views) x) (sym (seat_other 0 (λ e. omega arith))) o.makes)

    sessions_after : (j : ℕ) → (seat after j).number ≢ 0 → IsSession o.slots owns_after j (seat after j)
    sessions_after = each_set s.views i u blank (λ j x. x.number ≢ 0 → IsSession o.slots owns_after j x) sits
        (λ some. let t = session in record { own_is = sym own_here; is = t.is; small = t.small; wide = t.wide })
        (λ j ne some. let t = o.sessions j some in record { own_is = t.own_is ∙ sym (own_other j ne); is = t.is; small = t.small; wide = t.wide })

    still : (x : Others C R) → AreTrue o.history s o.slots o.owns x → AreTrue h after o.slots owns_after x
    still x = still-true o.history h s after o.slots o.owns owns_after x grows (omega (arith, seats_kept))
        (λ j some few gone. let ne : j ≢ i = λ e. lives (ap (λ (y : View C R). y.number) (sym is_me) ∙ (ap (λ (m : ℕ). (seat s m).number) (sym e) ∙ gone)) in
        (ap (λ (y : View C R). y.number) (seat_other j ne) ∙ gone, own_other j ne))

    others_after : (m : ℕ) → AreTrue h after o.slots owns_after (seat after m).others
    others_after = each_set s.views i u blank (λ m x. AreTrue h after o.slots owns_after x.others) sits
        (still v.others (others_of s o i v me)) (λ m ne. still (seat s m).others (o.others m))

    -- No other session has the object.
    combiners_after : (j : ℕ) → (seat after j).combiner.has_object ≡ true → HasObject h (word s 0) j (seat after j)
    combiners_after = each_set s.views i u blank (λ j x. x.combiner.has_object ≡ true → HasObject h (word s 0) j x) sits
        (λ _. let t = object in record { lock_is = t.lock_is; session = some_number; named = t.named; whole = refl })
        (λ j ne has_too. absurd (ne (sym (o.combiners j has_too).lock_is ∙ object.lock_is)))

    pending_kept : (j : ℕ) → (own_at owns_after j).pending ≡ (own_at o.owns j).pending
    pending_kept = each_set o.owns i w fresh (λ j x. x.pending ≡ (own_at o.owns j).pending) (omega (arith, o.owns_are)) (ap (λ (x : Own C R). x.pending) session.own_is) (λ j ne. refl)

    opens_after : (m j : ℕ) (c : C) → get_elem? (seat after m).combiner.opened j ≡ opt.some (Some c) → IsOpened after owns_after (seat after m).combiner j c
    opens_after m j c there =
        let kept = combiner_kept m in
        let t : IsOpened s o.owns (seat s m).combiner j c = o.opens m j c (sym (ap (λ (d : List (Option C)). get_elem? d j) kept.1) ∙ there) in record {
          object = kept.0 ∙ t.object;
          record_of = t.record_of;
          is_busy = t.is_busy;
          call_of = (t.call_of.0, pending_kept j ∙ t.call_of.1);
          empty_slot = λ away. t.empty_slot (λ held. away (kept.2 ∙ held));
        }

    opened_after : (j : ℕ) → 0 < j → word s j ≡ BUSY → (c : C) × (get_elem? (seat after (word s 0)).combiner.opened j ≡ opt.some (Some c))
    opened_after j some_record busy = let t = o.opened j some_record busy in
        (t.0, ap (λ (d : List (Option C)). get_elem? d j) (combiner_kept (word s 0)).1 ∙ t.1)

    -- The call is made, is entered into the history, and returns.

    -- What the session knows of its own calls in between.
    abbrev made : Own C R
    made = record { started = v.own.started; retired = v.own.retired; pending = Some (asks call 0); collected = v.own.collected; listed = v.own.listed; log = v.own.log ++ (length o.in_time.events, invocation v.number call) ∷ [] }

    -- The sessions' own calls in between.
    abbrev owns_made : List (Own C R)
    owns_made = set o.owns v.number made

    made_other : (j : ℕ) → j ≢ i → own_at owns_made j ≡ own_at o.owns j
    made_other j ne = get_or-set_other o.owns i j made fresh ne

    made_here : own_at owns_made i ≡ made
    made_here = get_or-set_same o.owns i made fresh (omega (arith, o.owns_are))

    abbrev pairs : List (Answered C R) → List (C × R)
    pairs l = map (λ (a : Answered C R). (a.call, a.reply)) l

    made_complete : (j : ℕ) → 0 < j → j < o.slots → IsCompletionOf (calls_known (own_at owns_made j)) (performed_by j o.history)
    made_complete j some few = dite (ℕ_discrete j i)
        (λ e. subst (λ (k : ℕ). IsCompletionOf (calls_known (own_at owns_made k)) (performed_by k o.history)) (sym e)
        (subst (λ (x : Own C R). IsCompletionOf (calls_known x) (performed_by i o.history)) (sym made_here) (inl (ap pairs was_vacant.calls))))
        (λ ne. subst (λ (x : Own C R). IsCompletionOf (calls_known x) (performed_by j o.history)) (sym (made_other j ne)) (completes (o.stands j some few)))

    entry_complete : (j : ℕ) → 0 < j → j < o.slots → IsCompletionOf (calls_known (own_at owns_made j)) (performed_by j (o.history ++ entry v.number call reply ∷ []))
    entry_complete j some few = subst (λ (f : List (Entry C R)). IsCompletionOf (calls_known (own_at owns_made j)) (performed_by j f)) h_is (dite (ℕ_discrete j i)
        (λ e. subst (λ (k : ℕ). IsCompletionOf (calls_known (own_at owns_made k)) (performed_by k h)) (sym e)
        (subst (λ (x : Own C R). IsCompletionOf (calls_known x) (performed_by i h)) (sym made_here)
        (inr (call, reply, refl, ap pairs calls_now ∙ map-append (λ (a : Answered C R). (a.call, a.reply)) v.own.collected (answer (length v.front) call reply ∷ [])))))
        (λ ne. subst (λ (x : Own C R). IsCompletionOf (calls_known x) (performed_by j h)) (sym (made_other j ne))
        (completes (subst (λ (f : List (Entry C R)). RecordState f j (word s j) (home s j) (own_at o.owns j)) (sym h_is) (grown o.history j i call reply ne (o.stands j some few))))))

    -- After the invocation.
    time_made : (u : IsInTime obj o.history o.slots owns_made) × (length u.events ≡ length o.in_time.events + 1)
    time_made = noted_one o.history o.slots o.owns o.in_time owns_made i v.own made session.own_is made_here made_other
        (invokes o.history o.slots o.owns o.in_time i v.own made session.own_is some_number small v.number refl call none refl refl refl) made_complete

    -- After the entry.
    time_entered : (u : IsInTime obj (o.history ++ entry v.number call reply ∷ []) o.slots owns_made) × (length u.events ≡ length time_made.0.events)
    time_entered = entered_more o.history o.slots owns_made time_made.0 (entry v.number call reply) (subst obj.is_legal h_is legal)
        (record { some = omega (arith, some_number); within = omega (arith, small, time_made.0.sessions_are) }) entry_complete

    two_noted : (n : ℕ) → n ≡ length o.in_time.events + 1
        → log ≡ (v.own.log ++ (length o.in_time.events, invocation v.number call) ∷ []) ++ (n, response v.number reply) ∷ []
    two_noted n is = ap (λ (k : ℕ). v.own.log ++ (length o.in_time.events, invocation v.number call) ∷ (k, response v.number reply) ∷ []) (sym is)
        ∙ sym (append_assoc v.own.log ((length o.in_time.events, invocation v.number call) ∷ []) ((n, response v.number reply) ∷ []))

    -- After the response.
    time_after : IsInTime obj h o.slots owns_after
    time_after = subst (λ (f : List (Entry C R)). IsInTime obj f o.slots owns_after) (sym h_is)
        ((noted_one (o.history ++ entry v.number call reply ∷ []) o.slots owns_made time_entered.0 owns_after i made w (sym made_here) own_here (λ j ne. own_other j ne ∙ sym (made_other j ne))
        (responds (o.history ++ entry v.number call reply ∷ []) o.slots owns_made time_entered.0 i made w (sym made_here) some_number small v.number refl call (length v.front) reply refl
        (two_noted (length time_entered.0.events) (time_entered.1 ∙ time_made.1)) refl none)
        (λ j some few. subst (λ (f : List (Entry C R)). IsCompletionOf (calls_known (own_at owns_after j)) (performed_by j f)) h_is (completes (stands_after j some few)))).0)

    -- The step keeps the rule of the records.
    entered : IsOrderly obj after
    entered = record {
      history = h;
      slots = o.slots;
      owns = owns_after;
      legal = legal;
      short = omega (arith, short, length-append v.front (entry v.number call reply ∷ []));
      owns_are = length-set o.owns i w ∙ o.owns_are;
      words_are = o.words_are;
      homes_are = o.homes_are;
      makes = makes_after;
      unmade = λ j past. own_other j (λ e. omega (arith, sits, seats_kept)) ∙ o.unmade j (omega (arith, seats_kept));
      sessions = sessions_after;
      waits = each_set s.views i u blank (λ j x. (own_at owns_after j).pending ≢ None → x.own ≡ own_at owns_after j) sits
          (λ some. sym own_here) (λ j ne some. o.waits j (λ z. some (ap (λ (x : Own C R). x.pending) (own_other j ne) ∙ z)) ∙ sym (own_other j ne));
      fronts = each_set s.views i u blank (λ j x. IsPrefix x.front h) sits (prefix_self h) (λ j ne. prefix_trans (seat s j).front o.history h (o.fronts j) grows);
      heard = heard_after;
      others = others_after;
      stands = stands_after;
      combiners = combiners_after;
      free = λ z. absurd (omega (arith, object.lock_is));
      taken = λ some_lock. let t = o.taken some_lock in ((combiner_kept (word s 0)).0 ∙ t.0, t.1, t.2);
      opens = opens_after;
      opened = opened_after;
      pieces = pieces_kept o.slots s after o.pieces (omega (arith, seats_kept)) (λ z. (z, refl))
          (each_set s.views i u blank (λ j x. HasPieces o.pieces.all x) sits (let t = pieces_of_seat s o i v me in record { own = t.own; handed = t.handed; known = t.known }) (λ j ne. o.pieces.seats j));
      present = present_kept o.slots s after seats_kept
          (each_set s.views i u blank (λ j x. IsAlike (seat s j) x) sits (ap (λ (x : View C R). x.number) (sym is_me), ap (λ (x : View C R). x.others.handed) (sym is_me)) (λ j ne. (refl, refl))) o.present;
      in_time = time_after;
    }

    -- The publication list doesn't change.
    still_listed : IsLinked after
    still_listed = aside s l i v u s.words s.homes me (λ j. refl) refl l.whole (λ j b some ne. refl) (record {
      claims = λ b some e. e;
      heads_seen = λ n e. (e, λ some. refl);
      walkers = λ _. same_walk s l i v u s.words s.homes me has refl refl refl;
    })

    enter_goes : (more : List (ℕ × SlotValue O C R)) → Goes obj s 0 i (v, more) (enters call reply (step o.slots 0 0 0 opt.none) (v, more)) (word s 0)
    enter_goes more = (
      entering v log call reply,
      keeps,
      tt,
      subst (λ (ws : List ℕ). IsRuled obj record { words = ws; homes = s.homes; views = set s.views v.number (entering v log call reply) }) (sym (set-get_or s.words (word_of 0) 0)) (record { records = entered; list = still_listed }),
      (refl, calls_now, (length o.in_time.events, refl)),
    )

  module _ (slots id : ℕ) (v : View C R) (more : List (ℕ × SlotValue O C R)) (some_number : 0 < v.number) (has : v.combiner.has_object ≡ true) (none : v.own.pending ≡ None) (live : v.own.retired ≡ false)
      (call : C) (reply : R) (legal : obj.is_legal (v.front ++ entry v.number call reply ∷ [])) (short : length v.front + 1 < 2 ^ 64) where
    -- Enter keeps the rule, for a combiner with no call pending and an entry that makes a longer legal history.
    pub enter_kept : {bound : Bounds} → Allows (IsBounded obj bound) slots id (v, more) 0 (λ n. n) (enters call reply (step slots 0 0 0 opt.none) (v, more))
    enter_kept = seated slots id v.number 0 v more (λ n. n) (enters call reply (step slots 0 0 0 opt.none) (v, more)) refl some_number
        (λ s o l me small wide e. subst (λ (n : ℕ). Goes obj s 0 v.number (v, more) (enters call reply (step n 0 0 0 opt.none) (v, more)) (word s 0)) e (enter_goes v some_number s o l me small has none live call reply legal short more))
