-- A session's step on its own record keeps the rule of the records.
use Rattle.std.proofs.Common.{◌≡◌, ◌≢◌, ℕ, ◌<◌, ◌≤◌, true, Some, None, List, length, get_or, set, refl, sym, ap, ◌∙◌, subst, arith, length-set, get_or-set_other, get_or-set_same}
use mathlib.Core.Option as opt
use mathlib.Core.Logic.{dite}
use mathlib.Core.List.{IsPrefix}
use native.Mathlib.Decide.{ℕ_discrete}
use lib.ListN.{get_elem?}
use Rattle.sequential.specs.declared.entry.Entry.{Entry}
use Rattle.publication.specs.Words.{word_of, BUSY}
use Rattle.publication.specs.Views.{Own, Combiner, Listing, Others}
use Rattle.publication.specs.Rule.{blank, BoardState, word, home, seat, fresh, own_at, announced, RecordState, HasObject, IsOpened, IsSession, IsMaker, AreTrue, HasPieces, IsInTime, IsOrderly}
use Rattle.publication.specs.StepKinds.{as_session}
use Rattle.publication.specs.declared.view.View.{View}
use Rattle.publication.specs.declared.slot.SlotValue.{SlotValue}
use Rattle.publication.proofs.Lists.{at_there, each_set, prefix_self}
use Rattle.publication.proofs.SeatViews.{session_of, heard_few, others_of, object_of, pieces_of_seat}
use Rattle.publication.proofs.Others.{still-true}
use Rattle.publication.proofs.Pieces.{pieces_kept}
use Rattle.publication.proofs.Present.{IsAlike, present_kept}
use Rattle.publication.proofs.InTime.{NotesAtMostOne, completes, noted_event}
use Rattle.sequential.specs.declared.object.Sequential.{Ghosts}

module _ {O C R : Type 0} {obj : Ghosts O C R} where
  -- Session i, whose seat has view v, changes its state word, its slot, its front, its own calls, its heard counts and
  -- its listing.
  module _ (s : BoardState O C R) (o : IsOrderly obj s) (i : ℕ) (v : View C R) (n : ℕ) (at : opt.Option (SlotValue O C R)) (front : List (Entry C R)) (w : Own C R) (heard : List ℕ) (l : Listing)
      (me : get_elem? s.views i ≡ opt.some v) (mine : 0 < i) (small : i < o.slots) (lives : v.number ≢ 0) where
    -- The session's view after the step.
    abbrev u : View C R
    u = as_session v front w heard l

    -- The board after the step.
    abbrev after : BoardState O C R
    after = record { words = set s.words (word_of i) n; homes = set s.homes i at; views = set s.views i u }

    -- The sessions' own calls after the step.
    abbrev owns_after : List (Own C R)
    owns_after = set o.owns i w

    -- What such a step has to show: the session announces no fewer calls, hears only of its own, and its record is in
    -- the state that its word names, BUSY only if it was BUSY before with the same call; and it notes at most one event.
    pub record IsOwnStep : Type 0 where
      pub more : announced v.own ≤ announced w
      pub hears : (j : ℕ) → j ≢ i → get_or heard j 0 ≡ get_or v.heard j 0
      pub hears_own : get_or heard i 0 ≤ announced w
      pub was_busy : word s i ≡ BUSY → (n ≡ BUSY) × (at ≡ home s i) × (w.pending ≡ v.own.pending)
      pub is_busy : n ≡ BUSY → word s i ≡ BUSY
      pub begins : IsPrefix front o.history
      pub whole : v.combiner.has_object ≡ true → front ≡ o.history
      pub stands : RecordState o.history i n at w
      pub noted : NotesAtMostOne o.in_time.sessions o.in_time.events i v.own w

    is_me : seat s i ≡ v
    is_me = (at_there s.views i v blank me).0

    sits : i < length s.views
    sits = (at_there s.views i v blank me).1

    not_lock : 0 ≢ i
    not_lock e = omega arith

    word_other : (j : ℕ) → j ≢ i → word after j ≡ word s j
    word_other j ne = get_or-set_other s.words (word_of i) (word_of j) n 0 (λ e. ne (omega (arith, e)))

    word_here : word after i ≡ n
    word_here = get_or-set_same s.words (word_of i) n 0 (omega (arith, o.words_are))

    home_other : (j : ℕ) → j ≢ i → home after j ≡ home s j
    home_other j ne = get_or-set_other s.homes i j at opt.none ne

    home_here : home after i ≡ at
    home_here = get_or-set_same s.homes i at opt.none (omega (arith, o.homes_are))

    seat_other : (j : ℕ) → j ≢ i → seat after j ≡ seat s j
    seat_other j ne = get_or-set_other s.views i j u blank ne

    seats_kept : length (set s.views i u) ≡ length s.views
    seats_kept = length-set s.views i u

    own_other : (j : ℕ) → j ≢ i → own_at owns_after j ≡ own_at o.owns j
    own_other j ne = get_or-set_other o.owns i j w fresh ne

    own_here : own_at owns_after i ≡ w
    own_here = get_or-set_same o.owns i w fresh (omega (arith, o.owns_are))

    combiner_kept : (k : ℕ) → (seat after k).combiner ≡ (seat s k).combiner
    combiner_kept = each_set s.views i u blank (λ j x. x.combiner ≡ (seat s j).combiner) sits (ap (λ (x : View C R). x.combiner) (sym is_me)) (λ j ne. refl)

    session_before : IsSession o.slots o.owns i v
    session_before = session_of s o i v me lives

    module _ (k : IsOwnStep) where
      published_more : (j : ℕ) → announced (own_at o.owns j) ≤ announced (own_at owns_after j)
      published_more = each_set o.owns i w fresh (λ j x. announced (own_at o.owns j) ≤ announced x) (omega (arith, o.owns_are)) (omega (arith, ap announced session_before.own_is, k.more)) (λ j ne. omega arith)

      makes_after : IsMaker o.slots (length (set s.views i u)) (seat after 0)
      makes_after = subst (λ (m : ℕ). IsMaker o.slots m (seat after 0)) (sym seats_kept)
          (subst (λ (x : View C R). IsMaker o.slots (length s.views) x) (sym (seat_other 0 not_lock)) o.makes)

      unmade_after : (j : ℕ) → length (set s.views i u) ≤ j → own_at owns_after j ≡ fresh
      unmade_after j past = own_other j (λ e. omega (arith, sits, seats_kept)) ∙ o.unmade j (omega (arith, seats_kept))

      sessions_after : (j : ℕ) → (seat after j).number ≢ 0 → IsSession o.slots owns_after j (seat after j)
      sessions_after = each_set s.views i u blank (λ j x. x.number ≢ 0 → IsSession o.slots owns_after j x) sits
          (λ some_number. let t = session_before in record { own_is = sym own_here; is = t.is; small = t.small; wide = t.wide })
          (λ j ne some_number. let t = o.sessions j some_number in record { own_is = t.own_is ∙ sym (own_other j ne); is = t.is; small = t.small; wide = t.wide })

      heard_here : (j : ℕ) → get_or heard j 0 ≤ announced (own_at owns_after j)
      heard_here = each_set o.owns i w fresh (λ j x. get_or heard j 0 ≤ announced x) (omega (arith, o.owns_are)) k.hears_own (λ j ne. omega (arith, k.hears j ne, heard_few s o i v me j))

      heard_after : (m j : ℕ) → get_or (seat after m).heard j 0 ≤ announced (own_at owns_after j)
      heard_after m j = each_set s.views i u blank (λ m x. get_or x.heard j 0 ≤ announced (own_at owns_after j)) sits (heard_here j)
          (λ m ne. omega (arith, o.heard m j, published_more j)) m

      still : (x : Others C R) → AreTrue o.history s o.slots o.owns x → AreTrue o.history after o.slots owns_after x
      still x = still-true o.history o.history s after o.slots o.owns owns_after x (prefix_self o.history) (omega (arith, seats_kept))
          (λ j some few gone. let ne : j ≢ i = λ e. lives (ap (λ (y : View C R). y.number) (sym is_me) ∙ (ap (λ (m : ℕ). (seat s m).number) (sym e) ∙ gone)) in
          (ap (λ (y : View C R). y.number) (seat_other j ne) ∙ gone, own_other j ne))

      others_after : (m : ℕ) → AreTrue o.history after o.slots owns_after (seat after m).others
      others_after = each_set s.views i u blank (λ m x. AreTrue o.history after o.slots owns_after x.others) sits
          (still v.others (others_of s o i v me)) (λ m ne. still (seat s m).others (o.others m))

      stands_after : (j : ℕ) → 0 < j → j < o.slots → RecordState o.history j (word after j) (home after j) (own_at owns_after j)
      stands_after j some_record few = dite (ℕ_discrete j i)
          (λ e. subst (λ (m : ℕ). RecordState o.history m (word after m) (home after m) (own_at owns_after m)) (sym e) (rw (word_here, home_here, own_here) k.stands))
          (λ ne. rw (word_other j ne, home_other j ne, own_other j ne) (o.stands j some_record few))

      combiners_after : (j : ℕ) → (seat after j).combiner.has_object ≡ true → HasObject o.history (word after 0) j (seat after j)
      combiners_after = each_set s.views i u blank (λ j x. x.combiner.has_object ≡ true → HasObject o.history (word after 0) j x) sits
          (λ has. let t = object_of s o i v me has in record { lock_is = word_other 0 not_lock ∙ t.lock_is; session = mine; named = t.named; whole = k.whole has })
          (λ j ne has. let t = o.combiners j has in record { lock_is = word_other 0 not_lock ∙ t.lock_is; session = t.session; named = t.named; whole = t.whole })

      taken_after : word after 0 ≢ 0 → ((seat after (word after 0)).combiner.has_object ≡ true) × (word after 0 < o.slots) × (home after 0 ≡ opt.none)
      taken_after = rw (word_other 0 not_lock) (λ some_lock. let t = o.taken some_lock in
          (ap (λ (c : Combiner C). c.has_object) (combiner_kept (word s 0)) ∙ t.0, t.1, home_other 0 not_lock ∙ t.2))

      -- If its own record is opened, it stays opened with the same call.
      open_here : (c : Combiner C) (j : ℕ) (call : C) → j ≡ i → IsOpened s o.owns c j call → IsOpened after owns_after c j call
      open_here c j call e t =
          let b = k.was_busy (sym (ap (word s) e) ∙ t.is_busy) in
          let same : w.pending ≡ (own_at o.owns i).pending = b.2 ∙ ap (λ (x : Own C R). x.pending) session_before.own_is in
          record {
            object = t.object;
            record_of = t.record_of;
            is_busy = ap (word after) e ∙ (word_here ∙ b.0);
            call_of = (t.call_of.0, ap (λ (m : ℕ). (own_at owns_after m).pending) e ∙ (ap (λ (x : Own C R). x.pending) own_here ∙ (same ∙ (ap (λ (m : ℕ). (own_at o.owns m).pending) (sym e) ∙ t.call_of.1))));
            empty_slot = λ away. ap (home after) e ∙ (home_here ∙ (b.1 ∙ (ap (home s) (sym e) ∙ t.empty_slot away)));
          }

      opens_after : (m j : ℕ) (call : C) → get_elem? (seat after m).combiner.opened j ≡ opt.some (Some call) → IsOpened after owns_after (seat after m).combiner j call
      opens_after m j call is =
          let t : IsOpened s o.owns (seat s m).combiner j call = o.opens m j call (sym (ap (λ (c : Combiner C). get_elem? c.opened j) (combiner_kept m)) ∙ is) in
          rw (combiner_kept m) (dite (ℕ_discrete j i) (λ e. open_here (seat s m).combiner j call e t) (λ ne. record {
            object = t.object;
            record_of = t.record_of;
            is_busy = word_other j ne ∙ t.is_busy;
            call_of = (t.call_of.0, ap (λ (x : Own C R). x.pending) (own_other j ne) ∙ t.call_of.1);
            empty_slot = λ away. home_other j ne ∙ t.empty_slot away;
          }))

      -- As in `OrderlyCombiner`, but `after` is the board after a session's step.
      opened_after : (j : ℕ) → 0 < j → word after j ≡ BUSY → (call : C) × (get_elem? (seat after (word after 0)).combiner.opened j ≡ opt.some (Some call))
      opened_after j some_record is =
          let was : word s j ≡ BUSY = dite (ℕ_discrete j i)
          (λ e. ap (word s) e ∙ k.is_busy (sym word_here ∙ (sym (ap (word after) e) ∙ is))) (λ ne. sym (word_other j ne) ∙ is) in
          let t = o.opened j some_record was in
          (t.0, ap (λ (m : ℕ). get_elem? (seat after m).combiner.opened j) (word_other 0 not_lock) ∙ (ap (λ (c : Combiner C). get_elem? c.opened j) (combiner_kept (word s 0)) ∙ t.1))

      -- The calls so far are linearizable.
      in_time_after : IsInTime obj o.history o.slots owns_after
      in_time_after = noted_event o.history o.slots o.owns o.in_time owns_after i v.own w session_before.own_is own_here own_other k.noted
          (λ j some_record few. completes (stands_after j some_record few))

      -- The step keeps the rule of the records.
      pub moved : IsOrderly obj after
      moved = record {
        history = o.history;
        slots = o.slots;
        owns = owns_after;
        legal = o.legal;
        short = o.short;
        owns_are = length-set o.owns i w ∙ o.owns_are;
        words_are = length-set s.words (word_of i) n ∙ o.words_are;
        homes_are = length-set s.homes i at ∙ o.homes_are;
        makes = makes_after;
        unmade = unmade_after;
        sessions = sessions_after;
        waits = each_set s.views i u blank (λ j x. (own_at owns_after j).pending ≢ None → x.own ≡ own_at owns_after j) sits
            (λ some. sym own_here) (λ j ne some. o.waits j (λ none. some (ap (λ (x : Own C R). x.pending) (own_other j ne) ∙ none)) ∙ sym (own_other j ne));
        fronts = each_set s.views i u blank (λ j x. IsPrefix x.front o.history) sits k.begins (λ j ne. o.fronts j);
        heard = heard_after;
        others = others_after;
        stands = stands_after;
        combiners = combiners_after;
        free = λ none. let t = o.free (sym (word_other 0 not_lock) ∙ none) in (t.0, home_other 0 not_lock ∙ t.1, t.2);
        taken = taken_after;
        opens = opens_after;
        opened = opened_after;
        pieces = pieces_kept o.slots s after o.pieces (omega (arith, length-set s.views i u)) (λ none. (sym (word_other 0 not_lock) ∙ none, home_other 0 not_lock))
            (each_set s.views i u blank (λ j x. HasPieces o.pieces.all x) sits (let t = pieces_of_seat s o i v me in record { own = t.own; handed = t.handed; known = t.known }) (λ j ne. o.pieces.seats j));
        present = present_kept o.slots s after seats_kept
            (each_set s.views i u blank (λ j x. IsAlike (seat s j) x) sits (ap (λ (x : View C R). x.number) (sym is_me), ap (λ (x : View C R). x.others.handed) (sym is_me)) (λ j ne. (refl, refl))) o.present;
        in_time = in_time_after;
      }
