-- A combiner's step keeps the rule of the records: a step on a record while it has the object, and taking or giving
-- back the object.
use Rattle.std.proofs.Common.{◌≡◌, ◌≢◌, ◌⊎◌, ⊎_elim, ℕ, ◌^◌, ◌<◌, ◌≤◌, true, Option, Some, None, List, [], ◌∷◌, ◌++◌, length, get_or, set, refl, sym, ap, ◌∙◌, subst, arith, length-set, get_or-set_other, get_or-set_same}
use mathlib.Core.Option as opt
use mathlib.Core.Logic.{dite}
use mathlib.Core.List.{IsPrefix}
use native.Mathlib.Decide.{ℕ_discrete}
use lib.ListN.{get_elem?}
use Rattle.std.specs.Global.{Box}
use Rattle.std.specs.Prelude.{All}
use Rattle.sequential.specs.declared.entry.Entry.{Entry}
use Rattle.sequential.specs.Histories.{IsEntryWithin}
use Rattle.sequential.specs.Linearizable.{performed_by, IsCompletionOf}
use Rattle.publication.specs.Words.{word_of, FREE, BUSY}
use Rattle.publication.specs.Pieces.{pieces_of}
use Rattle.publication.specs.Views.{Own, Combiner, Listing, Handed, Others, Taken, asks}
use Rattle.publication.specs.Rule.{blank, BoardState, word, home, seat, fresh, own_at, announced, IsHome, RecordState, HasObject, IsOpened, IsSession, IsMaker, AreTrue, pieces_in, IsOfSession, HasPieces, ArePresent, calls_known, IsInTime, IsOrderly}
use Rattle.publication.specs.StepKinds.{as_combiner, with_pieces}
use Rattle.publication.specs.declared.piece.Piece.{Piece}
use Rattle.publication.specs.declared.view.View.{View}
use Rattle.publication.specs.declared.slot.Load.{Load}
use Rattle.publication.specs.declared.slot.SlotValue.{SlotValue}
use Rattle.publication.specs.declared.slot.SlotValue.TheVariants.{Empty, ObjectLoad}
use Rattle.publication.proofs.Lists.{at_there, each_set, prefix_self, prefix_trans}
use Rattle.publication.proofs.SeatViews.{session_of, heard_few, others_of, object_of, opened_of, pieces_of_seat}
use Rattle.publication.proofs.Others.{still-true}
use Rattle.publication.proofs.Pieces.{pieces_kept}
use Rattle.publication.proofs.Present.{IsAlike, present_kept}
use Rattle.publication.proofs.InTime.{completes, entered_more}
use Rattle.sequential.specs.declared.object.Sequential.{Ghosts}

module _ {C : Type 0} where
  -- The combiner has opened no record.
  abbrev pub IsNothingOpened : Combiner C → Type 0
  IsNothingOpened c = (j : ℕ) (call : C) → get_elem? c.opened j ≢ opt.some (Some call)

module _ {O C R : Type 0} {obj : Ghosts O C R} where
  -- Seat k, with view v, changes word x, slot x, its front, its combiner's part, its listing and what it knows of pieces.
  module _ (s : BoardState O C R) (o : IsOrderly obj s) (k : ℕ) (v : View C R) (x n : ℕ) (at : opt.Option (SlotValue O C R)) (front : List (Entry C R)) (d : Combiner C) (l : Listing) (q : Taken) (me : get_elem? s.views k ≡ opt.some v) (mine : 0 < k) where
    -- The combiner's view after the step.
    abbrev u : View C R
    u = with_pieces (as_combiner v front d l) q

    -- The board after the step.
    abbrev after : BoardState O C R
    after = record { words = set s.words (word_of x) n; homes = set s.homes x at; views = set s.views k u }

    is_me : seat s k ≡ v
    is_me = (at_there s.views k v blank me).0

    sits : k < length s.views
    sits = (at_there s.views k v blank me).1

    not_mine : 0 ≢ k
    not_mine e = omega arith

    word_other : (j : ℕ) → j ≢ x → word after j ≡ word s j
    word_other j ne = get_or-set_other s.words (word_of x) (word_of j) n 0 (λ e. ne (omega (arith, e)))

    word_here : x < o.slots → word after x ≡ n
    word_here few = get_or-set_same s.words (word_of x) n 0 (omega (arith, o.words_are))

    home_other : (j : ℕ) → j ≢ x → home after j ≡ home s j
    home_other j ne = get_or-set_other s.homes x j at opt.none ne

    home_here : x < o.slots → home after x ≡ at
    home_here few = get_or-set_same s.homes x at opt.none (omega (arith, o.homes_are))

    seat_other : (j : ℕ) → j ≢ k → seat after j ≡ seat s j
    seat_other j ne = get_or-set_other s.views k j u blank ne

    seat_here : seat after k ≡ u
    seat_here = get_or-set_same s.views k u blank sits

    seats_kept : length (set s.views k u) ≡ length s.views
    seats_kept = length-set s.views k u

    unmade_kept : (j : ℕ) → length (set s.views k u) ≤ j → own_at o.owns j ≡ fresh
    unmade_kept j past = o.unmade j (omega (arith, seats_kept))

    heard_kept : (i j : ℕ) → get_or (seat after i).heard j 0 ≤ announced (own_at o.owns j)
    heard_kept i j = each_set s.views k u blank (λ i y. get_or y.heard j 0 ≤ announced (own_at o.owns j)) sits
        (heard_few s o k v me j) (λ i ne. o.heard i j) i

    waits_kept : (j : ℕ) → (own_at o.owns j).pending ≢ None → (seat after j).own ≡ own_at o.owns j
    waits_kept = each_set s.views k u blank (λ j y. (own_at o.owns j).pending ≢ None → y.own ≡ own_at o.owns j) sits
        (λ some. ap (λ (y : View C R). y.own) (sym is_me) ∙ o.waits k some) (λ j ne. o.waits j)

    number_kept : (j : ℕ) → (seat s j).number ≡ 0 → (seat after j).number ≡ 0
    number_kept j = each_set s.views k u blank (λ j y. (seat s j).number ≡ 0 → y.number ≡ 0) sits
        (λ gone. ap (λ (y : View C R). y.number) (sym is_me) ∙ gone) (λ j ne gone. gone) j

    still : (h : List (Entry C R)) → IsPrefix o.history h → (x : Others C R) → AreTrue o.history s o.slots o.owns x → AreTrue h after o.slots o.owns x
    still h grows x = still-true o.history h s after o.slots o.owns o.owns x grows (omega (arith, seats_kept)) (λ j some few gone. (number_kept j gone, refl))

    others_kept : (h : List (Entry C R)) → IsPrefix o.history h → (i : ℕ) → AreTrue h after o.slots o.owns (seat after i).others
    others_kept h grows = each_set s.views k u blank (λ i y. AreTrue h after o.slots o.owns y.others) sits
        (still h grows v.others (others_of s o k v me)) (λ i ne. still h grows (seat s i).others (o.others i))

    sessions_kept : length d.opened ≡ length v.combiner.opened → (j : ℕ) → (seat after j).number ≢ 0 → IsSession o.slots o.owns j (seat after j)
    sessions_kept wide = each_set s.views k u blank (λ j y. y.number ≢ 0 → IsSession o.slots o.owns j y) sits
        (λ some_number. let t = session_of s o k v me some_number in
        record { own_is = t.own_is; is = t.is; small = t.small; wide = wide ∙ t.wide })
        (λ j ne. o.sessions j)

    makes_kept : IsMaker o.slots (length (set s.views k u)) (seat after 0)
    makes_kept = subst (λ (j : ℕ). IsMaker o.slots j (seat after 0)) (sym seats_kept) (subst (λ (y : View C R). IsMaker o.slots (length s.views) y) (sym (seat_other 0 not_mine)) o.makes)

    present_kept_here : ArePresent o.slots after
    present_kept_here = present_kept o.slots s after seats_kept
        (each_set s.views k u blank (λ j y. IsAlike (seat s j) y) sits (ap (λ (y : View C R). y.number) (sym is_me), ap (λ (y : View C R). y.others.handed) (sym is_me)) (λ j ne. (refl, refl))) o.present

    -- Only this seat may be the combiner's.
    combiners_kept : (h : List (Entry C R)) → (d.has_object ≡ true → HasObject h (word after 0) k u) → ((j : ℕ) → j ≢ k → (seat s j).combiner.has_object ≢ true)
        → (j : ℕ) → (seat after j).combiner.has_object ≡ true → HasObject h (word after 0) j (seat after j)
    combiners_kept h here alone = each_set s.views k u blank (λ j y. y.combiner.has_object ≡ true → HasObject h (word after 0) j y) sits here (λ j ne has_too. absurd (alone j ne has_too))

    -- This seat is the combiner's.
    with_object : word after 0 ≡ k → d.has_object ≡ true → k < o.slots → home after 0 ≡ opt.none → ((seat after (word after 0)).combiner.has_object ≡ true) × (word after 0 < o.slots) × (home after 0 ≡ opt.none)
    with_object lock has few out = (ap (λ (j : ℕ). (seat after j).combiner.has_object) lock ∙ (ap (λ (y : View C R). y.combiner.has_object) seat_here ∙ has), omega (arith, lock, few), out)

    -- The opened records, if no other seat has opened one.
    opens_kept : ((j : ℕ) (call : C) → get_elem? d.opened j ≡ opt.some (Some call) → IsOpened after o.owns d j call) → ((i : ℕ) → i ≢ k → IsNothingOpened (seat s i).combiner)
        → (i j : ℕ) (call : C) → get_elem? (seat after i).combiner.opened j ≡ opt.some (Some call) → IsOpened after o.owns (seat after i).combiner j call
    opens_kept here none = each_set s.views k u blank (λ i y. (j : ℕ) (call : C) → get_elem? y.combiner.opened j ≡ opt.some (Some call) → IsOpened after o.owns y.combiner j call) sits
        here (λ i ne j call is. absurd (none i ne j call is))

    -- What a combiner's step on record x has to show, with h the history afterwards: it knows all of h; other records
    -- are opened as before, and none of their slots was in hand;
    -- record x is opened if its word is BUSY, and is in the state that its word names; the other records keep their
    -- states in h, which has at most one entry more, of one of the sessions.
    pub record IsRecordStep (h : List (Entry C R)) : Type 0 where
      pub has : v.combiner.has_object ≡ true
      pub still : d.has_object ≡ true
      pub some_record : 0 < x
      pub few : x < o.slots
      pub legal : obj.is_legal h
      pub short : length h < 2 ^ 64
      pub grows : IsPrefix o.history h
      pub whole : front ≡ h
      pub wide : length d.opened ≡ length v.combiner.opened
      pub others : (j : ℕ) → j ≢ x → get_elem? d.opened j ≡ get_elem? v.combiner.opened j
      pub hands : (j : ℕ) → 0 < j → j ≢ x → v.combiner.hand ≢ j
      pub new_open : (call : C) → get_elem? d.opened x ≡ opt.some (Some call) → (n ≡ BUSY) × ((floor : ℕ) × ((own_at o.owns x).pending ≡ Some (asks call floor))) × (d.hand ≢ x → at ≡ opt.some Empty)
      pub new_busy : n ≡ BUSY → (call : C) × (get_elem? d.opened x ≡ opt.some (Some call))
      pub stands : RecordState h x n at (own_at o.owns x)
      pub grow : (j w : ℕ) (a : opt.Option (SlotValue O C R)) (y : Own C R) → j ≢ x → RecordState o.history j w a y → RecordState h j w a y
      pub pieces : q ≡ v.pieces
      pub entered : (h ≡ o.history) ⊎ ((e : Entry C R) × (h ≡ o.history ++ e ∷ []) × IsEntryWithin o.in_time.sessions e)

    module _ (h : List (Entry C R)) (t : IsRecordStep h) where
      object_before : HasObject o.history (word s 0) k v
      object_before = object_of s o k v me t.has

      not_lock : 0 ≢ x
      not_lock e = omega (arith, t.some_record)

      lock_after : word after 0 ≡ k
      lock_after = word_other 0 not_lock ∙ object_before.lock_is

      alone : (j : ℕ) → j ≢ k → (seat s j).combiner.has_object ≡ true → ⊥
      alone j ne has_too = ne (sym (o.combiners j has_too).lock_is ∙ object_before.lock_is)

      fronts_after : (j : ℕ) → IsPrefix (seat after j).front h
      fronts_after = each_set s.views k u blank (λ j y. IsPrefix y.front h) sits (subst (λ (f : List (Entry C R)). IsPrefix f h) (sym t.whole) (prefix_self h))
          (λ j ne. prefix_trans (seat s j).front o.history h (o.fronts j) t.grows)

      stands_after : (j : ℕ) → 0 < j → j < o.slots → RecordState h j (word after j) (home after j) (own_at o.owns j)
      stands_after j some_session small = dite (ℕ_discrete j x)
          (λ e. subst (λ (i : ℕ). RecordState h i (word after i) (home after i) (own_at o.owns i)) (sym e) (rw (word_here t.few, home_here t.few) t.stands))
          (λ ne. rw (word_other j ne, home_other j ne) (t.grow j (word s j) (home s j) (own_at o.owns j) ne (o.stands j some_session small)))

      open_here : (j : ℕ) (call : C) → j ≡ x → get_elem? d.opened j ≡ opt.some (Some call) → IsOpened after o.owns d j call
      open_here j call e is = let r = t.new_open call (sym (ap (λ (i : ℕ). get_elem? d.opened i) e) ∙ is) in record {
        object = t.still;
        record_of = omega (arith, e, t.some_record);
        is_busy = ap (word after) e ∙ (word_here t.few ∙ r.0);
        call_of = (r.1.0, ap (λ (i : ℕ). (own_at o.owns i).pending) e ∙ r.1.1);
        empty_slot = λ away. ap (home after) e ∙ (home_here t.few ∙ r.2 (λ (held : d.hand ≡ x). away (held ∙ sym e)));
      }

      open_other : (j : ℕ) (call : C) → j ≢ x → get_elem? d.opened j ≡ opt.some (Some call) → IsOpened after o.owns d j call
      open_other j call ne is = let r = opened_of s o k v me j call (sym (t.others j ne) ∙ is) in record {
        object = t.still;
        record_of = r.record_of;
        is_busy = word_other j ne ∙ r.is_busy;
        call_of = r.call_of;
        empty_slot = λ away. home_other j ne ∙ r.empty_slot (t.hands j r.record_of ne);
      }

      -- A record that was BUSY is opened by this seat.
      was_opened : (j : ℕ) → 0 < j → word s j ≡ BUSY → (call : C) × (get_elem? v.combiner.opened j ≡ opt.some (Some call))
      was_opened j some_session is = let r = o.opened j some_session is in
          (r.0, sym (ap (λ (y : View C R). get_elem? y.combiner.opened j) is_me) ∙ (sym (ap (λ (i : ℕ). get_elem? (seat s i).combiner.opened j) object_before.lock_is) ∙ r.1))

      opened_after : (j : ℕ) → 0 < j → word after j ≡ BUSY → (call : C) × (get_elem? (seat after (word after 0)).combiner.opened j ≡ opt.some (Some call))
      opened_after j some_session is = rw (lock_after, seat_here) (dite (ℕ_discrete j x)
          (λ e. let r = t.new_busy (sym (word_here t.few) ∙ (sym (ap (word after) e) ∙ is)) in (r.0, ap (λ (i : ℕ). get_elem? d.opened i) e ∙ r.1))
          (λ ne. let r = was_opened j some_session (sym (word_other j ne) ∙ is) in (r.0, t.others j ne ∙ r.1)))

      -- The calls so far are linearizable.
      in_time_after : IsInTime obj h o.slots o.owns
      in_time_after = ⊎_elim
          (λ same. subst (λ (f : List (Entry C R)). IsInTime obj f o.slots o.owns) (sym same) o.in_time)
          (λ e. subst (λ (f : List (Entry C R)). IsInTime obj f o.slots o.owns) (sym e.1)
          ((entered_more o.history o.slots o.owns o.in_time e.0 (subst obj.is_legal e.1 t.legal) e.2
          (λ j some_session small. subst (λ (f : List (Entry C R)). IsCompletionOf (calls_known (own_at o.owns j)) (performed_by j f)) e.1 (completes (stands_after j some_session small)))).0))
          t.entered

      -- A step on a record keeps the rule of the records.
      pub combined : IsOrderly obj after
      combined = record {
        history = h;
        slots = o.slots;
        owns = o.owns;
        legal = t.legal;
        short = t.short;
        owns_are = o.owns_are;
        words_are = length-set s.words (word_of x) n ∙ o.words_are;
        homes_are = length-set s.homes x at ∙ o.homes_are;
        makes = makes_kept;
        unmade = unmade_kept;
        sessions = sessions_kept t.wide;
        waits = waits_kept;
        fronts = fronts_after;
        heard = heard_kept;
        others = others_kept h t.grows;
        stands = stands_after;
        combiners = combiners_kept h (λ _. record { lock_is = lock_after; session = mine; named = object_before.named; whole = t.whole }) alone;
        free = λ none. absurd (omega (arith, lock_after));
        taken = λ _. let r = o.taken (λ none. omega (arith, object_before.lock_is)) in with_object lock_after t.still (omega (arith, r.1, object_before.lock_is)) (home_other 0 not_lock ∙ r.2);
        opens = opens_kept (λ j call is. dite (ℕ_discrete j x) (λ e. open_here j call e is) (λ ne. open_other j call ne is)) (λ i ne j call is. alone i ne (o.opens i j call is).object);
        opened = opened_after;
        pieces = pieces_kept o.slots s after o.pieces (omega (arith, seats_kept)) (λ none. absurd (omega (arith, lock_after)))
            (each_set s.views k u blank (λ j y. HasPieces o.pieces.all y) sits
            (let p = pieces_of_seat s o k v me in record { own = λ some. ap (λ (y : Taken). y.own) t.pieces ∙ p.own some; handed = p.handed; known = λ _. ap (λ (y : Taken). y.all) t.pieces ∙ p.known t.has })
            (λ j ne. o.pieces.seats j));
        present = present_kept_here;
        in_time = in_time_after;
      }

    -- What a step on the lock word has to show: no seat has opened a record, before or after; no other seat has the
    -- object; the object is at home if the word is FREE, else this seat has it. Of the pieces afterwards, this session's own are
    -- those that it took, and no other session has others than before; the load notes them, or this seat knows them.
    pub record IsLockStep : Type 0 where
      pub lock : x ≡ 0
      pub whole : front ≡ o.history
      pub named : v.number ≡ k
      pub same : d.opened ≡ v.combiner.opened
      pub none : (i : ℕ) → IsNothingOpened (seat s i).combiner
      pub alone : (j : ℕ) → j ≢ k → (seat s j).combiner.has_object ≢ true
      pub free : n ≡ FREE → (l : Box (Load O C R)) × (at ≡ opt.some (ObjectLoad l)) × IsHome obj o.history o.slots l.value
      pub taken : n ≢ FREE → (n ≡ k) × (d.has_object ≡ true) × (k < o.slots) × (at ≡ opt.none)
      pub mine_then : d.has_object ≡ true → n ≡ k
      pub pieces : List Piece
      pub within : All (IsOfSession o.slots (length s.views)) pieces
      pub own_pieces : q.own ≡ pieces_of k pieces
      pub other_pieces : (j : ℕ) → j ≢ k → pieces_of j pieces ≡ pieces_of j o.pieces.all
      pub known : d.has_object ≡ true → q.all ≡ pieces
      pub noted : n ≡ FREE → pieces_in at ≡ pieces

    module _ (t : IsLockStep) where
      not_record : (j : ℕ) → 0 < j → j ≢ x
      not_record j some_record e = omega (arith, t.lock)

      few : x < o.slots
      few = omega (arith, t.lock, o.makes.some_slot)

      lock_now : word after 0 ≡ n
      lock_now = ap (word after) (sym t.lock) ∙ word_here few

      slot_now : home after 0 ≡ at
      slot_now = ap (home after) (sym t.lock) ∙ home_here few

      -- A session that was handed in isn't this one.
      not_handed : (x : Others C R) → AreTrue o.history s o.slots o.owns x → (p : ℕ) (y : Handed C R) → get_elem? x.handed p ≡ opt.some y → y.number ≢ k
      not_handed x true_of p y is e = absurd (let gone : (seat s k).number ≡ 0 = ap (λ (j : ℕ). (seat s j).number) (sym e) ∙ (true_of.handed p y is).gone in omega (arith, gone, ap (λ (y : View C R). y.number) is_me, t.named))

      pieces_here : HasPieces t.pieces u
      pieces_here = let p = pieces_of_seat s o k v me in record {
        own = λ _. t.own_pieces ∙ ap (λ (j : ℕ). pieces_of j t.pieces) (sym t.named);
        handed = λ i x is. p.handed i x is ∙ sym (t.other_pieces x.number (not_handed v.others (others_of s o k v me) i x is));
        known = t.known;
      }

      pieces_there : (j : ℕ) → j ≢ k → HasPieces t.pieces (seat s j)
      pieces_there j ne = let p = o.pieces.seats j in record {
        own = λ some. p.own some ∙ sym (t.other_pieces (seat s j).number (λ e. ne (sym (o.sessions j some).is ∙ e)));
        handed = λ i x is. p.handed i x is ∙ sym (t.other_pieces x.number (not_handed (seat s j).others (o.others j) i x is));
        known = λ has. absurd (t.alone j ne has);
      }

      none_here : IsNothingOpened d
      none_here j call is = t.none k j call (ap (λ (y : View C R). get_elem? y.combiner.opened j) is_me ∙ (sym (ap (λ (l : List (Option C)). get_elem? l j) t.same) ∙ is))

      -- A step on the lock word keeps the rule of the records.
      pub relocked : IsOrderly obj after
      relocked = record {
        history = o.history;
        slots = o.slots;
        owns = o.owns;
        legal = o.legal;
        short = o.short;
        owns_are = o.owns_are;
        words_are = length-set s.words (word_of x) n ∙ o.words_are;
        homes_are = length-set s.homes x at ∙ o.homes_are;
        makes = makes_kept;
        unmade = unmade_kept;
        sessions = sessions_kept (ap (λ (l : List (Option C)). length l) t.same);
        waits = waits_kept;
        fronts = each_set s.views k u blank (λ j y. IsPrefix y.front o.history) sits (subst (λ (f : List (Entry C R)). IsPrefix f o.history) (sym t.whole) (prefix_self o.history)) (λ j ne. o.fronts j);
        heard = heard_kept;
        others = others_kept o.history (prefix_self o.history);
        stands = λ j some_session small. rw (word_other j (not_record j some_session), home_other j (not_record j some_session)) (o.stands j some_session small);
        combiners = combiners_kept o.history (λ has. record { lock_is = lock_now ∙ t.mine_then has; session = mine; named = t.named; whole = t.whole }) t.alone;
        free = λ free_now. let r = t.free (sym lock_now ∙ free_now) in (r.0, slot_now ∙ r.1, r.2);
        taken = λ some_now. let r = t.taken (λ z. some_now (lock_now ∙ z)) in with_object (lock_now ∙ r.0) r.1 r.2 (slot_now ∙ r.3);
        opens = opens_kept (λ j call is. absurd (none_here j call is)) (λ i ne. t.none i);
        opened = λ j some_session is. let r = o.opened j some_session (sym (word_other j (not_record j some_session)) ∙ is) in absurd (t.none (word s 0) j r.0 r.1);
        pieces = record {
          all = t.pieces;
          within = subst (λ (n : ℕ). All (IsOfSession o.slots n) t.pieces) (sym seats_kept) t.within;
          seats = each_set s.views k u blank (λ j y. HasPieces t.pieces y) sits pieces_here pieces_there;
          home = λ free_now. ap pieces_in slot_now ∙ t.noted (sym lock_now ∙ free_now);
        };
        present = present_kept_here;
        in_time = o.in_time;
      }
