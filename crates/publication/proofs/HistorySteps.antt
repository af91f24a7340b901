-- What each kind of step does to the history.
use Rattle.std.proofs.Common.{◌≡◌, ◌≢◌, ℕ, zero, suc, ◌<◌, ◌==◌, true, false, Option, Some, None, List, [], ◌∷◌, ◌++◌, length, get_or, refl, sym, ap, subst, ◌∙◌, arith}
use mathlib.Core.Option as opt
use mathlib.Core.Logic.{dite}
use native.Mathlib.Decide.{ℕ_discrete}
use lib.ListN.{get_elem?}
use Rattle.std.specs.Global.{Box}
use Rattle.atomic_table.specs.Table.{Act, Valid, rest, carried_after, homes_after, stepped, step}
use Rattle.sequential.specs.declared.entry.Entry.{Entry}
use Rattle.publication.specs.Words.{word_of, session_of_word, FREE, POSTED, SERVED, CLOSED, EMPTY}
use Rattle.publication.specs.Views.{Own, entry, answer, asks}
use Rattle.publication.specs.Rule.{blank, BoardState, word, home, seat, IsOrderly}
use Rattle.publication.specs.StepKinds.{Seated, started, asked, posting, linking, enlisting, losing_head, HasTaken, seizing, releasing, noted, routing, bypassing, none_unlinked, opened_in, opening, in_hand, called, call_at, replied, answering, putting_back, entering, longer, learning, retiring, leaving}
use Rattle.publication.specs.Collected.{IsSeated}
use Rattle.publication.specs.BoardHistory.{history_in}
use Rattle.publication.specs.Runs.{StepName, start, post, look_at_head, link, enlist, look_for_reply, take_reply, look_at_lock, seize, release, walk, walk_on, unlink, mark_out, relink, look_at_record, open_record, lay, pick, answer_record, put_back, enter, learn, compare, retire, leave, kind_of, LaysDownLoad, StepRequires, LaysDownItsOwn}
use Rattle.publication.specs.declared.view.View.{View}
use Rattle.publication.specs.declared.slot.Load.{Load}
use Rattle.publication.specs.declared.slot.SlotValue.{SlotValue}
use Rattle.publication.specs.declared.slot.SlotValue.TheVariants.{Empty, ServedReply, ObjectLoad}
use Rattle.publication.proofs.Lists.{at_there, prefix_whole, there_at}
use Rattle.publication.proofs.SeatViews.{session_of, front_of, others_of, object_of, whole_of, opened_of}
use Rattle.publication.proofs.Histories.{length-begins}
use Rattle.publication.proofs.RecordStates.{is_served}
use Rattle.publication.proofs.LongerFronts.{is-longer}
use Rattle.publication.proofs.CarriedSlots.{IsLeft, left-same, left-taken, left-given, taken as slot-taken, given as slot-given}
use Rattle.publication.proofs.BoardHistory.{none-after, steady, is_after, other_after}
use Rattle.sequential.specs.declared.object.Sequential.{Ghosts}

module _ {O C R : Type 0} {obj : Ghosts O C R} where
  module _ (s : BoardState O C R) (o : IsOrderly obj s) (at put id first second : ℕ) (m n : Seated O C R) (a : Act (SlotValue O C R)) (p : IsOrderly obj (stepped s at put id m.1 n.0 a))
      (me : get_elem? s.views id ≡ opt.some m.0) (valid : Valid s.homes m.1 a) (carried : n.1 ≡ carried_after m.1 a) where
    abbrev Same : Type 0
    Same = p.history ≡ o.history

    abbrev found : ℕ
    found = get_or s.words at 0

    abbrev t : BoardState O C R
    t = stepped s at put id m.1 n.0 a

    seat_after : seat t id ≡ n.0
    seat_after = is_after s o at put id m.1 m.0 n.0 a p me

    -- What the step leaves of the lock's slot, by what the seat carries afterwards.

    abbrev Left : Type 0
    Left = word s 0 ≡ FREE → IsLeft s.homes (homes_after s.homes m.1 a) 0

    carries_same : n.1 ≡ m.1 → Left
    carries_same e _ = left-same s.homes m.1 a valid (sym carried ∙ e) 0

    carries_more : (j : ℕ) (y : SlotValue O C R) → n.1 ≡ (j, y) ∷ m.1 → Left
    carries_more j y e _ = left-taken s.homes m.1 a valid j y (sym carried ∙ e) 0

    carries_less : LaysDownItsOwn m → n.1 ≡ rest m.1 → Left
    carries_less d e _ = subst (λ (l : List (ℕ × SlotValue O C R)). IsLeft s.homes (homes_after s.homes l a) 0) (sym d.carried)
        (left-given s.homes m.0.number d.slot d.more a (subst (λ (l : List (ℕ × SlotValue O C R)). Valid s.homes l a) d.carried valid)
        (subst (λ (l : List (ℕ × SlotValue O C R)). carried_after l a ≡ rest l) d.carried (sym carried ∙ e)) 0 (λ z. d.session (sym z)))

    combines : m.0.combiner.has_object ≡ true → Left
    combines has none = let b = object_of s o id m.0 me has in absurd (omega (arith, none, b.lock_is, b.session))

    -- The step leaves who is the combiner, and the seat's front.
    calmly : Left → (w : View C R) (d : List (ℕ × SlotValue O C R)) → n ≡ (w, d) → w.combiner.has_object ≡ m.0.combiner.has_object → w.front ≡ m.0.front → Same
    calmly left w d e object front = steady s o at put id m.1 m.0 n.0 a p me left (ap (λ (x : Seated O C R). x.0.combiner.has_object) e ∙ object) (λ _. ap (λ (x : Seated O C R). x.0.front) e ∙ front)

    same : n ≡ m → Same
    same e = calmly (carries_same (ap (λ (x : Seated O C R). x.1) e)) m.0 m.1 e refl refl

    -- A combiner that takes its own reply knew the whole history before.
    taken : at ≡ word_of m.0.number → found ≡ SERVED → (place : ℕ) (reply : R) → HasTaken obj m n (ServedReply place reply) place reply → Same
    taken own hit place reply h = steady s o at put id m.1 m.0 n.0 a p me (carries_more m.0.number (ServedReply place reply) (ap (λ (x : Seated O C R). x.1) h.4)) (ap (λ (x : Seated O C R). x.0.combiner.has_object) h.4) (λ has.
        let front : List (Entry C R) = h.2 in
        let b = object_of s o id m.0 me has in
        let live : m.0.number ≢ 0 = λ e. omega (arith, e, b.named, b.session) in
        let d = session_of s o id m.0 me live in
        let lives : word s id ≡ SERVED = ap (λ (k : ℕ). get_or s.words (word_of k) 0) (sym b.named) ∙ (ap (λ (k : ℕ). get_or s.words k 0) (sym own) ∙ hit) in
        let r = is_served (o.stands id b.session d.small) lives in
        let at_home : home s m.0.number ≡ opt.some (ServedReply place reply)
        = slot-taken s.homes m.1 a valid m.0.number (ServedReply place reply) (sym carried ∙ ap (λ (x : Seated O C R). x.1) h.4) in
        let both : ServedReply r.2 r.3 ≡ ServedReply place reply
        = opt.some-injective (ServedReply r.2 r.3) (ServedReply place reply) (sym r.4.replied ∙ (ap (home s) (sym b.named) ∙ at_home)) in
        let there : r.2 < length o.history = (at_there o.history r.2 (entry id r.0 r.3) (entry 0 obj.any_call obj.any_reply) r.4.stands).1 in
        let here : r.2 ≡ place = cc both in
        let whole : length m.0.front ≡ length o.history = ap (λ (l : List (Entry C R)). length l) b.whole in
        let took = h.5 in
        ap (λ (x : Seated O C R). x.0.front) h.4 ∙ sym (prefix_whole m.0.front front took.longer (omega (arith, took.long, whole, there, here))))

    -- The combiner knows the whole history.
    knows : n.0.combiner.has_object ≡ true → p.history ≡ n.0.front
    knows has = sym (p.combiners id (ap (λ (x : View C R). x.combiner.has_object) seat_after ∙ has)).whole ∙ ap (λ (x : View C R). x.front) seat_after

    seized : at ≡ word_of 0 → found ≡ FREE → (load : Box (Load O C R)) → n ≡ (seizing m.0 (obj.history load.value.object) load.value.pieces.items, (0, ObjectLoad load) ∷ m.1) → Same
    seized lock hit load e =
        let none : word s 0 ≡ FREE = ap (λ (k : ℕ). get_or s.words k 0) (sym lock) ∙ hit in
        let b = o.free none in
        let at_home : home s 0 ≡ opt.some (ObjectLoad load) = slot-taken s.homes m.1 a valid 0 (ObjectLoad load) (sym carried ∙ ap (λ (x : Seated O C R). x.1) e) in
        let object : (obj.history load.value.object) ≡ o.history = ap (history_in obj) (sym at_home ∙ b.1) ∙ b.2.history in
        knows (ap (λ (x : Seated O C R). x.0.combiner.has_object) e) ∙ (ap (λ (x : Seated O C R). x.0.front) e ∙ object)

    released : m.0.combiner.has_object ≡ true → LaysDownLoad obj m → n ≡ (releasing m.0 (noted m.1), rest m.1) → Same
    released has down e =
        let b = object_of s o id m.0 me has in
        let lacks : n.0.combiner.has_object ≡ false = ap (λ (x : Seated O C R). x.0.combiner.has_object) e in
        let free : word t 0 ≡ FREE = none-after s t o p (λ k still. dite (ℕ_discrete k id)
        (λ is. let f : n.0.combiner.has_object ≡ true = ap (λ (x : View C R). x.combiner.has_object) (sym seat_after) ∙ (ap (λ (i : ℕ). (seat t i).combiner.has_object) (sym is) ∙ still) in cc (f, lacks))
        (λ ne. ne (sym (o.combiners k (ap (λ (x : View C R). x.combiner.has_object) (sym (other_after s o at put id m.1 m.0 n.0 a p me k ne)) ∙ still)).lock_is ∙ b.lock_is))) in
        let c = p.free free in
        let moved : carried_after ((0, ObjectLoad down.load) ∷ down.more) a ≡ down.more
        = subst (λ (l : List (ℕ × SlotValue O C R)). carried_after l a ≡ rest l) down.carried (sym carried ∙ ap (λ (x : Seated O C R). x.1) e) in
        let there : home t 0 ≡ opt.some (ObjectLoad down.load)
        = subst (λ (l : List (ℕ × SlotValue O C R)). get_or (homes_after s.homes l a) 0 opt.none ≡ opt.some (ObjectLoad down.load)) (sym down.carried)
        (slot-given s.homes 0 (ObjectLoad down.load) down.more a (subst (λ (l : List (ℕ × SlotValue O C R)). Valid s.homes l a) down.carried valid) moved (ObjectLoad c.0)
        (subst (λ (l : List (ℕ × SlotValue O C R)). get_or (homes_after s.homes l a) 0 opt.none ≡ opt.some (ObjectLoad c.0)) down.carried c.1)) in
        sym c.2.history ∙ (ap (history_in obj) (sym c.1 ∙ there) ∙ (down.whole ∙ b.whole))

    learns_no_more : n ≡ (learning m.0, m.1) → Same
    learns_no_more e = steady s o at put id m.1 m.0 n.0 a p me (carries_same (ap (λ (x : Seated O C R). x.1) e)) (ap (λ (x : Seated O C R). x.0.combiner.has_object) e) (λ has.
        let whole : m.0.front ≡ o.history = whole_of s o id m.0 me has in
        let f : List (Entry C R) = longer m.0.front m.0.others.beside in
        let k = is-longer m.0.front m.0.others.beside o.history (front_of s o id m.0 me) (others_of s o id m.0 me).beside in
        let len = length-begins m.0.front f k.mine in
        ap (λ (x : Seated O C R). x.0.front) e ∙ (prefix_whole f o.history k.begins (omega (arith, len, ap (λ (l : List (Entry C R)). length l) whole)) ∙ sym whole))

    -- No kind of step but the answer and the direct entry changes the history.
    pub unchanged : (name : StepName C R) → name ≢ answer_record → ((call : C) (reply : R) → name ≢ enter call reply) → StepRequires obj name at m → kind_of obj name (step (length s.homes) at first second opt.none) m found n → Same
    unchanged start other direct asks told = calmly (carries_more m.0.number Empty (ap (λ (x : Seated O C R). x.1) told)) (started m.0) _ told refl refl
    unchanged post other direct asks told = calmly (carries_less asks.1 (ap (λ (x : Seated O C R). x.1) told.0)) (posting m.0 n.0.own.log (asked obj m.1) (found == EMPTY)) _ told.0 refl refl
    unchanged look_at_head other direct asks told = same told.0
    unchanged link other direct asks told = calmly (carries_same (ap (λ (x : Seated O C R). x.1) told)) (linking m.0 first) _ told refl refl
    unchanged enlist other direct asks told = dite (ℕ_discrete found first) (λ e. calmly (carries_same (ap (λ (x : Seated O C R). x.1) (told.0 e))) (enlisting m.0) _ (told.0 e) refl refl) (λ ne. calmly (carries_same (ap (λ (x : Seated O C R). x.1) (told.1 ne).0)) (losing_head m.0) _ (told.1 ne).0 refl refl)
    unchanged look_for_reply other direct asks told = same told.0
    unchanged take_reply other direct asks told = dite (ℕ_discrete found SERVED) (λ e. let x = told.0 e in taken asks e x.0 x.1 x.2) (λ ne. same (told.1 ne).0)
    unchanged look_at_lock other direct asks told = same told.0
    unchanged seize other direct asks told = dite (ℕ_discrete found FREE) (λ e. let x = told.0 e in seized asks e x.0 x.1) (λ ne. same (told.1 ne).0)
    unchanged release other direct asks told = released asks.0 asks.1 told
    unchanged walk other direct asks told = calmly (carries_same (ap (λ (x : Seated O C R). x.1) told.1)) (routing m.0 told.0) _ told.1 refl refl
    unchanged walk_on other direct asks told = same told.0
    unchanged unlink other direct asks told = calmly (carries_same (ap (λ (x : Seated O C R). x.1) told)) (bypassing m.0 (session_of_word at)) _ told refl refl
    unchanged mark_out other direct asks told = dite (ℕ_discrete found EMPTY) (λ e. calmly (carries_same (ap (λ (x : Seated O C R). x.1) (told.0 e))) (none_unlinked m.0) _ (told.0 e) refl refl)
        (λ ne. dite (ℕ_discrete found CLOSED) (λ e. calmly (carries_same (ap (λ (x : Seated O C R). x.1) (told.1 e))) (none_unlinked m.0) _ (told.1 e) refl refl) (λ nc. same (told.2 ne nc)))
    unchanged relink other direct asks told = calmly (carries_same (ap (λ (x : Seated O C R). x.1) told)) _ _ told refl refl
    unchanged look_at_record other direct asks told = same told.0
    unchanged open_record other direct asks told = dite (ℕ_discrete found POSTED) (λ e. let x = told.0 e in calmly (combines asks) (opening m.0 (session_of_word at) x.0) _ x.1 (sym asks) refl) (λ ne. same (told.1 ne).0)
    unchanged lay other direct asks told = calmly (combines asks) (in_hand m.0 0) _ told (sym asks) refl
    unchanged pick other direct asks told = calmly (combines asks) (in_hand m.0 (session_of_word at)) _ told (sym asks) refl
    unchanged answer_record other direct asks told = absurd (other refl)
    unchanged put_back other direct asks told = calmly (combines asks) (putting_back m.0 m.0.combiner.hand) _ told (sym asks) refl
    unchanged (enter call reply) other direct asks told = absurd (direct call reply refl)
    unchanged learn other direct asks told = learns_no_more told.0
    unchanged compare other direct asks told = same told.0
    unchanged retire other direct asks told = calmly (carries_same (ap (λ (x : Seated O C R). x.1) told)) (retiring m.0) _ told refl refl
    unchanged leave other direct asks told = calmly (carries_less asks.1 (ap (λ (x : Seated O C R). x.1) told)) (leaving m.0) _ told refl refl

    -- The answer appends its entry to the history.
    pub joins : (call : C) → m.0.combiner.has_object ≡ true → opened_in m.0 m.0.combiner.hand ≡ Some call
        → n ≡ (answering m.0 m.0.combiner.hand (call_at obj m.0 m.0.combiner.hand) (replied obj m.1), rest m.1) → p.history ≡ o.history ++ entry m.0.combiner.hand call (replied obj m.1) ∷ []
    joins call has opened e =
        let whole : m.0.front ≡ o.history = whole_of s o id m.0 me has in
        knows (ap (λ (x : Seated O C R). x.0.combiner.has_object) e) ∙ (ap (λ (x : Seated O C R). x.0.front) e
        ∙ (ap (λ (c : Option C). m.0.front ++ entry m.0.combiner.hand (called obj c) (replied obj m.1) ∷ []) opened
        ∙ ap (λ (l : List (Entry C R)). l ++ entry m.0.combiner.hand call (replied obj m.1) ∷ []) whole))

    pub waits-for : (call : C) → opened_in m.0 m.0.combiner.hand ≡ Some call → (floor : ℕ) × ((seat s m.0.combiner.hand).own.pending ≡ Some (asks call floor))
    waits-for call opened =
        let k = opened_of s o id m.0 me m.0.combiner.hand call (there_at m.0.combiner.opened m.0.combiner.hand call opened) in
        let f = k.call_of in
        (f.0, ap (λ (w : Own C R). w.pending) (o.waits m.0.combiner.hand (λ none. let g = f.1 in cc (g, none))) ∙ f.1)

    -- The record in the combiner's hand is one of the board's sessions.
    pub hand-within : (call : C) → opened_in m.0 m.0.combiner.hand ≡ Some call → (0 < m.0.combiner.hand) × (m.0.combiner.hand < o.slots)
    hand-within call opened =
        let k = opened_of s o id m.0 me m.0.combiner.hand call (there_at m.0.combiner.opened m.0.combiner.hand call opened) in
        let there = in-reach s.words (word_of m.0.combiner.hand) 1 k.is_busy in
        (k.record_of, omega (arith, there, o.words_are))
      where
        in-reach : (l : List ℕ) (i b : ℕ) → get_or l i 0 ≡ suc b → i < length l
        in-reach [] i b e = absurd (cc e)
        in-reach (x ∷ xs) zero b e = omega arith
        in-reach (x ∷ xs) (suc i) b e = omega (arith, in-reach xs i b e)

    -- A direct entry appends its entry to the history.
    pub enters-history : (call : C) (reply : R) → m.0.combiner.has_object ≡ true → n ≡ (entering m.0 n.0.own.log call reply, m.1) → p.history ≡ o.history ++ entry m.0.number call reply ∷ []
    enters-history call reply has e =
        let whole : m.0.front ≡ o.history = whole_of s o id m.0 me has in
        knows (ap (λ (x : Seated O C R). x.0.combiner.has_object) e ∙ has) ∙ (ap (λ (x : Seated O C R). x.0.front) e ∙ ap (λ (l : List (Entry C R)). l ++ entry m.0.number call reply ∷ []) whole)

    -- Its session is the one that the lock word names, before and after.
    pub names-combiner : m.0.combiner.has_object ≡ true → word s 0 ≡ m.0.number
    names-combiner has = let b = object_of s o id m.0 me has in b.lock_is ∙ sym b.named

    pub still-names : (call : C) (reply : R) → m.0.combiner.has_object ≡ true → n ≡ (entering m.0 n.0.own.log call reply, m.1) → word t 0 ≡ m.0.number
    still-names call reply has e =
        let b = object_of s o id m.0 me has in
        (p.combiners id (ap (λ (x : View C R). x.combiner.has_object) (seat_after ∙ ap (λ (x : Seated O C R). x.0) e) ∙ has)).lock_is ∙ sym b.named

    -- Its session has no call pending before or after, and has collected the answer then.
    pub seated-before : m.0.combiner.has_object ≡ true → m.0.own.pending ≡ None → IsSeated s m.0.number m.0.own.collected None
    seated-before has none =
        let b = object_of s o id m.0 me has in
        let here : seat s m.0.number ≡ m.0 = ap (seat s) b.named ∙ (at_there s.views id m.0 blank me).0 in
        record {
          some = omega (arith, b.session, b.named);
          named = ap (λ (x : View C R). x.number) here;
          answers_are = ap (λ (x : View C R). x.own.collected) here;
          pending_is = ap (λ (x : View C R). x.own.pending) here ∙ none;
        }

    pub seated-after : (call : C) (reply : R) → m.0.combiner.has_object ≡ true → m.0.own.pending ≡ None → n ≡ (entering m.0 n.0.own.log call reply, m.1)
        → IsSeated t m.0.number (m.0.own.collected ++ answer (length o.history) call reply ∷ []) None
    seated-after call reply has none e =
        let b = object_of s o id m.0 me has in
        let here : seat t m.0.number ≡ entering m.0 n.0.own.log call reply = ap (seat t) b.named ∙ (seat_after ∙ ap (λ (x : Seated O C R). x.0) e) in
        record {
          some = omega (arith, b.session, b.named);
          named = ap (λ (x : View C R). x.number) here;
          answers_are = ap (λ (x : View C R). x.own.collected) here ∙ ap (λ (l : List (Entry C R)). m.0.own.collected ++ answer (length l) call reply ∷ []) b.whole;
          pending_is = ap (λ (x : View C R). x.own.pending) here ∙ none;
        }
