-- The kinds of step on the publication list keep the rule: look at head, link, enlist, walk and walk on.
use Rattle.std.proofs.Common.{◌≡◌, ◌≢◌, ◌⊎◌, inl, inr, ⊎_elim, ℕ, zero, suc, ◌+◌, ◌<◌, ◌≤◌, Bool, true, false, Some, None, List, [], ◌∷◌, length, get_or, set, eqb, sym, refl, ap, ◌∙◌, subst, arith, length-set, get_or-set_other, get_or-set_same}
use Rattle.sequential.specs.Bounds.{Bounds}
use Rattle.std.proofs.lemmas.List.{set-get_or}
use Rattle.std.proofs.lemmas.Option.{same_Some}
use mathlib.Core.Option as opt
use prog.Atomic.{either}
use lib.ListN.{get_elem?}
use Rattle.atomic_table.specs.Table.{keeps, step, Allows}
use Rattle.atomic_table.proofs.Lists.{exchanged, set_again}
use Rattle.sequential.specs.declared.entry.Entry.{Entry}
use Rattle.sequential.specs.Histories.{calls_of}
use Rattle.publication.specs.Words.{word_of, link_of, session_of_word, END}
use Rattle.publication.specs.Views.{Own, Listing}
use Rattle.publication.specs.Rule.{blank, BoardState, word, home, seat, own_at, announced, RecordState, HasObject, IsOrderly}
use Rattle.publication.specs.List.{IsOn, AreApart, Chain, link, belongs, is_listed, IsWalking, IsLinked, IsRuled, IsBounded}
use Rattle.publication.specs.StepKinds.{as_session, tried_head, heard_all, HasAnother, looks_at_head, linking, links, losing_head, enlisting, enlists, routing, MeetsAll, walks, walks_on_from, walks_on}
use Rattle.publication.specs.declared.view.View.{View}
use Rattle.publication.specs.declared.slot.SlotValue.{SlotValue}
use Rattle.publication.proofs.Lists.{at_there, each_set, prefix_self}
use Rattle.publication.proofs.SeatViews.{front_of, heard_few, whole_of}
use Rattle.publication.proofs.Others.{still-true}
use Rattle.publication.proofs.Pieces.{pieces_kept}
use Rattle.publication.proofs.Present.{present_kept}
use Rattle.publication.proofs.Chains.{chain_same, chain_head, on_right, chain_right, apart_right, link_names}
use Rattle.publication.proofs.UnchangedList.{aside, same_walk}
use Rattle.publication.proofs.RecordStates.{waiting_belongs, announced_listed, stands_listed, waits_for, waits_announced, at_most_one}
use Rattle.publication.proofs.OrderlySession.{moved}
use Rattle.publication.proofs.SessionKinds.{GoesAt, seated_at, stand, heard_own, lives, is_me, hears_others, heard_at_most}
use Rattle.sequential.specs.declared.object.Sequential.{Ghosts}

module _ {O C R : Type 0} {obj : Ghosts O C R} where
  -- The rule of the records depends on no link word.
  reworded : (s : BoardState O C R) (ws : List ℕ) → length ws ≡ length s.words → ((j : ℕ) → get_or ws (word_of j) 0 ≡ word s j) → IsOrderly obj s → IsOrderly obj record { words = ws; homes = s.homes; views = s.views }
  reworded s ws long same o = record {
    history = o.history;
    slots = o.slots;
    owns = o.owns;
    legal = o.legal;
    short = o.short;
    owns_are = o.owns_are;
    words_are = long ∙ o.words_are;
    homes_are = o.homes_are;
    makes = o.makes;
    unmade = o.unmade;
    sessions = o.sessions;
    waits = o.waits;
    fronts = o.fronts;
    heard = o.heard;
    others = λ k. still-true o.history o.history s (record { words = ws; homes = s.homes; views = s.views }) o.slots o.owns o.owns (seat s k).others (prefix_self o.history) (omega arith) (λ j some few gone. (gone, refl)) (o.others k);
    stands = λ i some few. subst (λ (w : ℕ). RecordState o.history i w (home s i) (own_at o.owns i)) (sym (same i)) (o.stands i some few);
    combiners = λ k has. subst (λ (w : ℕ). HasObject o.history w k (seat s k)) (sym (same 0)) (o.combiners k has);
    free = λ e. o.free (sym (same 0) ∙ e);
    taken = λ ne. rw (same 0) (o.taken (λ e. ne (same 0 ∙ e)));
    opens = λ k j call at. let t = o.opens k j call at in record { object = t.object; record_of = t.record_of; is_busy = same j ∙ t.is_busy; call_of = t.call_of; empty_slot = t.empty_slot };
    opened = λ j some e. rw (same 0) (o.opened j some (sym (same j) ∙ e));
    pieces = pieces_kept o.slots s (record { words = ws; homes = s.homes; views = s.views }) o.pieces (omega arith) (λ e. (sym (same 0) ∙ e, refl)) o.pieces.seats;
    present = present_kept o.slots s (record { words = ws; homes = s.homes; views = s.views }) refl (λ k. (refl, refl)) o.present;
    in_time = o.in_time;
  }

-- Two different numbers above 0 and below n: n is at least 3.
third : (n x y : ℕ) → 0 < x → 0 < y → x < n → y < n → x ≢ y → 2 < n
third zero x y a b c d ne = absurd (omega arith)
third (suc zero) x y a b c d ne = absurd (omega arith)
third (suc (suc zero)) x y a b c d ne = absurd (ne (omega arith))
third (suc (suc (suc n))) x y a b c d ne = omega arith

-- If the head names a record and i isn't on the list, there is a second session.
another_on : (f : ℕ → ℕ) (k i n : ℕ) (list : List ℕ) → Chain f k list → (IsOn i list → ⊥) → ((q : ℕ) → IsOn q list → (0 < q) × (q < n)) → 0 < i → i < n → k ≢ END → 2 < n
another_on f k i n [] c not_on within some small ne = absurd (ne c)
another_on f k i n (x ∷ xs) c not_on within some small ne = let r = within x (inl refl) in third n x i r.0 some r.1 small (λ e. not_on (inl (sym e)))

module _ {O C R : Type 0} {obj : Ghosts O C R} where
  module _ (i : ℕ) (v : View C R) (is : v.number ≡ i) (some_number : 0 < i) (s : BoardState O C R) (o : IsOrderly obj s) (l : IsLinked s) (me : get_elem? s.views i ≡ opt.some v) (small : i < o.slots) where
    seat_is : seat s i ≡ v
    seat_is = is_me i v is some_number s o l me small

    stands_here : RecordState o.history i (word s i) (home s i) v.own
    stands_here = stand i v is some_number s o l me small

    within_slots : (q : ℕ) → IsOn q l.list → (0 < q) × (q < o.slots)
    within_slots q on = let r = l.within q on in (r.0, omega (arith, r.1, o.homes_are))

    -- The session learns more of the list and of its own calls; its record's words don't change.
    own_step : (b : Bool) (heard : List ℕ) (listing : Listing) → announced v.own ≤ announced (record { started = v.own.started; retired = v.own.retired; pending = v.own.pending; collected = v.own.collected; listed = b; log = v.own.log })
        → ((j : ℕ) → j ≢ i → get_or heard j 0 ≡ get_or v.heard j 0) → get_or heard i 0 ≤ announced (record { started = v.own.started; retired = v.own.retired; pending = v.own.pending; collected = v.own.collected; listed = b; log = v.own.log })
        → (ws : List ℕ) → length ws ≡ length s.words → ((j : ℕ) → get_or ws (word_of j) 0 ≡ word s j)
        → IsOrderly obj record { words = ws; homes = s.homes; views = set s.views i (as_session v v.front (record { started = v.own.started; retired = v.own.retired; pending = v.own.pending; collected = v.own.collected; listed = b; log = v.own.log }) heard listing) }
    own_step b heard listing more hears hears_own ws long same =
        let w : Own C R = record { started = v.own.started; retired = v.own.retired; pending = v.own.pending; collected = v.own.collected; listed = b; log = v.own.log } in
        let vs : List (View C R) = set s.views i (as_session v v.front w heard listing) in
        let before : IsOrderly obj record { words = set s.words (word_of i) (word s i); homes = set s.homes i (home s i); views = vs } =
        moved s o i v (word s i) (home s i) v.front w heard listing me some_number small (lives i v is some_number s o l me small) (record {
          more = more;
          hears = hears;
          hears_own = hears_own;
          was_busy = λ e. (e, refl, refl);
          is_busy = λ e. e;
          begins = front_of s o i v me;
          whole = whole_of s o i v me;
          stands = stands_listed b stands_here;
          noted = inl (refl, refl);
        }) in
        let kept : IsOrderly obj record { words = s.words; homes = s.homes; views = vs } =
        subst (λ (ws : List ℕ). IsOrderly obj record { words = ws; homes = s.homes; views = vs }) (set-get_or s.words (word_of i) 0)
        (subst (λ (hs : List (opt.Option (SlotValue O C R))). IsOrderly obj record { words = set s.words (word_of i) (word s i); homes = hs; views = vs }) (set-get_or s.homes i opt.none) before) in
        reworded (record { words = s.words; homes = s.homes; views = vs }) ws long same kept

    -- The session learns nothing of its own calls.
    pub same_calls : (listing : Listing) (ws : List ℕ) → length ws ≡ length s.words → ((j : ℕ) → get_or ws (word_of j) 0 ≡ word s j)
        → IsOrderly obj record { words = ws; homes = s.homes; views = set s.views i (as_session v v.front v.own v.heard listing) }
    same_calls listing = own_step v.own.listed v.heard listing (omega arith) (λ j ne. refl) (heard_own i v is some_number s o l me small)

    -- look at head

    claim : v.own.pending ≢ None → v.own.listed ≡ false → is_listed s i ≡ Some false
    claim waits unlisted = ap (λ (x : View C R). belongs (word s i) x.own.listed) seat_is ∙ (waiting_belongs stands_here waits v.own.listed ∙ ap (λ (b : Bool). Some b) unlisted)

    another : is_listed s i ≡ Some false → HasAnother o.slots (link s 0)
    another off ne = another_on (link s) (link s 0) i o.slots l.list l.chain (l.offs i some_number off).0 within_slots some_number small ne

    -- A write of a word's own value keeps the rule.
    pub same_rule : (p : ℕ) → IsRuled obj record { words = set s.words p (get_or s.words p 0); homes = s.homes; views = set s.views i v }
    same_rule p = subst (λ (ws : List ℕ). IsRuled obj record { words = ws; homes = s.homes; views = set s.views i v }) (sym (set-get_or s.words p 0))
        (subst (λ (vs : List (View C R)). IsRuled obj record { words = s.words; homes = s.homes; views = vs }) (sym (set_again s.views i v me)) (record { records = o; list = l }))

    look_at_head_goes : (more : List (ℕ × SlotValue O C R)) → v.own.pending ≢ None → v.own.listed ≡ false
        → GoesAt obj s (link_of 0) i (v, more) (looks_at_head (step o.slots (link_of 0) 0 0 opt.none) (v, more)) (link s 0)
    look_at_head_goes more waits unlisted = (v, keeps, tt, same_rule (link_of 0), (refl, another (claim waits unlisted)))

    -- link

    module _ (head : ℕ) (waits : v.own.pending ≢ None) (unlisted : v.own.listed ≡ false) where
      -- The words after link.
      abbrev linked_words : List ℕ
      linked_words = set s.words (link_of i) head

      -- The board after link.
      abbrev linked : BoardState O C R
      linked = record { words = linked_words; homes = s.homes; views = set s.views i (linking v head) }

      word_same : (j : ℕ) → get_or linked_words (word_of j) 0 ≡ word s j
      word_same j = get_or-set_other s.words (link_of i) (word_of j) head 0 (λ e. omega (arith, e))

      link_other : (j : ℕ) → j ≢ i → link linked j ≡ link s j
      link_other j ne = get_or-set_other s.words (link_of i) (link_of j) head 0 (λ e. ne (omega (arith, e)))

      link_here : link linked i ≡ head
      link_here = get_or-set_same s.words (link_of i) head 0 (omega (arith, o.words_are))

      sits : i < length s.views
      sits = (at_there s.views i v blank me).1

      off : IsOn i l.list → ⊥
      off = (l.offs i some_number (claim waits unlisted)).0

      claims_same : (j : ℕ) → is_listed linked j ≡ is_listed s j
      claims_same = each_set s.views i (linking v head) blank (λ j x. belongs (word linked j) x.own.listed ≡ is_listed s j) sits
          (ap (λ (w : ℕ). belongs w v.own.listed) (word_same i) ∙ sym (ap (λ (x : View C R). belongs (word s i) x.own.listed) seat_is))
          (λ j ne. ap (λ (w : ℕ). belongs w (seat s j).own.listed) (word_same j))

      link_listed : IsLinked linked
      link_listed = record {
        list = l.list;
        chain = subst (λ (k : ℕ). Chain (link linked) k l.list) (sym (link_other 0 (λ e. omega arith)))
            (chain_same (link s) (link linked) (link s 0) l.list (λ q on. sym (link_other q (λ e. off (subst (λ (k : ℕ). IsOn k l.list) e on)))) l.chain);
        apart = l.apart;
        within = l.within;
        off = l.off;
        before = l.before;
        unlinked = λ some. let u = l.unlinked some in record {
          gone = u.gone;
          small = u.small;
          front = u.front;
          rest = u.rest;
          seam = u.seam;
          link_is = link_other l.off (λ e. (l.offs i some_number (claim waits unlisted)).1 (sym e)) ∙ u.link_is;
        };
        whole = λ e. l.whole (sym (word_same 0) ∙ e);
        ons = λ j some e. l.ons j some (sym (claims_same j) ∙ e);
        offs = λ j some e. l.offs j some (sym (claims_same j) ∙ e);
        heads_seen = each_set s.views i (linking v head) blank (λ j x. (n : ℕ) → x.listing.head_seen ≡ Some n → (0 < j) × (is_listed linked j ≡ Some false) × (link linked j ≡ n)) sits
            (λ n e. (some_number, claims_same i ∙ claim waits unlisted, link_here ∙ same_Some head n e))
            (λ j ne n e. let r = l.heads_seen j n e in (r.0, claims_same j ∙ r.1, link_other j ne ∙ r.2));
        walkers = each_set s.views i (linking v head) blank (λ j x. x.combiner.has_object ≡ true → IsWalking l.list l.off l.before x.listing) sits
            (λ has. same_walk s l i v (linking v head) linked_words s.homes me has refl refl refl) (λ j ne has. l.walkers j has);
      }

      link_goes : (more : List (ℕ × SlotValue O C R)) → GoesAt obj s (link_of i) i (v, more) (λ _. links (step o.slots (link_of i) head 0 opt.none) (v, more) head) head
      link_goes more = (
        linking v head,
        keeps,
        tt,
        record { records = same_calls (record { head_seen = Some head; route = v.listing.route; off = v.listing.off; before = v.listing.before; tries = v.listing.tries }) linked_words (length-set s.words (link_of i) head) word_same; list = link_listed },
        refl,
      )

    -- enlist

    module _ (head : ℕ) (waits : v.own.pending ≢ None) (noted : v.listing.head_seen ≡ Some head) where
      head_seen : (0 < i) × (is_listed s i ≡ Some false) × (link s i ≡ head)
      head_seen = l.heads_seen i head (ap (λ (x : View C R). x.listing.head_seen) seat_is ∙ noted)

      -- The session's own calls, with the last one listed.
      abbrev own_listed : Own C R
      own_listed = record { started = v.own.started; retired = v.own.retired; pending = v.own.pending; collected = v.own.collected; listed = true; log = v.own.log }

      -- The words after an exchange that was won.
      abbrev pushed_words : List ℕ
      pushed_words = set s.words (link_of 0) i

      -- The board after an exchange that was won.
      abbrev pushed : BoardState O C R
      pushed = record { words = pushed_words; homes = s.homes; views = set s.views i (enlisting v) }

      word_kept : (j : ℕ) → get_or pushed_words (word_of j) 0 ≡ word s j
      word_kept j = get_or-set_other s.words (link_of 0) (word_of j) i 0 (λ e. omega (arith, e))

      links_stay : (j : ℕ) → 0 < j → link pushed j ≡ link s j
      links_stay j some = get_or-set_other s.words (link_of 0) (link_of j) i 0 (λ e. omega (arith, e))

      head_now : link pushed 0 ≡ i
      head_now = get_or-set_same s.words (link_of 0) i 0 (omega (arith, o.words_are))

      here : i < length s.views
      here = (at_there s.views i v blank me).1

      all_announced : announced own_listed ≡ length v.own.collected + 1
      all_announced = let p = waits_for v.own.pending waits in waits_announced own_listed p.0 p.1

      -- A record linked at the head comes in front of the records that a walk meets.
      longer_walk : (w : Listing) → IsWalking l.list l.off l.before w → IsWalking (i ∷ l.list) l.off l.before w
      longer_walk w t = record { new = i ∷ t.new; list_is = ap (λ (xs : List ℕ). i ∷ xs) t.list_is; off_is = t.off_is; before_is = t.before_is }

      pushed_records : IsOrderly obj pushed
      pushed_records = own_step true (heard_all v) (tried_head v.listing)
          (let p = waits_for v.own.pending waits in omega (arith, all_announced, waits_announced v.own p.0 p.1, at_most_one v.own.listed))
          (hears_others i v is some_number s o l me small true)
          (omega (arith, all_announced, heard_at_most i v is some_number s o l me small))
          pushed_words (length-set s.words (link_of 0) i) word_kept

      pushed_list : link s 0 ≡ head → IsLinked pushed
      pushed_list hit = record {
        list = i ∷ l.list;
        chain = (
          head_now,
          subst (λ (k : ℕ). Chain (link pushed) k l.list) (sym (links_stay i some_number ∙ (head_seen.2 ∙ sym hit)))
              (chain_same (link s) (link pushed) (link s 0) l.list (λ q on. sym (links_stay q (l.within q on).0)) l.chain),
        );
        apart = ((l.offs i some_number head_seen.1).0, l.apart);
        within = λ q on. ⊎_elim (λ (e : q ≡ i). (omega arith, omega (arith, o.homes_are))) (l.within q) on;
        off = l.off;
        before = l.before;
        unlinked = λ some. let u = l.unlinked some in record {
          gone = λ on. ⊎_elim (λ (e : l.off ≡ i). (l.offs i some_number head_seen.1).1 (sym e)) u.gone on;
          small = u.small;
          front = i ∷ u.front;
          rest = u.rest;
          seam = ap (λ (xs : List ℕ). i ∷ xs) u.seam;
          link_is = links_stay l.off (omega arith) ∙ u.link_is;
        };
        whole = λ e. l.whole (sym (word_kept 0) ∙ e);
        ons = each_set s.views i (enlisting v) blank (λ j x. 0 < j → belongs (word pushed j) x.own.listed ≡ Some true → IsOn j (i ∷ l.list) ⊎ (j ≡ l.off)) here
            (λ some e. inl (inl refl))
            (λ j ne some e. ⊎_elim (λ on. inl (inr on)) (λ z. inr z) (l.ons j some (sym (ap (λ (w : ℕ). belongs w (seat s j).own.listed) (word_kept j)) ∙ e)));
        offs = each_set s.views i (enlisting v) blank (λ j x. 0 < j → belongs (word pushed j) x.own.listed ≡ Some false → (IsOn j (i ∷ l.list) → ⊥) × (j ≢ l.off)) here
            (λ some e. absurd (let t : Some true ≡ Some false = sym (waiting_belongs stands_here waits true) ∙ (sym (ap (λ (w : ℕ). belongs w true) (word_kept i)) ∙ e) in cc t))
            (λ j ne some e. let r = l.offs j some (sym (ap (λ (w : ℕ). belongs w (seat s j).own.listed) (word_kept j)) ∙ e) in ((λ on. ⊎_elim (λ (at : j ≡ i). ne at) r.0 on), r.1));
        heads_seen = each_set s.views i (enlisting v) blank (λ j x. (n : ℕ) → x.listing.head_seen ≡ Some n → (0 < j) × (belongs (word pushed j) x.own.listed ≡ Some false) × (link pushed j ≡ n)) here
            (λ n e. absurd (cc e))
            (λ j ne n e. let r = l.heads_seen j n e in (r.0, ap (λ (w : ℕ). belongs w (seat s j).own.listed) (word_kept j) ∙ r.1, links_stay j r.0 ∙ r.2));
        walkers = each_set s.views i (enlisting v) blank (λ j x. x.combiner.has_object ≡ true → IsWalking (i ∷ l.list) l.off l.before x.listing) here
            (λ has. longer_walk (enlisting v).listing (same_walk s l i v (enlisting v) pushed_words s.homes me has refl refl refl))
            (λ j ne has. longer_walk (seat s j).listing (l.walkers j has));
      }

      enlist_won : (more : List (ℕ × SlotValue O C R)) → link s 0 ≡ head → GoesAt obj s (link_of 0) i (v, more) (enlists (step o.slots (link_of 0) head i opt.none) (v, more)) i
      enlist_won more hit = (enlisting v, keeps, tt, record { records = pushed_records; list = pushed_list hit }, ((λ _. refl), λ miss. absurd (miss hit)))

      enlist_lost : (more : List (ℕ × SlotValue O C R)) → link s 0 ≢ head → GoesAt obj s (link_of 0) i (v, more) (enlists (step o.slots (link_of 0) head i opt.none) (v, more)) (link s 0)
      enlist_lost more miss = (
        losing_head v,
        keeps,
        tt,
        subst (λ (ws : List ℕ). IsRuled obj record { words = ws; homes = s.homes; views = set s.views i (losing_head v) }) (sym (set-get_or s.words (link_of 0) 0)) (record {
          records = same_calls (tried_head v.listing) s.words refl (λ j. refl);
          list = aside s l i v (losing_head v) s.words s.homes me (λ j. refl) refl l.whole (λ j b some ne. refl)
              (record { claims = λ b some e. e; heads_seen = λ n e. absurd (cc e); walkers = λ has. same_walk s l i v (losing_head v) s.words s.homes me has refl refl refl });
        }),
        ((λ hit. absurd (miss hit)), λ _. (refl, another head_seen.1)),
      )

      enlist_goes : (more : List (ℕ × SlotValue O C R)) → GoesAt obj s (link_of 0) i (v, more) (enlists (step o.slots (link_of 0) head i opt.none) (v, more)) (either (eqb (link s 0) head) i (link s 0))
      enlist_goes more = exchanged (link s 0) head i (GoesAt obj s (link_of 0) i (v, more) (enlists (step o.slots (link_of 0) head i opt.none) (v, more))) (enlist_won more) (enlist_lost more)

    -- walk

    module _ (has : v.combiner.has_object ≡ true) where
      here_walks : IsWalking l.list l.off l.before v.listing
      here_walks = subst (λ (x : View C R). x.combiner.has_object ≡ true → IsWalking l.list l.off l.before x.listing) seat_is (l.walkers i) has

      meets_all : v.listing.off ≡ 0 → MeetsAll o.slots v l.list
      meets_all none_off j some few more =
          let known : length (calls_of j v.front) ≡ length (calls_of j o.history) = ap (λ (f : List (Entry C R)). length (calls_of j f)) (whole_of s o i v me has) in
          let heard : get_or v.heard j 0 ≤ announced (own_at o.owns j) = heard_few s o i v me j in
          let t = announced_listed o.history j (word s j) (home s j) (own_at o.owns j) (o.stands j some few) (omega (arith, more, known, heard)) in
          ⊎_elim (λ on. on) (λ (e : j ≡ l.off). absurd (omega (arith, e, some, here_walks.off_is, none_off))) (l.ons j some (ap (λ (w : Own C R). belongs (word s j) w.listed) (o.waits j t.0) ∙ t.1))

      walk_goes : (more : List (ℕ × SlotValue O C R)) → v.listing.off ≡ 0 → GoesAt obj s (link_of 0) i (v, more) (walks (step o.slots (link_of 0) 0 0 opt.none) (v, more)) (link s 0)
      walk_goes more none_off = (
        routing v l.list,
        keeps,
        tt,
        subst (λ (ws : List ℕ). IsRuled obj record { words = ws; homes = s.homes; views = set s.views i (routing v l.list) }) (sym (set-get_or s.words (link_of 0) 0)) (record {
          records = same_calls (record { head_seen = v.listing.head_seen; route = l.list; off = v.listing.off; before = v.listing.before; tries = v.listing.tries }) s.words refl (λ j. refl);
          list = aside s l i v (routing v l.list) s.words s.homes me (λ j. refl) refl l.whole (λ j b some ne. refl)
              (record { claims = λ b some e. e; heads_seen = λ n e. (e, λ some. refl); walkers = λ _. record { new = []; list_is = refl; off_is = here_walks.off_is; before_is = here_walks.before_is } });
        }),
        (l.list, refl, chain_head (link s) (link s 0) l.list l.chain, record { apart = l.apart; within = within_slots }, meets_all none_off),
      )

      walk_on_goes : (more : List (ℕ × SlotValue O C R)) (q : ℕ) → IsOn q v.listing.route → GoesAt obj s (link_of q) i (v, more) (walks_on_from o.slots q (v, more)) (link s q)
      walk_on_goes more q on =
          let r = here_walks in
          let chain = chain_right (link s) (link s 0) r.new v.listing.route (subst (λ (xs : List ℕ). Chain (link s) (link s 0) xs) r.list_is l.chain) in (
            v,
            keeps,
            tt,
            same_rule (link_of q),
            (
              refl,
              link_names (link s) chain.0 v.listing.route q on chain.1,
              record {
                apart = apart_right r.new v.listing.route (subst AreApart r.list_is l.apart);
                within = λ p there. within_slots p (subst (λ (xs : List ℕ). IsOn p xs) (sym r.list_is) (on_right p r.new v.listing.route there));
              },
            ),
          )

-- No two records share a link word.
pub session_of_its_link : (number : ℕ) → session_of_word (link_of number) ≡ number
session_of_its_link number = omega arith

module _ {O C R : Type 0} where
  -- What the table demands of each of these steps.
  module _ (slots id i : ℕ) (v : View C R) (more : List (ℕ × SlotValue O C R)) (is : v.number ≡ i) (some_number : 0 < i) where
    module _ {obj : Ghosts O C R} {bound : Bounds} where
      -- Look at head keeps the rule, for a session with an unlisted pending call.
      pub look_at_head_kept : v.own.pending ≢ None → v.own.listed ≡ false
          → Allows (IsBounded obj bound) slots id (v, more) (link_of 0) (λ n. n) (looks_at_head (step slots (link_of 0) 0 0 opt.none) (v, more))
      look_at_head_kept waits unlisted = seated_at slots id i (link_of 0) v more (λ n. n) (looks_at_head (step slots (link_of 0) 0 0 opt.none) (v, more)) is some_number
          (λ s o l me small e. subst (λ (n : ℕ). GoesAt obj s (link_of 0) i (v, more) (looks_at_head (step n (link_of 0) 0 0 opt.none) (v, more)) (link s 0)) e
          (look_at_head_goes i v is some_number s o l me small more waits unlisted))

      -- Link keeps the rule, for a session with an unlisted pending call.
      pub link_kept : (head : ℕ) → v.own.pending ≢ None → v.own.listed ≡ false
          → Allows (IsBounded obj bound) slots id (v, more) (link_of i) (λ _. head) (λ _. links (step slots (link_of i) head 0 opt.none) (v, more) head)
      link_kept head waits unlisted = seated_at slots id i (link_of i) v more (λ _. head) (λ _. links (step slots (link_of i) head 0 opt.none) (v, more) head) is some_number
          (λ s o l me small e. link_goes i v is some_number s o l me small head waits unlisted more)

      -- Enlist keeps the rule, for a session that wrote this head into its link.
      pub enlist_kept : (head : ℕ) → v.own.pending ≢ None → v.listing.head_seen ≡ Some head
          → Allows (IsBounded obj bound) slots id (v, more) (link_of 0) (λ n. either (eqb n head) i n) (enlists (step slots (link_of 0) head i opt.none) (v, more))
      enlist_kept head waits noted = seated_at slots id i (link_of 0) v more (λ n. either (eqb n head) i n) (enlists (step slots (link_of 0) head i opt.none) (v, more)) is some_number
          (λ s o l me small e. subst (λ (n : ℕ). GoesAt obj s (link_of 0) i (v, more) (enlists (step n (link_of 0) head i opt.none) (v, more)) (either (eqb (link s 0) head) i (link s 0))) e
          (enlist_goes i v is some_number s o l me small head waits noted more))

  module _ (slots id : ℕ) (v : View C R) (more : List (ℕ × SlotValue O C R)) (is : v.number ≢ 0) (has : v.combiner.has_object ≡ true) where
    module _ {obj : Ghosts O C R} {bound : Bounds} where
      -- Walk keeps the rule, for a combiner with no unlinked record.
      pub walk_kept : v.listing.off ≡ 0 → Allows (IsBounded obj bound) slots id (v, more) (link_of 0) (λ n. n) (walks (step slots (link_of 0) 0 0 opt.none) (v, more))
      walk_kept none_off = seated_at slots id v.number (link_of 0) v more (λ n. n) (walks (step slots (link_of 0) 0 0 opt.none) (v, more)) refl (omega arith)
          (λ s o l me small e. subst (λ (n : ℕ). GoesAt obj s (link_of 0) v.number (v, more) (walks (step n (link_of 0) 0 0 opt.none) (v, more)) (link s 0)) e
          (walk_goes v.number v refl (omega arith) s o l me small has more none_off))

      -- Walk on keeps the rule, from a record on the route.
      pub walk_on_kept : (q : ℕ) → IsOn q v.listing.route → Allows (IsBounded obj bound) slots id (v, more) (link_of q) (λ n. n) (walks_on (step slots (link_of q) 0 0 opt.none) (v, more))
      walk_on_kept q on = subst (λ (k : ℕ). Allows (IsBounded obj bound) slots id (v, more) (link_of q) (λ n. n) (walks_on_from slots k (v, more))) (sym (session_of_its_link q))
          (seated_at slots id v.number (link_of q) v more (λ n. n) (walks_on_from slots q (v, more)) refl (omega arith)
          (λ s o l me small e. subst (λ (n : ℕ). GoesAt obj s (link_of q) v.number (v, more) (walks_on_from n q (v, more)) (link s q)) e
          (walk_on_goes v.number v refl (omega arith) s o l me small has more q on)))
