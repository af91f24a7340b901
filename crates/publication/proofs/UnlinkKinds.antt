-- The kinds of step that take a record off the publication list or link it again keep the rule: unlink, mark out and
-- relink.
use Rattle.std.proofs.Common.{◌≡◌, ◌≢◌, ◌⊎◌, inl, inr, ⊎_elim, ℕ, ◌<◌, true, false, Some, None, List, ◌∷◌, ◌++◌, length, get_or, set, eqb, sym, refl, ap, ◌∙◌, subst, arith, append_assoc, length-set, get_or-set_other, get_or-set_same}
use Rattle.sequential.specs.Bounds.{Bounds}
use Rattle.std.proofs.lemmas.List.{set-get_or}
use mathlib.Core.Option as opt
use mathlib.Core.Logic.{dite}
use native.Mathlib.Decide.{ℕ_discrete}
use prog.Atomic.{either}
use lib.ListN.{get_elem?}
use Rattle.atomic_table.specs.Table.{keeps, step, Allows}
use Rattle.atomic_table.proofs.Lists.{exchanged}
use Rattle.publication.specs.Words.{word_of, link_of, FREE, OUT, CLOSED, EMPTY}
use Rattle.publication.specs.Views.{Listing}
use Rattle.publication.specs.Rule.{blank, BoardState, word, home, seat, IsOrderly}
use Rattle.publication.specs.Rule.RecordState.{vacant}
use Rattle.publication.specs.List.{IsOn, AreApart, head_of, first_of, behind, with_behind, Chain, link, belongs, is_listed, IsUnlinked, IsWalking, IsLinked, IsRuled, IsBounded}
use Rattle.publication.specs.StepKinds.{bypassing, unlinks_behind, unlinks, none_unlinked, marks_out, relinking, relinks}
use Rattle.publication.specs.declared.view.View.{View}
use Rattle.publication.specs.declared.slot.SlotValue.{SlotValue}
use Rattle.publication.proofs.Lists.{at_there, each_set, prefix_self}
use Rattle.publication.proofs.SeatViews.{object_of, whole_of}
use Rattle.publication.proofs.Chains.{chain_same, chain_right, link_names, on_right, chain_without, chain_with, link_second, drop_two, add_two, apart_two, apart_again, apart_front, apart_parts, IsSplit, splits, inserts, inserts_behind}
use Rattle.publication.proofs.UnchangedList.{links_kept}
use Rattle.publication.proofs.RecordStates.{is_empty}
use Rattle.publication.proofs.OrderlyCombiner.{IsRecordStep, combined}
use Rattle.publication.proofs.SessionKinds.{GoesAt, seated_at, is_me}
use Rattle.publication.proofs.ListKinds.{same_calls, same_rule, session_of_its_link}
use Rattle.sequential.specs.declared.object.Sequential.{Ghosts}

module _ {O C R : Type 0} {obj : Ghosts O C R} where
  module _ (i : ℕ) (v : View C R) (is : v.number ≡ i) (some_number : 0 < i) (s : BoardState O C R) (o : IsOrderly obj s) (l : IsLinked s) (me : get_elem? s.views i ≡ opt.some v) (small : i < o.slots)
      (has : v.combiner.has_object ≡ true) where
    seat_is : seat s i ≡ v
    seat_is = is_me i v is some_number s o l me small

    sits : i < length s.views
    sits = (at_there s.views i v blank me).1

    walk : IsWalking l.list l.off l.before v.listing
    walk = subst (λ (x : View C R). x.combiner.has_object ≡ true → IsWalking l.list l.off l.before x.listing) seat_is (l.walkers i) has

    lock_is : word s 0 ≡ i
    lock_is = (object_of s o i v me has).lock_is

    alone : (k : ℕ) → k ≢ i → (seat s k).combiner.has_object ≡ true → ⊥
    alone k ne too = ne (sym (o.combiners k too).lock_is ∙ lock_is)

    -- A session that has yet to exchange the head word isn't on the list.
    not_enlisting : (j b n : ℕ) → IsOn b l.list → (seat s j).listing.head_seen ≡ Some n → j ≢ b
    not_enlisting j b n on e z = let r = l.heads_seen j n e in (l.offs j r.0 r.1).0 (subst (λ (q : ℕ). IsOn q l.list) (sym z) on)

    -- A combiner's listing changes, and the link of record b is written.
    module _ (b n : ℕ) (to : Listing) (on : IsOn b l.list) (same_head_seen : to.head_seen ≡ v.listing.head_seen) where
      -- The combiner's view after the step.
      abbrev u : View C R
      u = record { of = v.of; number = v.number; slots = v.slots; made = v.made; front = v.front; own = v.own; combiner = v.combiner; heard = v.heard; listing = to; others = v.others; pieces = v.pieces }

      -- The words after the step.
      abbrev ws : List ℕ
      ws = set s.words (link_of b) n

      -- The board after the step.
      abbrev t : BoardState O C R
      t = record { words = ws; homes = s.homes; views = set s.views i u }

      word_same : (j : ℕ) → get_or ws (word_of j) 0 ≡ word s j
      word_same j = get_or-set_other s.words (link_of b) (word_of j) n 0 (λ e. omega (arith, e))

      link_other : (j : ℕ) → j ≢ b → link t j ≡ link s j
      link_other j ne = get_or-set_other s.words (link_of b) (link_of j) n 0 (λ e. ne (omega (arith, e)))

      link_here : link t b ≡ n
      link_here = let r = l.within b on in get_or-set_same s.words (link_of b) n 0 (omega (arith, r.1, o.words_are, o.homes_are))

      head_same : link t 0 ≡ link s 0
      head_same = let r = l.within b on in link_other 0 (λ e. omega (arith, e, r.0))

      records_now : IsOrderly obj t
      records_now = same_calls i v is some_number s o l me small to ws (length-set s.words (link_of b) n) word_same

      claims_same : (j : ℕ) → is_listed t j ≡ is_listed s j
      claims_same = each_set s.views i u blank (λ j x. belongs (word t j) x.own.listed ≡ is_listed s j) sits
          (ap (λ (m : ℕ). belongs m v.own.listed) (word_same i) ∙ sym (ap (λ (x : View C R). belongs (word s i) x.own.listed) seat_is))
          (λ j ne. ap (λ (m : ℕ). belongs m (seat s j).own.listed) (word_same j))

      aim_kept : (j m : ℕ) → (seat t j).listing.head_seen ≡ Some m → (seat s j).listing.head_seen ≡ Some m
      aim_kept j m = each_set s.views i u blank (λ j x. x.listing.head_seen ≡ Some m → (seat s j).listing.head_seen ≡ Some m) sits
          (λ e. ap (λ (x : View C R). x.listing.head_seen) seat_is ∙ (sym same_head_seen ∙ e)) (λ j ne e. e) j

      aims_now : (j m : ℕ) → (seat t j).listing.head_seen ≡ Some m → (0 < j) × (is_listed t j ≡ Some false) × (link t j ≡ m)
      aims_now j m e = let was = aim_kept j m e in let r = l.heads_seen j m was in (r.0, claims_same j ∙ r.1, link_other j (not_enlisting j b m on was) ∙ r.2)

      walkers_now : (list : List ℕ) (off before : ℕ) → IsWalking list off before to → (k : ℕ) → (seat t k).combiner.has_object ≡ true → IsWalking list off before (seat t k).listing
      walkers_now list off before w = each_set s.views i u blank (λ k x. x.combiner.has_object ≡ true → IsWalking list off before x.listing) sits (λ _. w) (λ k ne too. absurd (alone k ne too))

      locked : word t 0 ≡ FREE → ⊥
      locked e = omega (arith, e, word_same 0, lock_is)

    -- unlink

    module _ (b w n : ℕ) (none_off : v.listing.off ≡ 0) (there : IsOn b v.listing.route) (next : first_of (behind b v.listing.route) ≡ Some w) (read : n ≡ head_of (behind w v.listing.route)) where
      split : IsSplit b w v.listing.route
      split = splits b w v.listing.route there next

      says : n ≡ link s w
      says =
          let on : IsOn w v.listing.route = subst (λ (r : List ℕ). IsOn w r) (sym split.is) (on_right w split.front (b ∷ w ∷ split.rest) (inr (inl refl))) in
          let c = chain_right (link s) (link s 0) walk.new v.listing.route (subst (λ (r : List ℕ). Chain (link s) (link s 0) r) walk.list_is l.chain) in
          read ∙ sym (link_names (link s) c.0 v.listing.route w on c.1)

      here : l.list ≡ (walk.new ++ split.front) ++ b ∷ w ∷ split.rest
      here = walk.list_is ∙ (ap (λ (r : List ℕ). walk.new ++ r) split.is ∙ sym (append_assoc walk.new split.front (b ∷ w ∷ split.rest)))

      apart_now : AreApart ((walk.new ++ split.front) ++ b ∷ w ∷ split.rest)
      apart_now = subst AreApart here l.apart

      parts : AreApart ((walk.new ++ split.front) ++ b ∷ split.rest) × (IsOn w ((walk.new ++ split.front) ++ b ∷ split.rest) → ⊥)
      parts = apart_two (walk.new ++ split.front) split.rest b w apart_now

      on_b : IsOn b l.list
      on_b = subst (λ (r : List ℕ). IsOn b r) (sym here) (on_right b (walk.new ++ split.front) (b ∷ w ∷ split.rest) (inl refl))

      on_w : IsOn w l.list
      on_w = subst (λ (r : List ℕ). IsOn w r) (sym here) (on_right w (walk.new ++ split.front) (b ∷ w ∷ split.rest) (inr (inl refl)))

      not_same : w ≢ b
      not_same e = parts.1 (on_right w (walk.new ++ split.front) (b ∷ split.rest) (inl e))

      chain_here : Chain (link s) (link s 0) ((walk.new ++ split.front) ++ b ∷ w ∷ split.rest)
      chain_here = subst (λ (r : List ℕ). Chain (link s) (link s 0) r) here l.chain

      -- The board after unlink.
      abbrev unlinked_state : BoardState O C R
      unlinked_state = record { words = set s.words (link_of b) n; homes = s.homes; views = set s.views i (bypassing v b) }

      more : (q : ℕ) → IsOn q ((walk.new ++ split.front) ++ b ∷ split.rest) → IsOn q l.list
      more q on = subst (λ (r : List ℕ). IsOn q r) (sym here) (add_two q (walk.new ++ split.front) split.rest b w (inl on))

      unlink_listed : IsLinked unlinked_state
      unlink_listed = let to = (bypassing v b).listing in record {
        list = (walk.new ++ split.front) ++ b ∷ split.rest;
        chain = subst (λ (k : ℕ). Chain (link unlinked_state) k ((walk.new ++ split.front) ++ b ∷ split.rest)) (sym (head_same b n to on_b refl))
            (chain_without (link s) (link unlinked_state) (link s 0) b w (walk.new ++ split.front) split.rest apart_now (link_other b n to on_b refl) (link_here b n to on_b refl ∙ says) chain_here);
        apart = parts.0;
        within = λ q on. l.within q (more q on);
        off = w;
        before = b;
        unlinked = λ _. record {
          gone = parts.1;
          small = (l.within w on_w).1;
          front = walk.new ++ split.front;
          rest = split.rest;
          seam = refl;
          link_is = link_other b n to on_b refl w not_same ∙ link_second (link s) (link s 0) b w (walk.new ++ split.front) split.rest chain_here;
        };
        whole = λ e. absurd (locked b n to on_b refl e);
        ons = λ j some e. ⊎_elim (λ on. drop_two j (walk.new ++ split.front) split.rest b w (subst (λ (r : List ℕ). IsOn j r) here on))
            (λ (z : j ≡ l.off). absurd (omega (arith, walk.off_is, none_off))) (l.ons j some (sym (claims_same b n to on_b refl j) ∙ e));
        offs = λ j some e. let r = l.offs j some (sym (claims_same b n to on_b refl j) ∙ e) in
            ((λ on. r.0 (more j on)), λ (z : j ≡ w). r.0 (subst (λ (q : ℕ). IsOn q l.list) (sym z) on_w));
        heads_seen = aims_now b n to on_b refl;
        walkers = walkers_now b n to on_b refl ((walk.new ++ split.front) ++ b ∷ split.rest) w b (record {
          new = walk.new;
          list_is = append_assoc walk.new split.front (b ∷ split.rest) ∙ sym (ap (λ (r : List ℕ). walk.new ++ r) split.without_is);
          off_is = ap head_of split.behind_is;
          before_is = λ _. refl;
        });
      }

      unlink_goes : (more_slots : List (ℕ × SlotValue O C R)) → GoesAt obj s (link_of b) i (v, more_slots) (λ _. unlinks_behind b (v, more_slots) n) n
      unlink_goes more_slots = (bypassing v b, keeps, tt, record { records = records_now b n (bypassing v b).listing on_b refl; list = unlink_listed }, refl)

    -- mark out

    module _ (w : ℕ) (off_is : v.listing.off ≡ w) (some_off : 0 < w) (empty : v.combiner.hand ≡ 0) where
      gone_off : l.off ≡ w
      gone_off = sym walk.off_is ∙ off_is

      gone : IsUnlinked (link s) (length s.homes) l.list l.off l.before
      gone = l.unlinked (λ e. omega (arith, gone_off))

      few : w < o.slots
      few = let g = gone.small in omega (arith, gone_off, g, o.homes_are)

      -- The board with no unlinked record noted, and these words.
      abbrev marked_with : List ℕ → BoardState O C R
      marked_with ws = record { words = ws; homes = s.homes; views = set s.views i (none_unlinked v) }

      -- The board after mark out.
      abbrev marked_state : BoardState O C R
      marked_state = marked_with (set s.words (word_of w) OUT)

      marked_word : (j : ℕ) → j ≢ w → word marked_state j ≡ word s j
      marked_word j ne = get_or-set_other s.words (word_of w) (word_of j) OUT 0 (λ e. ne (omega (arith, e)))

      marked_here : word marked_state w ≡ OUT
      marked_here = get_or-set_same s.words (word_of w) OUT 0 (omega (arith, few, o.words_are))

      mark_step : word s w ≡ EMPTY → IsRecordStep s o i v w OUT (home s w) v.front v.combiner (none_unlinked v).listing v.pieces me some_number o.history
      mark_step hit = record {
        has = has;
        still = has;
        some_record = some_off;
        few = few;
        legal = o.legal;
        short = o.short;
        grows = prefix_self o.history;
        whole = whole_of s o i v me has;
        wide = refl;
        others = λ j ne. refl;
        hands = λ j some ne e. omega (arith, e, empty, some);
        new_open = λ call shown. absurd (let t = o.opens i w call (ap (λ (x : View C R). get_elem? x.combiner.opened w) seat_is ∙ shown) in omega (arith, t.is_busy, hit));
        new_busy = λ e. absurd (omega arith);
        stands = let t = is_empty (o.stands w some_off few) hit in vacant record { is = inr refl; none = t.none; out = t.out; empty_slot = t.empty_slot; publishes = t.publishes; calls = t.calls };
        grow = λ j x a y ne t. t;
        pieces = refl;
        entered = inl refl;
      }

      mark_records : word s w ≡ EMPTY → IsOrderly obj marked_state
      mark_records hit = subst (λ (hs : List (opt.Option (SlotValue O C R))). IsOrderly obj record { words = set s.words (word_of w) OUT; homes = hs; views = set s.views i (none_unlinked v) }) (set-get_or s.homes w opt.none)
          (combined s o i v w OUT (home s w) v.front v.combiner (none_unlinked v).listing v.pieces me some_number o.history (mark_step hit))

      -- Whether any other record has to be on the list doesn't change.
      marked_claims : (j : ℕ) → j ≢ w → is_listed marked_state j ≡ is_listed s j
      marked_claims j apart = each_set s.views i (none_unlinked v) blank (λ k x. k ≢ w → belongs (word marked_state k) x.own.listed ≡ is_listed s k) sits
          (λ ne. ap (λ (m : ℕ). belongs m v.own.listed) (marked_word i ne) ∙ sym (ap (λ (x : View C R). belongs (word s i) x.own.listed) seat_is))
          (λ k other ne. ap (λ (m : ℕ). belongs m (seat s k).own.listed) (marked_word k ne)) j apart

      marked_out : (j : ℕ) → j ≡ w → is_listed marked_state j ≡ Some false
      marked_out j e = ap (λ (m : ℕ). belongs m (seat marked_state j).own.listed) (ap (λ (k : ℕ). word marked_state k) e ∙ marked_here)

      aim_after : (j m : ℕ) → (seat marked_state j).listing.head_seen ≡ Some m → (seat s j).listing.head_seen ≡ Some m
      aim_after j m = each_set s.views i (none_unlinked v) blank (λ j x. x.listing.head_seen ≡ Some m → (seat s j).listing.head_seen ≡ Some m) sits
          (λ e. ap (λ (x : View C R). x.listing.head_seen) seat_is ∙ e) (λ j ne e. e) j

      parted_walks : (k : ℕ) → (seat marked_state k).combiner.has_object ≡ true → IsWalking l.list 0 0 (seat marked_state k).listing
      parted_walks = each_set s.views i (none_unlinked v) blank (λ k x. x.combiner.has_object ≡ true → IsWalking l.list 0 0 x.listing) sits
          (λ _. record { new = walk.new; list_is = walk.list_is; off_is = refl; before_is = λ some. absurd (some refl) }) (λ k ne too. absurd (alone k ne too))

      -- With these state words the list's rule holds, if each record that then has to be on the list is on it, each that
      -- must be off it is off it, and each that had to be off it before still has to.
      marked_listed : (ws : List ℕ) → ((j : ℕ) → get_or ws (link_of j) 0 ≡ link s j) → ((j : ℕ) → 0 < j → is_listed (marked_with ws) j ≡ Some true → IsOn j l.list)
          → ((j : ℕ) → 0 < j → is_listed (marked_with ws) j ≡ Some false → IsOn j l.list → ⊥) → ((j : ℕ) → is_listed s j ≡ Some false → is_listed (marked_with ws) j ≡ Some false) → IsLinked (marked_with ws)
      marked_listed ws links on_it off_it still_off = record {
        list = l.list;
        chain = subst (λ (k : ℕ). Chain (link (marked_with ws)) k l.list) (sym (links 0)) (chain_same (link s) (link (marked_with ws)) (link s 0) l.list (λ q on. sym (links q)) l.chain);
        apart = l.apart;
        within = l.within;
        off = 0;
        before = 0;
        unlinked = λ some. absurd (some refl);
        whole = λ _. refl;
        ons = λ j some e. inl (on_it j some e);
        offs = λ j some e. (off_it j some e, λ z. omega (arith, z, some));
        heads_seen = λ j m e. let r = l.heads_seen j m (aim_after j m e) in (r.0, still_off j r.1, links j ∙ r.2);
        walkers = parted_walks;
      }

      mark_listed : IsLinked marked_state
      mark_listed = marked_listed (set s.words (word_of w) OUT) (links_kept s.words w OUT)
          (λ j some e. dite (ℕ_discrete j w)
          (λ z. absurd (let q : Some false ≡ Some true = sym (marked_out j z) ∙ e in cc q))
          (λ ne. ⊎_elim (λ on. on) (λ (z : j ≡ l.off). absurd (ne (z ∙ gone_off))) (l.ons j some (sym (marked_claims j ne) ∙ e))))
          (λ j some e. dite (ℕ_discrete j w)
          (λ z on. gone.gone (subst (λ (q : ℕ). IsOn q l.list) (z ∙ sym gone_off) on))
          (λ ne. (l.offs j some (sym (marked_claims j ne) ∙ e)).0))
          (λ j e. dite (ℕ_discrete j w) (λ z. marked_out j z) (λ ne. marked_claims j ne ∙ e))

      -- A record that was CLOSED is off the list for good.
      abbrev left_state : BoardState O C R
      left_state = marked_with s.words

      left_claims : (j : ℕ) → is_listed left_state j ≡ is_listed s j
      left_claims = each_set s.views i (none_unlinked v) blank (λ j x. belongs (word s j) x.own.listed ≡ is_listed s j) sits
          (sym (ap (λ (x : View C R). belongs (word s i) x.own.listed) seat_is)) (λ j ne. refl)

      closed_is : word s w ≡ CLOSED → (j : ℕ) → j ≡ w → is_listed s j ≡ None
      closed_is hit j e = ap (λ (m : ℕ). belongs m (seat s j).own.listed) (ap (word s) e ∙ hit)

      closed_listed : word s w ≡ CLOSED → IsLinked left_state
      closed_listed hit = marked_listed s.words (λ j. refl)
          (λ j some e. ⊎_elim (λ on. on)
          (λ (z : j ≡ l.off). absurd (let q : None ≡ Some true = sym (closed_is hit j (z ∙ gone_off)) ∙ (sym (left_claims j) ∙ e) in cc q)) (l.ons j some (sym (left_claims j) ∙ e)))
          (λ j some e. (l.offs j some (sym (left_claims j) ∙ e)).0) (λ j e. left_claims j ∙ e)

      -- Mark out leaves n in record w's state word and keeps the rule.
      abbrev MarkOutcome : List (ℕ × SlotValue O C R) → ℕ → Type 0
      MarkOutcome more n = GoesAt obj s (word_of w) i (v, more) (marks_out (step o.slots (word_of w) EMPTY OUT opt.none) (v, more)) n

      mark_won : (more : List (ℕ × SlotValue O C R)) → word s w ≡ EMPTY → MarkOutcome more OUT
      mark_won more hit = (
        none_unlinked v,
        keeps,
        tt,
        record { records = mark_records hit; list = mark_listed },
        ((λ _. refl), (λ c. absurd (omega (arith, hit, c))), λ miss other. absurd (miss hit)),
      )

      mark_closed : (more : List (ℕ × SlotValue O C R)) → word s w ≡ CLOSED → MarkOutcome more (word s w)
      mark_closed more hit = (
        none_unlinked v,
        keeps,
        tt,
        subst (λ (ws : List ℕ). IsRuled obj record { words = ws; homes = s.homes; views = set s.views i (none_unlinked v) }) (sym (set-get_or s.words (word_of w) 0)) (record {
          records = same_calls i v is some_number s o l me small (none_unlinked v).listing s.words refl (λ j. refl);
          list = closed_listed hit;
        }),
        ((λ e. absurd (omega (arith, hit, e))), (λ _. refl), λ a other. absurd (other hit)),
      )

      mark_lost : (more : List (ℕ × SlotValue O C R)) → word s w ≢ EMPTY → MarkOutcome more (word s w)
      mark_lost more miss = dite (ℕ_discrete (word s w) CLOSED) (mark_closed more) (λ other. (
        v,
        keeps,
        tt,
        same_rule i v is some_number s o l me small (word_of w),
        ((λ e. absurd (miss e)), (λ c. absurd (other c)), λ a b. refl),
      ))

      mark_goes : (more : List (ℕ × SlotValue O C R)) → MarkOutcome more (either (eqb (word s w) EMPTY) OUT (word s w))
      mark_goes more = exchanged (word s w) EMPTY OUT (MarkOutcome more) (mark_won more) (mark_lost more)

    -- relink

    module _ (b w : ℕ) (off_is : v.listing.off ≡ w) (before_is : v.listing.before ≡ b) (some_off : 0 < w) (there : IsOn b v.listing.route) where
      away_off : l.off ≡ w
      away_off = sym walk.off_is ∙ off_is

      away : IsUnlinked (link s) (length s.homes) l.list l.off l.before
      away = l.unlinked (λ e. omega (arith, away_off))

      behind_b : l.before ≡ b
      behind_b = sym (walk.before_is (λ e. omega (arith, away_off))) ∙ before_is

      seam_b : l.list ≡ away.front ++ b ∷ away.rest
      seam_b = away.seam ∙ ap (λ (k : ℕ). away.front ++ k ∷ away.rest) behind_b

      gone_w : IsOn w (away.front ++ b ∷ away.rest) → ⊥
      gone_w on = away.gone (subst (λ (q : ℕ). IsOn q l.list) (sym away_off) (subst (λ (r : List ℕ). IsOn w r) (sym seam_b) on))

      on_list : IsOn b l.list
      on_list = subst (λ (r : List ℕ). IsOn b r) (sym walk.list_is) (on_right b walk.new v.listing.route there)

      apart_b : AreApart (away.front ++ b ∷ away.rest)
      apart_b = subst AreApart seam_b l.apart

      -- The board after relink.
      abbrev relinked_state : BoardState O C R
      relinked_state = record { words = set s.words (link_of b) w; homes = s.homes; views = set s.views i (relinking v) }

      back : (q : ℕ) → IsOn q (away.front ++ b ∷ w ∷ away.rest) → IsOn q l.list ⊎ (q ≡ w)
      back q on = ⊎_elim (λ z. inl (subst (λ (r : List ℕ). IsOn q r) (sym seam_b) z)) (λ e. inr e) (drop_two q away.front away.rest b w on)

      wider : (q : ℕ) → IsOn q l.list ⊎ (q ≡ l.off) → IsOn q (away.front ++ b ∷ w ∷ away.rest)
      wider q on = add_two q away.front away.rest b w (⊎_elim (λ z. inl (subst (λ (r : List ℕ). IsOn q r) seam_b z)) (λ (e : q ≡ l.off). inr (e ∙ away_off)) on)

      route_now : away.front ++ b ∷ w ∷ away.rest ≡ walk.new ++ with_behind v.listing.before v.listing.off v.listing.route
      route_now =
          let not_front : IsOn b away.front → ⊥ = apart_front away.front away.rest b apart_b in
          let not_new : IsOn b walk.new → ⊥ = apart_parts b walk.new v.listing.route (subst AreApart walk.list_is l.apart) there in
          sym (inserts b w away.front away.rest not_front) ∙ (ap (λ (r : List ℕ). with_behind b w r) (sym seam_b ∙ walk.list_is)
          ∙ (inserts_behind b w walk.new v.listing.route not_new
          ∙ (ap (λ (k : ℕ). walk.new ++ with_behind k w v.listing.route) (sym before_is) ∙ ap (λ (k : ℕ). walk.new ++ with_behind v.listing.before k v.listing.route) (sym off_is))))

      relink_listed : IsLinked relinked_state
      relink_listed = let to = (relinking v).listing in record {
        list = away.front ++ b ∷ w ∷ away.rest;
        chain = subst (λ (k : ℕ). Chain (link relinked_state) k (away.front ++ b ∷ w ∷ away.rest)) (sym (head_same b w to on_list refl))
            (chain_with (link s) (link relinked_state) (link s 0) b w away.front away.rest apart_b gone_w (link_other b w to on_list refl) (link_here b w to on_list refl)
            (ap (link s) (sym away_off) ∙ away.link_is) (subst (λ (r : List ℕ). Chain (link s) (link s 0) r) seam_b l.chain));
        apart = apart_again away.front away.rest b w apart_b gone_w;
        within = λ q on. ⊎_elim (l.within q) (λ (e : q ≡ w). (omega (arith, e, some_off), (let g = away.small in omega (arith, e, away_off, g)))) (back q on);
        off = 0;
        before = 0;
        unlinked = λ some. absurd (some refl);
        whole = λ _. refl;
        ons = λ j some e. inl (wider j (l.ons j some (sym (claims_same b w to on_list refl j) ∙ e)));
        offs = λ j some e. let r = l.offs j some (sym (claims_same b w to on_list refl j) ∙ e) in
            ((λ on. ⊎_elim r.0 (λ (z : j ≡ w). r.1 (z ∙ sym away_off)) (back j on)), λ z. omega (arith, z, some));
        heads_seen = aims_now b w to on_list refl;
        walkers = walkers_now b w to on_list refl (away.front ++ b ∷ w ∷ away.rest) 0 0 (record { new = walk.new; list_is = route_now; off_is = refl; before_is = λ some. absurd (some refl) });
      }

      relink_goes : (more : List (ℕ × SlotValue O C R)) → GoesAt obj s (link_of b) i (v, more) (λ _. relinks (step o.slots (link_of b) w 0 opt.none) (v, more) w) w
      relink_goes more = (relinking v, keeps, tt, record { records = records_now b w (relinking v).listing on_list refl; list = relink_listed }, refl)

module _ {O C R : Type 0} where
  -- What the table demands of each of these steps.
  module _ (slots id : ℕ) (v : View C R) (more : List (ℕ × SlotValue O C R)) (is : v.number ≢ 0) (has : v.combiner.has_object ≡ true) where
    module _ {obj : Ghosts O C R} {bound : Bounds} where
      -- Unlink keeps the rule, for a combiner with no unlinked record and b on its route.
      pub unlink_kept : (b w n : ℕ) → v.listing.off ≡ 0 → IsOn b v.listing.route → first_of (behind b v.listing.route) ≡ Some w → n ≡ head_of (behind w v.listing.route)
          → Allows (IsBounded obj bound) slots id (v, more) (link_of b) (λ _. n) (λ _. unlinks (step slots (link_of b) n 0 opt.none) (v, more) n)
      unlink_kept b w n none_off there next read = subst (λ (k : ℕ). Allows (IsBounded obj bound) slots id (v, more) (link_of b) (λ _. n) (λ _. unlinks_behind k (v, more) n)) (sym (session_of_its_link b))
          (seated_at slots id v.number (link_of b) v more (λ _. n) (λ _. unlinks_behind b (v, more) n) refl (omega arith)
          (λ s o l me small e. unlink_goes v.number v refl (omega arith) s o l me small has b w n none_off there next read more))

      -- Mark out keeps the rule, for the record that the combiner has unlinked.
      pub mark_kept : (w : ℕ) → v.listing.off ≡ w → 0 < w → v.combiner.hand ≡ 0
          → Allows (IsBounded obj bound) slots id (v, more) (word_of w) (λ n. either (eqb n EMPTY) OUT n) (marks_out (step slots (word_of w) EMPTY OUT opt.none) (v, more))
      mark_kept w off_is some_off empty = seated_at slots id v.number (word_of w) v more (λ n. either (eqb n EMPTY) OUT n) (marks_out (step slots (word_of w) EMPTY OUT opt.none) (v, more)) refl (omega arith)
          (λ s o l me small e. mark_goes v.number v refl (omega arith) s o l me small has w off_is some_off empty more)

      -- Relink keeps the rule, for the record that the combiner has unlinked.
      pub relink_kept : (b w : ℕ) → v.listing.off ≡ w → v.listing.before ≡ b → 0 < w → IsOn b v.listing.route
          → Allows (IsBounded obj bound) slots id (v, more) (link_of b) (λ _. w) (λ _. relinks (step slots (link_of b) w 0 opt.none) (v, more) w)
      relink_kept b w off_is before_is some_off there = seated_at slots id v.number (link_of b) v more (λ _. w) (λ _. relinks (step slots (link_of b) w 0 opt.none) (v, more) w) refl (omega arith)
          (λ s o l me small e. relink_goes v.number v refl (omega arith) s o l me small has b w off_is before_is some_off there more)
