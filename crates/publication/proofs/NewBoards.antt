-- A new board has the rule, and keeps it while its sessions are made.
use Rattle.std.proofs.Common.{◌≡◌, ◌≢◌, ℕ, zero, suc, ◌+◌, ◌<◌, ◌≤◌, Bool, true, false, Some, None, List, [], ◌∷◌, ◌++◌, length, map, replicate, get_or, set, sym, refl, ap, ◌∙◌, subst, arith, length-set, length-append, get_or-set_other, get_or-set_same, inl, inr}
use Rattle.std.proofs.lemmas.List.{get_or_push, length-map, length-replicate}
use mathlib.Core.Option as opt
use mathlib.Core.List.{IsPrefix}
use lib.ListN.{get_elem?}
use Rattle.std.specs.Prelude.{nat_le}
use Rattle.std.proofs.lemmas.Bool.{leb-true}
use Rattle.std.specs.Global.{Box}
use Rattle.atomic_table.specs.Table.{opening, Splits}
use Rattle.sequential.specs.declared.entry.Entry.{Entry}
use Rattle.publication.specs.Words.{word_of, END, OUT}
use Rattle.publication.specs.List.{link, belongs, IsLinked, IsRuled, IsBounded, bound_of}
use Rattle.publication.specs.Views.{Own, Handed}
use Rattle.publication.specs.BoardHistory.{new_board}
use Rattle.publication.specs.Rule.{BoardState, blank, apart, AreTrue, fresh, own_at, announced, maker, new_session, word, home, seat, IsHome, IsVacant, RecordState, HasObject, IsOpened, IsSession, IsMaker, HasPieces, calls_known, IsOrderly}
use Rattle.publication.specs.Rule.RecordState.{vacant}
use Rattle.publication.specs.declared.view.View.{View}
use Rattle.publication.specs.declared.slot.Load.{Load}
use Rattle.publication.specs.declared.slot.SlotValue.{SlotValue}
use Rattle.publication.specs.declared.slot.SlotValue.TheVariants.{Empty, ObjectLoad}
use Rattle.publication.proofs.Lists.{at_there, each_set, each_snoc, prefix_self, same_all, past_end}
use Rattle.publication.proofs.Others.{StaysGone, still-true}
use Rattle.publication.proofs.Pieces.{unmade_none, knows_none, pieces_kept}
use Rattle.publication.proofs.Present.{present_more}
use Rattle.publication.proofs.UnchangedList.{Keeps, seen_listed, same_seat, unseated}
use Rattle.publication.proofs.LockKinds.{nothing_at}
use Rattle.sequential.specs.declared.object.Sequential.{Ghosts}

-- The sessions' slots of a new board are empty.
nothings : {O C R : Type 0} (n i : ℕ) → i < n → get_or {A = opt.Option (SlotValue O C R)} (map opt.some (replicate n Empty)) i opt.none ≡ opt.some Empty
nothings zero i h = absurd (omega arith)
nothings (suc n) zero h = refl
nothings (suc n) (suc i) h = nothings n i (omega arith)

module _ {O C R : Type 0} where
  -- A seat that knows of others only whether all sessions are made knows nothing false.
  pub told_nothing : (h : List (Entry C R)) (s : BoardState O C R) (slots : ℕ) (owns : List (Own C R)) (all_made : Bool) → (all_made ≡ true → slots ≤ length s.views) → AreTrue h s slots owns (apart all_made)
  told_nothing h s slots owns all_made so = record { all_made = so; beside = (h, refl); handed = λ p x at. absurd (opt.some-ne-none x (sym at)); logged = refl }

-- No element is in an empty list.
none_split : {A : Type 0} (before after : List A) (x : A) → [] ≡ before ++ x ∷ after → ⊥
none_split [] after x e = cc e
none_split (y ∷ ys) after x e = cc e

module _ {C R : Type 0} where
  -- What holds of every seat of a board with one seat.
  first_seats : (v : View C R) (P : View C R → Type 0) → P v → P blank → (k : ℕ) → P (get_or (v ∷ []) k blank)
  first_seats v P here else zero = here
  first_seats v P here else (suc k) = else

module _ {O C R : Type 0} {obj : Ghosts O C R} where
  -- The board of n sessions before any is made.
  module _ (n : ℕ) (load : Box (Load O C R)) (ready : IsHome obj [] (n + 1) load.value) where
    -- The first seat, with no session made yet.
    abbrev first : View C R
    first = maker (n + 1) 0

    -- The new board: FREE and OUT words, no link, the load at home, and one seat.
    abbrev laid_out : BoardState O C R
    laid_out = opening (set (replicate (word_of (n + 1)) 0) 1 END) (ObjectLoad load ∷ replicate n Empty) first

    each : (P : View C R → Type 0) → P first → P blank → (k : ℕ) → P (seat laid_out k)
    each = first_seats first

    -- Each state word is 0.
    pub words_zero : (i : ℕ) → word laid_out i ≡ 0
    words_zero i = get_or-set_other (replicate (word_of (n + 1)) 0) 1 (word_of i) END 0 (λ e. omega (arith, e)) ∙ same_all (word_of (n + 1)) (word_of i) 0

    vacant_first : (i : ℕ) → IsVacant {O = O} {C = C} {R = R} [] i OUT (opt.some Empty) fresh
    vacant_first i = record { is = inr refl; none = refl; out = λ e. absurd (cc e); empty_slot = λ _. refl; publishes = refl; calls = refl }

    stands_first : (i : ℕ) → 0 < i → i < n + 1 → RecordState [] i 0 (home laid_out i) (own_at (replicate (n + 1) fresh) i)
    stands_first zero h few = absurd (omega arith)
    stands_first (suc i) h few = rw (nothings n i (omega arith), same_all (n + 1) (suc i) fresh) (vacant (vacant_first (suc i)))

    heard_first : (k j : ℕ) → get_or (seat laid_out k).heard j 0 ≤ announced (own_at (replicate (n + 1) (fresh {C = C} {R = R})) j)
    heard_first k j = each (λ u. get_or u.heard j 0 ≤ announced (own_at (replicate (n + 1) (fresh {C = C} {R = R})) j)) (omega arith) (omega arith) k

    others_first : (k : ℕ) → AreTrue [] laid_out (n + 1) (replicate (n + 1) fresh) (seat laid_out k).others
    others_first = each (λ u. AreTrue [] laid_out (n + 1) (replicate (n + 1) fresh) u.others)
        (told_nothing [] laid_out (n + 1) (replicate (n + 1) fresh) (nat_le (n + 1) 1) (leb-true (n + 1) 1))
        (told_nothing [] laid_out (n + 1) (replicate (n + 1) fresh) false (λ e. absurd (cc e)))

    head_end : link laid_out 0 ≡ END
    head_end = get_or-set_same (replicate (word_of (n + 1)) 0) 1 END 0 (omega (arith, length-replicate {A = ℕ} (word_of (n + 1)) 0))

    -- The publication list is empty, and no record has to be on it.
    none_listed : IsLinked laid_out
    none_listed = record {
      list = [];
      chain = head_end;
      apart = tt;
      within = λ q on. absurd on;
      off = 0;
      before = 0;
      unlinked = λ some. absurd (some refl);
      whole = λ _. refl;
      ons = λ j some is. absurd (let e = ap (λ (w : ℕ). belongs w (seat laid_out j).own.listed) (words_zero j) in cc (e, is));
      offs = λ j some is. ((λ on. on), λ e. omega arith);
      heads_seen = λ j m is. absurd (each (λ u. u.listing.head_seen ≡ Some m → ⊥) (λ e. cc e) (λ e. cc e) j is);
      walkers = λ k has. absurd (each (λ u. u.combiner.has_object ≡ true → ⊥) (λ e. cc e) (λ e. cc e) k has);
    }

    in_order : obj.is_legal [] → load.value.pieces.items ≡ [] → IsOrderly obj laid_out
    in_order empty untaken = record {
      history = [];
      slots = n + 1;
      owns = replicate (n + 1) fresh;
      legal = empty;
      short = omega arith;
      owns_are = length-replicate (n + 1) fresh;
      words_are = length-set (replicate (word_of (n + 1)) 0) 1 END ∙ length-replicate (word_of (n + 1)) 0;
      homes_are = omega (arith, length-map {A = SlotValue O C R} (replicate n Empty) opt.some, length-replicate {A = SlotValue O C R} n Empty);
      makes = record { slots_are = refl; number = refl; none = refl; there = omega arith; some_slot = omega arith; made = λ _. refl };
      unmade = λ j past. same_all (n + 1) j fresh;
      sessions = λ k. each (λ u. u.number ≢ 0 → IsSession (n + 1) (replicate (n + 1) fresh) k u) (λ no_number. absurd (no_number refl)) (λ no_number. absurd (no_number refl)) k;
      waits = λ j some. absurd (some (ap (λ (x : Own C R). x.pending) (same_all (n + 1) j fresh)));
      fronts = each (λ u. IsPrefix u.front []) (prefix_self []) (prefix_self []);
      heard = heard_first;
      others = others_first;
      stands = λ i some_session small. rw (words_zero i) (stands_first i some_session small);
      combiners = λ k. each (λ u. u.combiner.has_object ≡ true → HasObject [] (word laid_out 0) k u) (λ e. absurd (cc e)) (λ e. absurd (cc e)) k;
      free = λ _. (load, refl, ready);
      taken = λ some_lock. absurd (some_lock (words_zero 0));
      opens = λ k j call is. absurd (each (λ u. get_elem? u.combiner.opened j ≡ opt.some (Some call) → ⊥) (nothing_at 0 j call) (nothing_at 0 j call) k is);
      opened = λ j some_session is. absurd (omega (arith, words_zero j));
      pieces = record {
        all = [];
        within = λ k d few. absurd (omega arith);
        seats = each (HasPieces []) (knows_none [] first refl refl refl) (knows_none [] blank refl refl refl);
        home = λ _. untaken;
      };
      present = record {
        each = λ j some small there. absurd (omega (arith, some, there));
        apart = λ k live. absurd (each (λ u. u.number ≢ 0 → ⊥) (λ z. z refl) (λ z. z refl) k live);
        once = λ k m p q x y at. absurd (each (λ u. get_elem? u.others.handed p ≡ opt.some x → ⊥) (λ e. opt.some-ne-none x (sym e)) (λ e. opt.some-ne-none x (sym e)) k at);
      };
      in_time = record {
        events = [];
        sessions = n;
        sessions_are = refl;
        well_formed = λ before after e split. absurd (none_split before after e split);
        linear = record {
          legal = empty;
          equal = λ i some few. inl refl;
          whose = λ k d few. absurd (omega arith);
          in_time = λ before after split i j a b c d x y first others earlier later is. absurd (none_split first others x is);
        };
        logs = λ j. ap (λ (x : Own C R). x.log) (same_all (n + 1) j fresh);
        calls = λ j. ap (λ (x : Own C R). calls_known x) (sym (same_all (n + 1) j fresh));
      };
    }

    -- A new board has the rule.
    pub begins : obj.is_legal [] → load.value.pieces.items ≡ [] → IsRuled obj laid_out
    begins empty untaken = record { records = in_order empty untaken; list = none_listed }

    -- A new board has the rule of its object's bound.
    pub begins_bounded : obj.is_legal [] → load.value.pieces.items ≡ [] → (objects : List O) → objects ≡ load.value.object ∷ [] → IsBounded obj (bound_of obj.bound objects) laid_out
    begins_bounded empty untaken objects noted = record {
      ruled = begins empty untaken;
      within = λ other there.
          let same : ObjectLoad load ≡ ObjectLoad other = opt.some-injective (ObjectLoad load) (ObjectLoad other) there in
          let one : load ≡ other = cc same in
          ap (λ (b : Box (Load O C R)). obj.bound b.value.object) (sym one) ∙ ap (bound_of obj.bound) (sym noted);
    }

  -- The first seat of a board that has the rule makes one more session.
  module _ (slots made : ℕ) (some_left : made + 1 < slots) (s : BoardState O C R) (o : IsOrderly obj s) (me : get_elem? s.views 0 ≡ opt.some (maker slots made)) where
    -- The first seat after it made one more session.
    abbrev more : View C R
    more = maker slots (made + 1)

    -- The new session's seat.
    abbrev joined : View C R
    joined = new_session slots (made + 1)

    -- All views afterwards.
    abbrev seats_after : List (View C R)
    seats_after = set s.views 0 more ++ joined ∷ []

    -- The board afterwards.
    abbrev enrolled : BoardState O C R
    enrolled = record { words = s.words; homes = s.homes; views = seats_after }

    is_me : seat s 0 ≡ maker slots made
    is_me = (at_there s.views 0 (maker slots made) blank me).0

    sits : 0 < length s.views
    sits = (at_there s.views 0 (maker slots made) blank me).1

    before : IsMaker o.slots (length s.views) (maker {C = C} {R = R} slots made)
    before = subst (λ (u : View C R). IsMaker o.slots (length s.views) u) is_me o.makes

    seats : made + 1 ≡ length s.views
    seats = before.made (omega (arith, before.slots_are))

    long_now : length (set s.views 0 more) ≡ length s.views
    long_now = length-set s.views 0 more

    one_more : length seats_after ≡ length s.views + 1
    one_more = omega (arith, long_now, length-append (set s.views 0 more) (joined ∷ []))

    -- What holds of the new seat, of the first seat and of the others holds of every seat.
    each_seat : (P : ℕ → View C R → Type 0) → P (length s.views) joined → P 0 more → ((k : ℕ) → k ≢ 0 → P k (seat s k)) → (k : ℕ) → P k (seat enrolled k)
    each_seat P new here else = each_snoc (set s.views 0 more) joined blank P (subst (λ (k : ℕ). P k joined) (sym long_now) new) (each_set s.views 0 more blank P sits here else)

    -- The first seat isn't a combiner, and has opened no record.
    first_had : (seat s 0).combiner ≡ (maker {C = C} {R = R} slots made).combiner
    first_had = ap (λ (u : View C R). u.combiner) is_me

    past_had : (seat s (length s.views)).combiner ≡ (blank {C = C} {R = R}).combiner
    past_had = ap (λ (u : View C R). u.combiner) (past_end s.views blank)

    heads : (l : List (View C R)) → 0 < length l → get_or (set l 0 more ++ joined ∷ []) 0 blank ≡ more
    heads [] h = absurd (omega arith)
    heads (x ∷ xs) h = refl

    makes_more : IsMaker o.slots (length seats_after) (seat enrolled 0)
    makes_more = rw (heads s.views sits) (record {
      slots_are = before.slots_are;
      number = refl;
      none = refl;
      there = omega (arith, one_more);
      some_slot = o.makes.some_slot;
      made = λ _. omega (arith, one_more, seats);
    })

    sessions_after : (k : ℕ) → (seat enrolled k).number ≢ 0 → IsSession o.slots o.owns k (seat enrolled k)
    sessions_after = each_seat (λ k u. u.number ≢ 0 → IsSession o.slots o.owns k u)
        (λ _. record {
          own_is = sym (o.unmade (length s.views) (omega arith));
          is = seats;
          small = omega (arith, seats, before.slots_are);
          wide = length-replicate slots None ∙ before.slots_are;
        })
        (λ no_number. absurd (no_number refl)) (λ k ne. o.sessions k)

    heard_after : (k j : ℕ) → get_or (seat enrolled k).heard j 0 ≤ announced (own_at o.owns j)
    heard_after k j = each_seat (λ k u. get_or u.heard j 0 ≤ announced (own_at o.owns j)) (omega (arith, same_all {A = ℕ} slots j 0)) (omega arith) (λ k ne. o.heard k j) k

    -- Only the new seat gets a session.
    none_joined : StaysGone s enrolled o.owns o.owns
    none_joined j some few gone =
        (each_seat (λ i u. i < length s.views → 0 < i → (seat s i).number ≡ 0 → u.number ≡ 0) (λ h. absurd (omega arith)) (λ h some. absurd (omega arith)) (λ i n h some z. z) j few some gone, refl)

    others_after : (k : ℕ) → AreTrue o.history enrolled o.slots o.owns (seat enrolled k).others
    others_after = each_seat (λ k u. AreTrue o.history enrolled o.slots o.owns u.others)
        (told_nothing o.history enrolled o.slots o.owns false (λ e. absurd (cc e)))
        (told_nothing o.history enrolled o.slots o.owns (nat_le slots (made + 1 + 1)) (λ e. omega (arith, leb-true slots (made + 1 + 1) e, one_more, seats, before.slots_are)))
        (λ k ne. still-true o.history o.history s enrolled o.slots o.owns o.owns (seat s k).others (prefix_self o.history) (omega (arith, one_more)) none_joined (o.others k))

    still_has : (k : ℕ) → (seat s k).combiner.has_object ≡ true → (seat enrolled k).combiner.has_object ≡ true
    still_has = each_seat (λ k u. (seat s k).combiner.has_object ≡ true → u.combiner.has_object ≡ true)
        (λ has. absurd (let z : (seat s (length s.views)).combiner.has_object ≡ false = ap (λ c. c.has_object) past_had in cc (has, z))) (λ has. absurd (let z : (seat s 0).combiner.has_object ≡ false = ap (λ c. c.has_object) first_had in cc (has, z))) (λ k n has. has)

    opens_after : (k j : ℕ) (call : C) → get_elem? (seat enrolled k).combiner.opened j ≡ opt.some (Some call) → IsOpened enrolled o.owns (seat enrolled k).combiner j call
    opens_after = each_seat (λ k u. (j : ℕ) (call : C) → get_elem? u.combiner.opened j ≡ opt.some (Some call) → IsOpened enrolled o.owns u.combiner j call)
        (λ j call is. absurd (nothing_at slots j call is)) (λ j call is. absurd (nothing_at 0 j call is))
        (λ k ne j call is. let p = o.opens k j call is in record { object = p.object; record_of = p.record_of; is_busy = p.is_busy; call_of = p.call_of; empty_slot = p.empty_slot })

    still_open : (j : ℕ) (call : C) (k : ℕ) → get_elem? (seat s k).combiner.opened j ≡ opt.some (Some call) → get_elem? (seat enrolled k).combiner.opened j ≡ opt.some (Some call)
    still_open j call = each_seat (λ k u. get_elem? (seat s k).combiner.opened j ≡ opt.some (Some call) → get_elem? u.combiner.opened j ≡ opt.some (Some call))
        (λ was. absurd (nothing_at 0 j call (sym (ap (λ c. get_elem? c.opened j) past_had) ∙ was)))
        (λ was. absurd (nothing_at 0 j call (sym (ap (λ c. get_elem? c.opened j) first_had) ∙ was)))
        (λ k n was. was)

    newest : seat enrolled (length s.views) ≡ joined
    newest = subst (λ (k : ℕ). get_or (set s.views 0 more ++ joined ∷ []) k blank ≡ joined) long_now (get_or_push (set s.views 0 more) joined blank (length (set s.views 0 more)) refl)

    enrols_one : IsOrderly obj enrolled
    enrols_one = record {
      history = o.history;
      slots = o.slots;
      owns = o.owns;
      legal = o.legal;
      short = o.short;
      owns_are = o.owns_are;
      words_are = o.words_are;
      homes_are = o.homes_are;
      makes = makes_more;
      unmade = λ j past. o.unmade j (omega (arith, one_more));
      sessions = sessions_after;
      waits = each_seat (λ k u. (own_at o.owns k).pending ≢ None → u.own ≡ own_at o.owns k)
          (λ some. absurd (some (ap (λ (x : Own C R). x.pending) (o.unmade (length s.views) (omega arith)))))
          (λ some. ap (λ (u : View C R). u.own) (sym is_me) ∙ o.waits 0 some) (λ k ne. o.waits k);
      fronts = each_seat (λ k u. IsPrefix u.front o.history) (o.history, refl) (o.history, refl) (λ k ne. o.fronts k);
      heard = heard_after;
      others = others_after;
      stands = o.stands;
      combiners = each_seat (λ k u. u.combiner.has_object ≡ true → HasObject o.history (word s 0) k u) (λ e. absurd (cc e)) (λ e. absurd (cc e)) (λ k ne. o.combiners k);
      free = o.free;
      taken = λ some_lock. let q = o.taken some_lock in (still_has (word s 0) q.0, q.1, q.2);
      opens = opens_after;
      opened = λ j some_session is. let p = o.opened j some_session is in (p.0, still_open j p.0 (word s 0) p.1);
      pieces = pieces_kept o.slots s enrolled o.pieces (omega (arith, one_more)) (λ e. (e, refl)) (each_seat (λ k u. HasPieces o.pieces.all u)
          (record {
            own = λ _. sym (unmade_none o.slots (length s.views) (made + 1) o.pieces.all o.pieces.within (omega (arith, seats)));
            handed = λ p x at. absurd (opt.some-ne-none x (sym at));
            known = λ has. absurd (cc has);
          })
          (knows_none o.pieces.all more refl refl refl) (λ k ne. o.pieces.seats k));
      present = present_more o.slots s enrolled one_more
          (each_seat (λ k u. k ≢ length s.views → (u.number ≡ (seat s k).number) × (u.others.handed ≡ (seat s k).others.handed)) (λ ne. absurd (ne refl))
          (λ _. (ap (λ (u : View C R). u.number) (sym is_me), ap (λ (u : View C R). u.others.handed) (sym is_me))) (λ k a ne. (refl, refl)))
          (ap (λ (u : View C R). u.others.handed) newest) (λ _. ap (λ (u : View C R). u.number) newest ∙ seats) o.present;
      in_time = o.in_time;
    }

    -- The publication list doesn't change.
    still_listed : (l : IsLinked s) → IsLinked enrolled
    still_listed l = seen_listed s l seats_after (each_seat (Keeps s enrolled l)
        (unseated s l seats_after (length s.views) joined (ap (λ (u : View C R). u.own.listed) (sym (past_end s.views blank))) refl refl)
        (unseated s l seats_after 0 more (ap (λ (u : View C R). u.own.listed) (sym is_me)) refl refl)
        (λ k ne. same_seat s enrolled l k (λ b some. refl)))

    enrols_ruled : (l : IsLinked s) → IsRuled obj enrolled
    enrols_ruled l = record { records = enrols_one; list = still_listed l }

  -- Making a session keeps the rule.
  pub enrols : (id slots made : ℕ) → id ≡ 0 → made + 1 < slots → Splits (IsRuled obj) id (maker slots made) (maker slots (made + 1)) (new_session slots (made + 1))
  enrols id slots made first few = subst (λ (i : ℕ). Splits (IsRuled obj) i (maker slots made) (maker slots (made + 1)) (new_session slots (made + 1))) (sym first) (λ s r me. enrols_ruled slots made few s r.records me r.list)

module _ {O C R : Type 0} where
  -- No seat is a session's.
  pub no_number : (n : ℕ) (load : Box (Load O C R)) (k : ℕ) → (seat (new_board n load) k).number ≡ 0
  no_number n load zero = refl
  no_number n load (suc k) = refl

  -- No session was handed in.
  pub none_handed : (n : ℕ) (load : Box (Load O C R)) (k p : ℕ) (x : Handed C R) → get_elem? (seat (new_board n load) k).others.handed p ≡ opt.some x → ⊥
  none_handed n load zero p x e = opt.some-ne-none x (sym e)
  none_handed n load (suc k) p x e = opt.some-ne-none x (sym e)
