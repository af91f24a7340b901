-- The splits and joins by which one seat learns what another knows keep the rule.
use Rattle.std.proofs.Common.{◌≡◌, ◌≢◌, ◌⊎◌, inl, inr, ⊎_elim, ℕ, ◌+◌, ◌<◌, ◌≤◌, ◌||◌, Bool, true, false, Some, None, List, [], ◌∷◌, ◌++◌, length, map, get_or, set, sym, refl, ap, ◌∙◌, subst, arith, length-set, length-append, get_or-set_same}
use Rattle.std.proofs.lemmas.List.{get_or_push, map-append}
use mathlib.Core.Option as opt
use mathlib.Core.List.{IsPrefix}
use lib.ListN.{get_elem?}
use Rattle.atomic_table.specs.Table.{Splits, Joins}
use Rattle.sequential.specs.declared.entry.Entry.{Entry}
use Rattle.sequential.specs.Linearizable.{Event}
use Rattle.publication.specs.Pieces.{pieces_of}
use Rattle.publication.specs.Views.{Own, Handed, Others}
use Rattle.publication.specs.Rule.{blank, BoardState, word, home, seat, own_at, announced, RecordState, IsSession, IsMaker, IsHanded, AreTrue, HasPieces, ArePresent, IsOrderly}
use Rattle.publication.specs.List.{belongs, IsLinked, IsRuled}
use Rattle.publication.specs.StepKinds.{copy_with, copy_of, front_copy_of, as_hearer, joined, handed_in, gathered}
use Rattle.publication.specs.declared.view.View.{View}
use Rattle.atomic_table.proofs.Lists.{set_again, set_else}
use Rattle.publication.proofs.Lists.{at_there, at_pushed, each_set, each_snoc, past_end}
use Rattle.publication.proofs.SeatViews.{seat_of, session_of, front_of, heard_few, object_of, whole_of, pieces_of_seat}
use Rattle.publication.proofs.Others.{StaysGone}
use Rattle.publication.proofs.Pieces.{knows_none}
use Rattle.publication.proofs.Present.{IsAlike, present_kept, present_more, present_gathered}
use Rattle.publication.proofs.LongerFronts.{maxes-at}
use Rattle.publication.proofs.NewBoards.{told_nothing}
use Rattle.publication.proofs.ChangedViews.{viewed, Sits, sits-same, sits-others, reviewed}
use Rattle.publication.proofs.UnchangedList.{Keeps, viewed_as, seen_listed, same_listed, same_seat, unseated}
use Rattle.publication.proofs.RecordStates.{idle_belongs}
use Rattle.sequential.specs.declared.object.Sequential.{Ghosts}

module _ {C R : Type 0} where
  -- A seat that learned more is still the seat that makes the sessions, if it was.
  makes_on : (slots seats : ℕ) (v : View C R) (front : List (Entry C R)) (heard : List ℕ) (others : Others C R) → IsMaker slots seats v → IsMaker slots seats (as_hearer v front heard others)
  makes_on slots seats v front heard others t = record { slots_are = t.slots_are; number = t.number; none = t.none; there = t.there; some_slot = t.some_slot; made = t.made }

module _ {O C R : Type 0} {obj : Ghosts O C R} where
  session_on : (s : BoardState O C R) (o : IsOrderly obj s) (k : ℕ) (v : View C R) (front : List (Entry C R)) (heard : List ℕ) (others : Others C R) → IsSession o.slots o.owns k v → IsSession o.slots o.owns k (as_hearer v front heard others)
  session_on s o k v front heard others t = record { own_is = t.own_is; is = t.is; small = t.small; wide = t.wide }

  -- Seat `id` learns more.
  module _ (s : BoardState O C R) (o : IsOrderly obj s) (id : ℕ) (v : View C R) (front : List (Entry C R)) (heard : List ℕ) (others : Others C R) (me : get_elem? s.views id ≡ opt.some v) where
    -- The pieces of the sessions that it knows to be handed in are those that they took.
    abbrev KnowsPieces : Type 0
    KnowsPieces = (p : ℕ) (x : Handed C R) → get_elem? others.handed p ≡ opt.some x → x.pieces ≡ pieces_of x.number o.pieces.all

    -- The view of the seat once it learned more.
    abbrev u : View C R
    u = as_hearer v front heard others

    is_me : seat s id ≡ v
    is_me = (at_there s.views id v blank me).0

    sits_here : (vs : List (View C R)) → IsPrefix front o.history → (v.combiner.has_object ≡ true → front ≡ o.history) → ((j : ℕ) → get_or heard j 0 ≤ announced (own_at o.owns j))
        → AreTrue o.history (viewed s o vs) o.slots o.owns others → KnowsPieces → Sits s o vs id u
    sits_here vs begins whole hears tells took = record {
      front = begins;
      heard = hears;
      others = tells;
      waits = λ some. ap (λ (x : View C R). x.own) (sym is_me) ∙ o.waits id some;
      session = λ some_number. session_on s o id v front heard others (session_of s o id v me some_number);
      object = λ has. let t = object_of s o id v me has in record { lock_is = t.lock_is; session = t.session; named = t.named; whole = whole has };
      combiner = inl (ap (λ (x : View C R). x.combiner) (sym is_me));
      pieces = let p = pieces_of_seat s o id v me in record { own = p.own; handed = took; known = p.known };
    }

    -- A seat that learns a front of the history, and heard counts not above what was announced, keeps the rule of the
    -- records.
    pub learned : others.handed ≡ v.others.handed → IsPrefix front o.history → (v.combiner.has_object ≡ true → front ≡ o.history) → ((j : ℕ) → get_or heard j 0 ≤ announced (own_at o.owns j))
        → AreTrue o.history (viewed s o (set s.views id u)) o.slots o.owns others → KnowsPieces → IsOrderly obj (viewed s o (set s.views id u))
    learned same begins whole hears tells took =
        let kept : others.handed ≡ (seat s id).others.handed = same ∙ ap (λ (x : View C R). x.others.handed) (sym is_me) in
        let vs : List (View C R) = set s.views id u in
        let sits : id < length s.views = (at_there s.views id v blank me).1 in
        let long : length vs ≡ length s.views = length-set s.views id u in
        let gone : StaysGone s (viewed s o vs) o.owns o.owns = λ j some few none. (each_set s.views id u blank (λ j x. (seat s j).number ≡ 0 → x.number ≡ 0) sits (λ z. ap (λ (x : View C R). x.number) (sym is_me) ∙ z) (λ j ne z. z) j none, refl) in
        reviewed s o vs (omega arith)
        (subst (λ (n : ℕ). IsMaker o.slots n (get_or vs 0 blank)) (sym long) (each_set s.views id u blank (λ j x. j ≡ 0 → IsMaker o.slots (length s.views) x) sits
        (λ e. makes_on o.slots (length s.views) v front heard others (subst (λ (x : View C R). IsMaker o.slots (length s.views) x) (ap (seat s) (sym e) ∙ is_me) o.makes))
        (λ j ne e. subst (λ (i : ℕ). IsMaker o.slots (length s.views) (seat s i)) (sym e) o.makes) 0 refl))
        (each_set s.views id u blank (Sits s o vs) sits (sits_here vs begins whole hears tells took) (λ k ne. sits-same s o vs (omega arith) gone k))
        (present_kept o.slots s (viewed s o vs) long (each_set s.views id u blank (λ j x. IsAlike (seat s j) x) sits (ap (λ (x : View C R). x.number) (sym is_me), kept) (λ j ne. (refl, refl))) o.present)

    -- It also takes in seat `other`, which ends.
    module _ (other : ℕ) (w : View C R) (apart_from : ¬ (other ≡ id)) (with : get_elem? (set s.views id u) other ≡ opt.some w) where
      -- The views after the join.
      abbrev pub joint : List (View C R)
      joint = set (set s.views id u) other blank

      -- The other seat's view before the join.
      pub there : get_elem? s.views other ≡ opt.some w
      there = sym (set_else s.views id other u apart_from) ∙ with

      -- The other seat has view w.
      pub is_other : seat s other ≡ w
      is_other = (at_there s.views other w blank there).0

      sits_other : other < length (set s.views id u)
      sits_other = (at_there (set s.views id u) other w blank with).1

      -- A join doesn't change the number of seats.
      pub long_joint : length joint ≡ length s.views
      long_joint = length-set (set s.views id u) other blank ∙ length-set s.views id u

      pub each : (P : ℕ → View C R → Type 0) → P other blank → P id u → ((j : ℕ) → j ≢ id → j ≢ other → P j (seat s j)) → (j : ℕ) → P j (get_or joint j blank)
      each P left here else = each_set (set s.views id u) other blank blank P sits_other left
          (λ j not_other. each_set s.views id u blank (λ i x. i ≢ other → P i x) (at_there s.views id v blank me).1 (λ _. here) (λ i not_me not_o. else i not_me not_o) j not_other)

      -- A join gives no seat a session.
      pub gone_joint : StaysGone s (viewed s o joint) o.owns o.owns
      gone_joint j some few none = (each (λ j x. (seat s j).number ≡ 0 → x.number ≡ 0) (λ _. refl) (λ z. ap (λ (x : View C R). x.number) (sym is_me) ∙ z) (λ j a b z. z) j none, refl)

      -- The join keeps the rule of the records.
      pub merged : other ≢ 0 → w.own.pending ≡ None → w.combiner.has_object ≡ false → IsPrefix front o.history → (v.combiner.has_object ≡ true → front ≡ o.history) → ((j : ℕ) → get_or heard j 0 ≤ announced (own_at o.owns j))
          → AreTrue o.history (viewed s o joint) o.slots o.owns others → KnowsPieces → ArePresent o.slots (viewed s o joint) → IsOrderly obj (viewed s o joint)
      merged not_first settled no_object begins whole hears tells took present =
          let long = long_joint in
          reviewed s o joint (omega arith)
          (subst (λ (n : ℕ). IsMaker o.slots n (get_or joint 0 blank)) (sym long) (each (λ j x. j ≡ 0 → IsMaker o.slots (length s.views) x) (λ e. absurd (not_first e))
          (λ e. makes_on o.slots (length s.views) v front heard others (subst (λ (x : View C R). IsMaker o.slots (length s.views) x) (ap (seat s) (sym e) ∙ is_me) o.makes))
          (λ j a b e. subst (λ (i : ℕ). IsMaker o.slots (length s.views) (seat s i)) (sym e) o.makes) 0 refl))
          (each (Sits s o joint)
          (record {
            front = (o.history, refl);
            heard = λ j. omega arith;
            others = told_nothing o.history (viewed s o joint) o.slots o.owns false (λ e. absurd (cc e));
            waits = λ some. absurd (some (ap (λ (y : Own C R). y.pending) (sym (o.waits other some)) ∙ (ap (λ (x : View C R). x.own.pending) is_other ∙ settled)));
            session = λ some_number. absurd (some_number refl);
            object = λ e. absurd (cc e);
            combiner = inr (ap (λ (x : View C R). x.combiner.has_object) is_other ∙ no_object, refl);
            pieces = knows_none o.pieces.all blank refl refl refl;
          })
          (sits_here joint begins whole hears tells took) (λ k a b. sits-same s o joint (omega arith) gone_joint k))
          present

module _ {O C R : Type 0} where
  -- A seat that learns doesn't change the publication list.
  pub learned_listed : (s : BoardState O C R) (l : IsLinked s) (id : ℕ) (v : View C R) (front : List (Entry C R)) (heard : List ℕ) (others : Others C R) → get_elem? s.views id ≡ opt.some v
      → IsLinked record { words = s.words; homes = s.homes; views = set s.views id (as_hearer v front heard others) }
  learned_listed s l id v front heard others me =
      let u : View C R = as_hearer v front heard others in
      let vs : List (View C R) = set s.views id u in
      seen_listed s l vs (each_set s.views id u blank (Keeps s (viewed_as s l vs) l) (at_there s.views id v blank me).1
      (same_listed s l vs id v u (at_there s.views id v blank me).0 refl refl refl)
      (λ j ne. same_seat s (viewed_as s l vs) l j (λ b some. refl)))

  -- Nor does joining another seat in, if that seat's record, with no call listed, has to be on the list, or off it,
  -- only if it had to before.
  merged_listed : (s : BoardState O C R) (l : IsLinked s) (id : ℕ) (v : View C R) (front : List (Entry C R)) (heard : List ℕ) (others : Others C R) (other : ℕ) (w : View C R) → get_elem? s.views id ≡ opt.some v
      → get_elem? (set s.views id (as_hearer v front heard others)) other ≡ opt.some w → ((b : Bool) → 0 < other → belongs (word s other) false ≡ Some b → belongs (word s other) (seat s other).own.listed ≡ Some b)
      → IsLinked record { words = s.words; homes = s.homes; views = set (set s.views id (as_hearer v front heard others)) other blank }
  merged_listed s l id v front heard others other w me with claims =
      let u : View C R = as_hearer v front heard others in
      let vs : List (View C R) = set (set s.views id u) other blank in
      seen_listed s l vs (each_set (set s.views id u) other blank blank (Keeps s (viewed_as s l vs) l) (at_there (set s.views id u) other w blank with).1
      (record { claims = claims; heads_seen = λ n is. absurd (cc is); walkers = λ has. absurd (cc has) })
      (λ j not_other. each_set s.views id u blank (λ i x. Keeps s (viewed_as s l vs) l i x) (at_there s.views id v blank me).1
      (same_listed s l vs id v u (at_there s.views id v blank me).0 refl refl refl)
      (λ i ne. same_seat s (viewed_as s l vs) l i (λ b some. refl)) j))

either_of : (a b : Bool) → a || b ≡ true → (a ≡ true) ⊎ (b ≡ true)
either_of true b e = inl refl
either_of false b e = inr e

module _ {O C R : Type 0} {obj : Ghosts O C R} where
  -- Join copy: a copy of what another seat knows is joined in.
  pub joins_copy : (id : ℕ) (v : View C R) (other : ℕ) (w : View C R) → w.number ≡ 0 → w.others.handed ≡ [] → w.slots ≡ 0 → w.combiner.has_object ≡ false → (w.own.pending ≡ None) × (w.own.listed ≡ false) → Joins (IsRuled obj) id v other w (joined v w) blank
  joins_copy id v other w no_number none_handed no_slots no_object idle s r me apart_from with =
      let o = r.records in
      let k : Others C R = (joined v w).others in
      let hs : List ℕ = (joined v w).heard in
      let w_is : seat s other ≡ w = is_other s o id v v.front hs k me other w apart_from with in
      let long = long_joint s o id v v.front hs k me other w apart_from with in
      let vs : List (View C R) = joint s o id v v.front hs k me other w apart_from with in
      let was : AreTrue o.history (viewed s o vs) o.slots o.owns v.others = subst (λ (x : View C R). AreTrue o.history (viewed s o vs) o.slots o.owns x.others) (seat_of s o id v me) (sits-others s o vs (omega arith) (gone_joint s o id v v.front hs k me other w apart_from with) id) in
      let theirs : AreTrue o.history (viewed s o vs) o.slots o.owns w.others = subst (λ (x : View C R). AreTrue o.history (viewed s o vs) o.slots o.owns x.others) w_is (sits-others s o vs (omega arith) (gone_joint s o id v v.front hs k me other w apart_from with) other) in
      record {
        records =
            merged s o id v v.front hs k me other w apart_from with
            (λ e. let z : w.slots ≡ o.slots = ap (λ (x : View C R). x.slots) (sym w_is) ∙ (ap (λ (j : ℕ). (seat s j).slots) e ∙ o.makes.slots_are) in omega (arith, o.makes.some_slot))
            idle.0 no_object (front_of s o id v me) (whole_of s o id v me)
            (λ j. let a = heard_few s o id v me j in let b : get_or w.heard j 0 ≤ announced (own_at o.owns j) = subst (λ (x : View C R). get_or x.heard j 0 ≤ announced (own_at o.owns j)) w_is (o.heard other j) in
            let c = maxes-at v.heard w.heard j in omega arith)
            (record {
              all_made = λ is. ⊎_elim was.all_made theirs.all_made (either_of v.others.all_made w.others.all_made is);
              beside = subst (λ (x : View C R). IsPrefix x.front o.history) w_is (o.fronts other);
              handed = was.handed;
              logged = was.logged;
            })
            (pieces_of_seat s o id v me).handed
            (present_kept o.slots s (viewed s o vs) long
            (each s o id v v.front hs k me other w apart_from with (λ j x. IsAlike (seat s j) x)
            (sym (ap (λ (x : View C R). x.number) w_is ∙ no_number), sym (ap (λ (x : View C R). x.others.handed) w_is ∙ none_handed))
            (ap (λ (x : View C R). x.number) (sym (seat_of s o id v me)), ap (λ (x : View C R). x.others.handed) (sym (seat_of s o id v me))) (λ j a b. (refl, refl))) o.present);
        list = merged_listed s r.list id v v.front hs k other w me with (λ b some is.
            ap (λ (y : View C R). belongs (word s other) y.own.listed) w_is ∙ (ap (λ (y : Bool). belongs (word s other) y) idle.1 ∙ is));
      }

  -- Gather: the seat of a session is joined in.
  pub gathers : (id : ℕ) (v : View C R) (other : ℕ) (w : View C R) → v.number ≡ 0 → w.number ≢ 0 → w.own.pending ≡ None → w.combiner.has_object ≡ false → Joins (IsRuled obj) id v other w (gathered v w) blank
  gathers id v other w no_number some_number settled no_object s r me apart_from with =
      let o = r.records in
      let k : Others C R = (gathered v w).others in
      let w_is : seat s other ≡ w = is_other s o id v v.front v.heard k me other w apart_from with in
      let long = long_joint s o id v v.front v.heard k me other w apart_from with in
      let vs : List (View C R) = joint s o id v v.front v.heard k me other w apart_from with in
      let was : AreTrue o.history (viewed s o vs) o.slots o.owns v.others = subst (λ (x : View C R). AreTrue o.history (viewed s o vs) o.slots o.owns x.others) (seat_of s o id v me) (sits-others s o vs (omega arith) (gone_joint s o id v v.front v.heard k me other w apart_from with) id) in
      let t : IsSession o.slots o.owns other w = subst (λ (x : View C R). x.number ≢ 0 → IsSession o.slots o.owns other x) w_is (o.sessions other) some_number in
      let far : other < length s.views = (at_there s.views other w blank (there s o id v v.front v.heard k me other w apart_from with)).1 in
      let own_is : own_at o.owns w.number ≡ w.own = ap (own_at o.owns) t.is ∙ sym t.own_is in
      let now : IsHanded o.history (viewed s o vs) o.slots o.owns (handed_in w) = record {
        some = omega arith;
        small = omega (arith, t.is, t.small);
        there = omega (arith, t.is);
        gone = ap (λ (j : ℕ). (get_or vs j blank).number) t.is ∙ ap (λ (x : View C R). x.number) (get_or-set_same (set s.views id (gathered v w)) other blank blank (at_there (set s.views id (gathered v w)) other w blank with).1);
        settled = ap (λ x. x.pending) own_is ∙ settled;
        collected = ap (λ x. x.collected) own_is;
        begins = subst (λ (x : View C R). IsPrefix x.front o.history) w_is (o.fronts other);
      } in
      let v_is : seat s id ≡ v = seat_of s o id v me in
      let seats = each s o id v v.front v.heard k me other w apart_from with in
      let mine : get_or vs id blank ≡ gathered v w = seats (λ j x. j ≡ id → x ≡ gathered v w) (λ e. absurd (apart_from e)) (λ _. refl) (λ j a b e. absurd (a e)) id refl in
      let theirs : get_or vs other blank ≡ blank = seats (λ j x. j ≡ other → x ≡ blank) (λ _. refl) (λ e. absurd (apart_from (sym e))) (λ j a b e. absurd (b e)) other refl in
      let took_now : w.pieces.own ≡ pieces_of w.number o.pieces.all = (subst (HasPieces o.pieces.all) w_is (o.pieces.seats other)).own some_number in
      let stands : RecordState o.history other (word s other) (home s other) w.own = subst (λ (y : Own C R). RecordState o.history other (word s other) (home s other) y) (sym t.own_is) (o.stands other (omega (arith, t.is)) t.small) in
      record {
        records =
            merged s o id v v.front v.heard k me other w apart_from with
            (λ e. some_number (omega (arith, t.is)))
            settled no_object (front_of s o id v me) (whole_of s o id v me) (heard_few s o id v me)
            (record {
              all_made = was.all_made;
              beside = was.beside;
              handed = λ p x at. ⊎_elim (was.handed p x) (λ new. subst (IsHanded o.history (viewed s o vs) o.slots o.owns) new now) (at_pushed v.others.handed (handed_in w) p x at);
              logged = ap (λ (l : List (ℕ × List (ℕ × Event C R))). l ++ (w.number, w.own.log) ∷ []) was.logged
                  ∙ (ap (λ (y : Own C R). map (λ (x : Handed C R). (x.number, (own_at o.owns x.number).log)) v.others.handed ++ (w.number, y.log) ∷ []) (sym own_is)
                  ∙ sym (map-append (λ (x : Handed C R). (x.number, (own_at o.owns x.number).log)) v.others.handed (handed_in w ∷ [])));
            })
            (λ p x at. ⊎_elim ((pieces_of_seat s o id v me).handed p x) (λ new. subst (λ (y : Handed C R). y.pieces ≡ pieces_of y.number o.pieces.all) new took_now) (at_pushed v.others.handed (handed_in w) p x at))
            (present_gathered o.slots s (viewed s o vs) id other (handed_in w) (ap (λ (x : View C R). x.number) w_is ∙ t.is) t.is
            (ap (λ (x : View C R). x.number) mine ∙ no_number) (ap (λ (x : View C R). x.number) v_is ∙ no_number) (ap (λ (x : View C R). x.others.handed) theirs)
            (ap (λ (x : View C R). x.others.handed) mine ∙ ap (λ (x : View C R). x.others.handed ++ handed_in w ∷ []) (sym v_is))
            (λ j a b. seats (λ i x. i ≢ id → i ≢ other → IsAlike (seat s i) x) (λ _ ne. absurd (ne refl)) (λ ne _. absurd (ne refl)) (λ i c d _ _. (refl, refl)) j a b)
            (o.present.apart other (λ none. some_number (ap (λ (x : View C R). x.number) (sym w_is) ∙ none)))
            apart_from
            (λ j p y at e. some_number (ap (λ (x : View C R). x.number) (sym w_is) ∙ (ap (λ (i : ℕ). (seat s i).number) (sym e) ∙ ((o.others j).handed p y at).gone)))
            long o.present);
        list = merged_listed s r.list id v v.front v.heard k other w me with (λ b some is.
            ap (λ (y : View C R). belongs (word s other) y.own.listed) w_is ∙ idle_belongs stands settled false w.own.listed b is);
      }

  -- A new seat has a copy of the front that the seat knows, with numbers of calls that were announced.
  splits_with : (id : ℕ) (v : View C R) (heard : List ℕ) → v.others.all_made ≡ true
      → ((s : BoardState O C R) (o : IsOrderly obj s) → get_elem? s.views id ≡ opt.some v → (j : ℕ) → get_or heard j 0 ≤ announced (own_at o.owns j)) → Splits (IsRuled obj) id v v (copy_with v heard)
  splits_with id v heard all_made few s r me =
      let o = r.records in let l = r.list in
      let v_is : seat s id ≡ v = (at_there s.views id v blank me).0 in
      let enough : o.slots ≤ length s.views = (o.others id).all_made (ap (λ (x : View C R). x.others.all_made) v_is ∙ all_made) in
      let b : View C R = copy_with v heard in let vs : List (View C R) = s.views ++ b ∷ [] in
      let long : length vs ≡ length s.views + 1 = length-append s.views (b ∷ []) in
      let each : (P : ℕ → View C R → Type 0) → P (length s.views) b → ((k : ℕ) → P k (seat s k)) → (k : ℕ) → P k (get_or vs k blank) = λ P new else. each_snoc s.views b blank P new else in
      let gone : StaysGone s (viewed s o vs) o.owns o.owns = λ j some few none. (each (λ j x. (seat s j).number ≡ 0 → x.number ≡ 0) (λ _. refl) (λ j z. z) j none, refl) in
      subst (λ (us : List (View C R)). IsRuled obj record { words = s.words; homes = s.homes; views = us ++ b ∷ [] }) (sym (set_again s.views id v me)) (record {
        records = reviewed s o vs (omega arith)
            (subst (λ (x : View C R). IsMaker o.slots (length vs) x) (sym (first_kept s.views b o.makes.there)) (let t = o.makes in record { slots_are = t.slots_are; number = t.number; none = t.none; there = omega arith; some_slot = t.some_slot; made = λ few. absurd (let q = t.made few in omega arith) }))
            (each (Sits s o vs)
            (record {
              front = front_of s o id v me;
              heard = few s o me;
              others = told_nothing o.history (viewed s o vs) o.slots o.owns true (λ _. omega arith);
              waits = λ some. absurd (some (ap (λ (y : Own C R). y.pending) (o.unmade (length s.views) (omega arith))));
              session = λ some_number. absurd (some_number refl);
              object = λ e. absurd (cc e);
              combiner = inr (ap (λ (x : View C R). x.combiner.has_object) (past_end s.views blank), refl);
              pieces = knows_none o.pieces.all b refl refl refl;
            })
            (sits-same s o vs (omega arith) gone))
            (present_more o.slots s (viewed s o vs) long (λ j ne. each (λ i x. i ≢ length s.views → IsAlike (seat s i) x) (λ z. absurd (z refl)) (λ i _. (refl, refl)) j ne)
            (ap (λ (x : View C R). x.others.handed) (get_or_push s.views b blank (length s.views) refl)) (λ few. absurd (omega (arith, few, enough))) o.present);
        list = seen_listed s l vs (each (Keeps s (viewed_as s l vs) l)
            (unseated s l vs (length s.views) b (ap (λ (x : View C R). x.own.listed) (sym (past_end s.views blank))) refl refl)
            (λ j. same_seat s (viewed_as s l vs) l j (λ c some. refl)));
      })
    where
      first_kept : (l : List (View C R)) (b : View C R) → 0 < length l → get_or (l ++ b ∷ []) 0 blank ≡ get_or l 0 blank
      first_kept [] b h = absurd (omega arith)
      first_kept (x ∷ xs) b h = refl

  -- Split copy: a new seat has a copy of what the seat knows.
  pub splits_copy : (id : ℕ) (v : View C R) → v.others.all_made ≡ true → Splits (IsRuled obj) id v v (copy_of v)
  splits_copy id v all_made = splits_with id v v.heard all_made (λ s o me. heard_few s o id v me)

  -- Split front: a new seat has a copy of the front that the seat knows.
  pub splits_front : (id : ℕ) (v : View C R) → v.others.all_made ≡ true → Splits (IsRuled obj) id v v (front_copy_of v)
  splits_front id v all_made = splits_with id v [] all_made (λ s o me j. omega arith)
