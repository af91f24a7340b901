-- No session is lost: each one that is made has its seat, or was handed in to one seat.
use Rattle.std.proofs.Common.{◌≡◌, ◌≢◌, ◌⊎◌, inl, inr, ⊎_elim, ℕ, zero, suc, ◌+◌, ◌<◌, ◌≤◌, List, [], ◌∷◌, ◌++◌, length, set, refl, sym, ap, subst, ◌∙◌, arith, length-set, length-append}
use mathlib.Core.Option as opt
use mathlib.Core.Logic.{dite}
use native.Mathlib.Decide.{ℕ_discrete}
use lib.ListN.{get_elem?}
use Rattle.publication.specs.Views.{Handed}
use Rattle.publication.specs.Rule.{blank, maker, new_session, BoardState, seat, IsPresent, ArePresent}
use Rattle.publication.specs.List.{IsRuled}
use Rattle.publication.specs.StepKinds.{copy_of, front_copy_of, joined, handed_in, gathered}
use Rattle.publication.specs.Runs.{IsSeatSplit, IsSeatJoin}
use Rattle.publication.specs.declared.view.View.{View}
use Rattle.publication.proofs.Lists.{at_there, at_pushed, each_set, each_snoc, past_end}
use Rattle.sequential.specs.declared.object.Sequential.{Ghosts}

module _ {A : Type 0} where
  -- An element is there after others were appended, and the last is there.
  pub still_there : (xs ys : List A) (p : ℕ) (x : A) → get_elem? xs p ≡ opt.some x → get_elem? (xs ++ ys) p ≡ opt.some x
  still_there [] ys p x e = absurd (opt.some-ne-none x (sym e))
  still_there (z ∷ zs) ys zero x e = e
  still_there (z ∷ zs) ys (suc p) x e = still_there zs ys p x e

  pub last_there : (xs : List A) (x : A) → get_elem? (xs ++ x ∷ []) (length xs) ≡ opt.some x
  last_there [] x = refl
  last_there (z ∷ zs) x = last_there zs x

module _ {C R : Type 0} where
  -- A seat stays that of the same session, and the same sessions are handed in to it.
  abbrev pub IsAlike : View C R → View C R → Type 0
  IsAlike v w = (w.number ≡ v.number) × (w.others.handed ≡ v.others.handed)

  some_pushed : (xs : List (Handed C R)) (x : Handed C R) → xs ++ x ∷ [] ≡ [] → ⊥
  some_pushed [] x e = cc e
  some_pushed (z ∷ zs) x e = cc e

module _ {O C R : Type 0} where
  module _ (slots : ℕ) (s t : BoardState O C R) where
    -- A session that was there is there, if its seat is alike and whoever was handed in stays so.
    stays : (j : ℕ) → ((seat s j).number ≡ j → (seat t j).number ≡ j) → ((k : ℕ) → (seat t k).others.handed ≡ (seat s k).others.handed) → IsPresent s j → IsPresent t j
    stays j number handed (inl is) = inl (number is)
    stays j number handed (inr h) = inr (h.0, h.1, h.2, ap (λ (l : List (Handed C R)). get_elem? l h.1) (handed h.0) ∙ h.3, h.4)

    same_once : ((k : ℕ) → (seat t k).others.handed ≡ (seat s k).others.handed) → ArePresent slots s
        → (k m p q : ℕ) (x y : Handed C R) → get_elem? (seat t k).others.handed p ≡ opt.some x → get_elem? (seat t m).others.handed q ≡ opt.some y → x.number ≡ y.number → k ≡ m
    same_once handed before k m p q x y a b e = before.once k m p q x y
        (ap (λ (l : List (Handed C R)). get_elem? l p) (sym (handed k)) ∙ a) (ap (λ (l : List (Handed C R)). get_elem? l q) (sym (handed m)) ∙ b) e

    -- All seats are alike.
    pub present_kept : length t.views ≡ length s.views → ((k : ℕ) → IsAlike (seat s k) (seat t k)) → ArePresent slots s → ArePresent slots t
    present_kept long alike before = record {
      each = λ j some small there. stays j (λ is. (alike j).0 ∙ is) (λ k. (alike k).1) (before.each j some small (omega (arith, there, long)));
      apart = λ k live. (alike k).1 ∙ before.apart k (λ none. live ((alike k).0 ∙ none));
      once = same_once (λ k. (alike k).1) before;
    }

    -- There is one seat more, to which none was handed in: a new session's, or one when all are made.
    pub present_more : length t.views ≡ length s.views + 1 → ((k : ℕ) → k ≢ length s.views → IsAlike (seat s k) (seat t k)) → (seat t (length s.views)).others.handed ≡ []
        → (length s.views < slots → (seat t (length s.views)).number ≡ length s.views) → ArePresent slots s → ArePresent slots t
    present_more long alike empty named before = record {
      each = λ j some small there. dite (ℕ_discrete j (length s.views))
          (λ e. inl (ap (λ (k : ℕ). (seat t k).number) e ∙ (named (omega (arith, small, e)) ∙ sym e)))
          (λ ne. stays j (λ is. (alike j ne).0 ∙ is) handed (before.each j some small (omega (arith, there, long, ne))));
      apart = λ k live. dite (ℕ_discrete k (length s.views))
          (λ e. ap (λ (i : ℕ). (seat t i).others.handed) e ∙ empty)
          (λ ne. (alike k ne).1 ∙ before.apart k (λ none. live ((alike k ne).0 ∙ none)));
      once = same_once handed before;
    }
      where
        handed : (k : ℕ) → (seat t k).others.handed ≡ (seat s k).others.handed
        handed k = dite (ℕ_discrete k (length s.views))
            (λ e. ap (λ (i : ℕ). (seat t i).others.handed) e ∙ (empty ∙ (ap (λ (v : View C R). v.others.handed) (sym (past_end s.views blank)) ∙ ap (λ (i : ℕ). (seat s i).others.handed) (sym e))))
            (λ ne. (alike k ne).1)

    -- Seat `other`, of a session, is handed in to seat `id`, which is no session's.
    module _ (id other : ℕ) (x : Handed C R) (live : (seat s other).number ≡ other) (named : x.number ≡ other) (mine : (seat t id).number ≡ 0) (was : (seat s id).number ≡ 0) (none : (seat t other).others.handed ≡ [])
        (more : (seat t id).others.handed ≡ (seat s id).others.handed ++ x ∷ []) (alike : (k : ℕ) → k ≢ id → k ≢ other → IsAlike (seat s k) (seat t k)) (empty : (seat s other).others.handed ≡ [])
        (apart_from : other ≢ id) (new : (k p : ℕ) (y : Handed C R) → get_elem? (seat s k).others.handed p ≡ opt.some y → y.number ≢ other) where
      forth : (k p : ℕ) (y : Handed C R) → get_elem? (seat s k).others.handed p ≡ opt.some y → get_elem? (seat t k).others.handed p ≡ opt.some y
      forth k p y there = dite (ℕ_discrete k id)
          (λ e. subst (λ (i : ℕ). get_elem? (seat s i).others.handed p ≡ opt.some y → get_elem? (seat t i).others.handed p ≡ opt.some y) (sym e)
          (λ at. ap (λ (l : List (Handed C R)). get_elem? l p) more ∙ still_there (seat s id).others.handed (x ∷ []) p y at) there)
          (λ ne. dite (ℕ_discrete k other)
          (λ e. absurd (opt.some-ne-none y (sym there ∙ (ap (λ (i : ℕ). get_elem? (seat s i).others.handed p) e ∙ ap (λ (l : List (Handed C R)). get_elem? l p) empty))))
          (λ not_other. ap (λ (l : List (Handed C R)). get_elem? l p) (alike k ne not_other).1 ∙ there))

      back : (k p : ℕ) (y : Handed C R) → get_elem? (seat t k).others.handed p ≡ opt.some y → (get_elem? (seat s k).others.handed p ≡ opt.some y) ⊎ ((k ≡ id) × (y.number ≡ other))
      back k p y there = dite (ℕ_discrete k id)
          (λ e. ⊎_elim
          (λ old. inl (ap (λ (i : ℕ). get_elem? (seat s i).others.handed p) e ∙ old))
          (λ is. inr (e, ap (λ (z : Handed C R). z.number) (sym is) ∙ named))
          (at_pushed (seat s id).others.handed x p y (ap (λ (l : List (Handed C R)). get_elem? l p) (sym more) ∙ (ap (λ (i : ℕ). get_elem? (seat t i).others.handed p) (sym e) ∙ there))))
          (λ ne. dite (ℕ_discrete k other)
          (λ e. absurd (opt.some-ne-none y (sym there ∙ (ap (λ (i : ℕ). get_elem? (seat t i).others.handed p) e ∙ ap (λ (l : List (Handed C R)). get_elem? l p) none))))
          (λ not_other. inl (ap (λ (l : List (Handed C R)). get_elem? l p) (sym (alike k ne not_other).1) ∙ there)))

      pub present_gathered : length t.views ≡ length s.views → ArePresent slots s → ArePresent slots t
      present_gathered long before = record {
        each = λ j some small there. ⊎_elim
            (λ is. dite (ℕ_discrete j other)
            (λ e. inr (id, length (seat s id).others.handed, x, ap (λ (l : List (Handed C R)). get_elem? l (length (seat s id).others.handed)) more ∙ last_there (seat s id).others.handed x, named ∙ sym e))
            (λ not_other. inl (dite (ℕ_discrete j id)
            (λ e. absurd (omega (arith, some, sym is, ap (λ (k : ℕ). (seat s k).number) e, was)))
            (λ ne. (alike j ne not_other).0 ∙ is))))
            (λ h. inr (h.0, h.1, h.2, forth h.0 h.1 h.2 h.3, h.4))
            (before.each j some small (omega (arith, there, long)));
        apart = λ k some. dite (ℕ_discrete k id)
            (λ e. absurd (some (ap (λ (i : ℕ). (seat t i).number) e ∙ mine)))
            (λ ne. dite (ℕ_discrete k other)
            (λ e. ap (λ (i : ℕ). (seat t i).others.handed) e ∙ none)
            (λ not_other. (alike k ne not_other).1 ∙ before.apart k (λ z. some ((alike k ne not_other).0 ∙ z))));
        once = λ k m p q y z a b e. ⊎_elim
            (λ old. ⊎_elim
            (λ old_too. before.once k m p q y z old old_too e)
            (λ now. absurd (new k p y old (e ∙ now.1)))
            (back m q z b))
            (λ now. ⊎_elim
            (λ old_too. absurd (new m q z old_too (sym e ∙ now.1)))
            (λ now_too. now.0 ∙ sym now_too.0)
            (back m q z b))
            (back k p y a);
      }

module _ {O C R : Type 0} {obj : Ghosts O C R} where
  -- A seat that is no session's afterwards, and to which none is handed in then, was so before, if all others stay as they are:
  -- else a session was lost.
  module _ (s t : BoardState O C R) (r : IsRuled obj s) (q : IsRuled obj t) (homes : t.homes ≡ s.homes) (more : length s.views ≤ length t.views) (k : ℕ) (there : k < length s.views)
      (number_now : (seat t k).number ≡ 0) (none_now : (seat t k).others.handed ≡ []) (gone : (j : ℕ) → j < length s.views → (seat s j).number ≡ 0 → (seat t j).number ≡ 0)
      (back : (j p : ℕ) (x : Handed C R) → j ≢ k → get_elem? (seat t j).others.handed p ≡ opt.some x → get_elem? (seat s j).others.handed p ≡ opt.some x) where
    same_slots : q.records.slots ≡ r.records.slots
    same_slots = sym q.records.homes_are ∙ (ap (λ (l : List (opt.Option _)). length l) homes ∙ r.records.homes_are)

    elsewhere : (j p : ℕ) (x : Handed C R) → get_elem? (seat t j).others.handed p ≡ opt.some x → j ≢ k
    elsewhere j p x at e = opt.some-ne-none x (sym at ∙ (ap (λ (i : ℕ). get_elem? (seat t i).others.handed p) e ∙ ap (λ (l : List (Handed C R)). get_elem? l p) none_now))

    pub no_session : (seat s k).number ≡ 0
    no_session = dite (ℕ_discrete (seat s k).number 0) (λ e. e) (λ live.
        let i = r.records.sessions k live in
        let is = i.is in
        let small = i.small in
        absurd (⊎_elim
        (λ named. live (omega (arith, named, number_now, is)))
        (λ h. let old = back h.0 h.1 h.2 (elsewhere h.0 h.1 h.2 h.3) h.3 in live (ap (λ (j : ℕ). (seat s j).number) (sym h.4) ∙ ((r.records.others h.0).handed h.1 h.2 old).gone))
        (q.records.present.each k (omega (arith, live, is)) (omega (arith, small, same_slots)) (omega (arith, there, more)))))

    pub none_handed : (seat s k).others.handed ≡ []
    none_handed = go (seat s k).others.handed refl
      where
        go : (l : List (Handed C R)) → (seat s k).others.handed ≡ l → l ≡ []
        go [] e = refl
        go (x ∷ xs) e =
            let here : get_elem? (seat s k).others.handed 0 ≡ opt.some x = ap (λ (l : List (Handed C R)). get_elem? l 0) e in
            let d = (r.records.others k).handed 0 x here in
            let some = d.some in
            let small = d.small in
            let far = d.there in
            absurd (⊎_elim
            (λ named. omega (arith, some, named, gone x.number far d.gone))
            (λ h. let away = elsewhere h.0 h.1 h.2 h.3 in
            let same : x.number ≡ h.2.number = sym {b = x.number} h.4 in
            let one : k ≡ h.0 = r.records.present.once k h.0 0 h.1 x h.2 here (back h.0 h.1 h.2 away h.3) same in away (sym one))
            (q.records.present.each x.number some (omega (arith, small, same_slots)) (omega (arith, far, more))))

module _ {O C R : Type 0} where
  -- The views after a split and after a join.

  module _ (s : BoardState O C R) (id : ℕ) (v left right : View C R) (me : get_elem? s.views id ≡ opt.some v) where
    -- The board after the seat was split.
    abbrev pub split_to : BoardState O C R
    split_to = record { words = s.words; homes = s.homes; views = set s.views id left ++ right ∷ [] }

    split_seats : (P : ℕ → View C R → Type 0) → P (length s.views) right → P id left → ((k : ℕ) → k ≢ id → P k (seat s k)) → (k : ℕ) → P k (seat split_to k)
    split_seats P new here else = each_snoc (set s.views id left) right blank P (subst (λ (k : ℕ). P k right) (sym (length-set s.views id left)) new)
        (each_set s.views id left blank P (at_there s.views id v blank me).1 here else)

  module _ (s : BoardState O C R) (id other : ℕ) (v w both : View C R) (me : get_elem? s.views id ≡ opt.some v) (apart_from : ¬ (other ≡ id)) (with : get_elem? s.views other ≡ opt.some w) where
    -- The board after the seats were joined.
    abbrev pub joined_to : BoardState O C R
    joined_to = record { words = s.words; homes = s.homes; views = set (set s.views id both) other blank }

    join_seats : (P : ℕ → View C R → Type 0) → P other blank → P id both → ((k : ℕ) → k ≢ id → k ≢ other → P k (seat s k)) → (k : ℕ) → P k (seat joined_to k)
    join_seats P left here else = each_set (set s.views id both) other blank blank P (let l = length-set s.views id both in let n = (at_there s.views other w blank with).1 in omega (arith, l, n)) left
        (λ j not_other. each_set s.views id both blank (λ i x. i ≢ other → P i x) (at_there s.views id v blank me).1 (λ _. here) (λ i ne not_o. else i ne not_o) j not_other)

    join_long : length (set (set s.views id both) other blank) ≡ length s.views
    join_long = length-set (set s.views id both) other blank ∙ length-set s.views id both

  -- A split of a copy is one of the model.
  pub copies : (s : BoardState O C R) (id : ℕ) (v right : View C R) → get_elem? s.views id ≡ opt.some v → (right ≡ copy_of v) ⊎ (right ≡ front_copy_of v)
      → IsSeatSplit s record { words = s.words; homes = s.homes; views = set s.views id v ++ right ∷ [] }
  copies s id v right me is = record { id = id; view = v; left = v; right = right; seated = me; cut = inr (refl, is); is = refl }

module _ {O C R : Type 0} {obj : Ghosts O C R} where
  -- A split that makes a session is one of the model, if the rule holds before and after.
  pub makes-one : (s : BoardState O C R) (id : ℕ) (v : View C R) → IsRuled obj s → get_elem? s.views id ≡ opt.some v
      → IsRuled obj record { words = s.words; homes = s.homes; views = set s.views id (maker v.slots (v.made + 1)) ++ new_session v.slots (v.made + 1) ∷ [] }
      → IsSeatSplit s record { words = s.words; homes = s.homes; views = set s.views id (maker v.slots (v.made + 1)) ++ new_session v.slots (v.made + 1) ∷ [] }
  makes-one s id v r me q =
      let left : View C R = maker v.slots (v.made + 1) in
      let right : View C R = new_session v.slots (v.made + 1) in
      let t : BoardState O C R = split_to s id v left right me in
      let at = at_there s.views id v blank me in
      let long : length t.views ≡ length s.views + 1 = length-append (set s.views id left) (right ∷ []) ∙ ap (λ (n : ℕ). n + 1) (length-set s.views id left) in
      let here : seat t id ≡ left = split_seats s id v left right me (λ k x. k ≡ id → x ≡ left) (λ e. absurd (omega (arith, e, at.1))) (λ _. refl) (λ k ne e. absurd (ne e)) id refl in
      let gone = split_seats s id v left right me (λ j x. j < length s.views → (seat s j).number ≡ 0 → x.number ≡ 0) (λ lt. absurd (omega (arith, lt))) (λ _ _. refl) (λ k ne lt z. z) in
      let back = split_seats s id v left right me (λ j x. (p : ℕ) (y : Handed C R) → j ≢ id → get_elem? x.others.handed p ≡ opt.some y → get_elem? (seat s j).others.handed p ≡ opt.some y)
      (λ p y ne is. absurd (opt.some-ne-none y (sym is))) (λ p y ne is. absurd (ne refl)) (λ k ne p y _ is. is) in
      let none = no_session s t r q refl (omega (arith, long)) id at.1 (ap (λ (x : View C R). x.number) here) (ap (λ (x : View C R). x.others.handed) here) gone (λ j p x ne. back j p x ne) in
      let empty = none_handed s t r q refl (omega (arith, long)) id at.1 (ap (λ (x : View C R). x.number) here) (ap (λ (x : View C R). x.others.handed) here) gone (λ j p x ne. back j p x ne) in
      record {
        id = id;
        view = v;
        left = left;
        right = right;
        seated = me;
        cut = inl (ap (λ (x : View C R). x.number) (sym at.0) ∙ none, ap (λ (x : View C R). x.others.handed) (sym at.0) ∙ empty, refl, refl);
        is = refl;
      }

  -- So is a join of a copy.
  pub joins-one : (s : BoardState O C R) (id other : ℕ) (v w : View C R) → IsRuled obj s → get_elem? s.views id ≡ opt.some v → ¬ (other ≡ id) → get_elem? s.views other ≡ opt.some w
      → IsRuled obj record { words = s.words; homes = s.homes; views = set (set s.views id (joined v w)) other blank }
      → IsSeatJoin s record { words = s.words; homes = s.homes; views = set (set s.views id (joined v w)) other blank }
  joins-one s id other v w r me apart_from with q =
      let both : View C R = joined v w in
      let t : BoardState O C R = joined_to s id other v w both me apart_from with in
      let mine = at_there s.views id v blank me in
      let at = at_there s.views other w blank with in
      let each = join_seats s id other v w both me apart_from with in
      let long = join_long s id other v w both me apart_from with in
      let here : seat t other ≡ blank = each (λ k x. k ≡ other → x ≡ blank) (λ _. refl) (λ e. absurd (apart_from (sym e))) (λ k a b e. absurd (b e)) other refl in
      let gone = each (λ j x. j < length s.views → (seat s j).number ≡ 0 → x.number ≡ 0) (λ _ _. refl) (λ _ z. ap (λ (x : View C R). x.number) (sym mine.0) ∙ z) (λ k a b lt z. z) in
      let back = each (λ j x. (p : ℕ) (y : Handed C R) → j ≢ other → get_elem? x.others.handed p ≡ opt.some y → get_elem? (seat s j).others.handed p ≡ opt.some y)
      (λ p y ne is. absurd (ne refl)) (λ p y ne is. ap (λ (x : View C R). get_elem? x.others.handed p) mine.0 ∙ is) (λ k a b p y _ is. is) in
      let none = no_session s t r q refl (omega (arith, long)) other at.1 (ap (λ (x : View C R). x.number) here) (ap (λ (x : View C R). x.others.handed) here) gone (λ j p x ne. back j p x ne) in
      let empty = none_handed s t r q refl (omega (arith, long)) other at.1 (ap (λ (x : View C R). x.number) here) (ap (λ (x : View C R). x.others.handed) here) gone (λ j p x ne. back j p x ne) in
      record {
        id = id;
        view = v;
        other = other;
        theirs = w;
        both = both;
        seated = me;
        apart = apart_from;
        beside = with;
        join = inl (refl, ap (λ (x : View C R). x.number) (sym at.0) ∙ none, ap (λ (x : View C R). x.others.handed) (sym at.0) ∙ empty);
        is = refl;
      }

  -- And a join of a session's seat.
  pub gathers-one : (s : BoardState O C R) (id other : ℕ) (v w : View C R) → IsRuled obj s → get_elem? s.views id ≡ opt.some v → ¬ (other ≡ id) → get_elem? s.views other ≡ opt.some w
      → IsRuled obj record { words = s.words; homes = s.homes; views = set (set s.views id (gathered v w)) other blank }
      → IsSeatJoin s record { words = s.words; homes = s.homes; views = set (set s.views id (gathered v w)) other blank }
  gathers-one s id other v w r me apart_from with q =
      let both : View C R = gathered v w in
      let t : BoardState O C R = joined_to s id other v w both me apart_from with in
      let at = at_there s.views other w blank with in
      let each = join_seats s id other v w both me apart_from with in
      let here : seat t id ≡ both = each (λ k x. k ≡ id → x ≡ both) (λ e. absurd (apart_from e)) (λ _. refl) (λ k a b e. absurd (a e)) id refl in
      let now = (q.records.others id).handed (length v.others.handed) (handed_in w)
      (ap (λ (x : View C R). get_elem? x.others.handed (length v.others.handed)) here ∙ last_there v.others.handed (handed_in w)) in
      let some = now.some in
      record {
        id = id;
        view = v;
        other = other;
        theirs = w;
        both = both;
        seated = me;
        apart = apart_from;
        beside = with;
        join = inr (
          refl,
          dite (ℕ_discrete v.number 0) (λ e. e) (λ live. absurd (some_pushed v.others.handed (handed_in w)
              (ap (λ (x : View C R). x.others.handed) (sym here) ∙ q.records.present.apart id (λ none. live (ap (λ (x : View C R). x.number) (sym here) ∙ none))))),
          ap (λ (x : View C R). x.others.handed) (sym at.0) ∙ r.records.present.apart other (λ none. omega (arith, some, none, ap (λ (x : View C R). x.number) at.0)),
        );
        is = refl;
      }
