-- The laws of the publication list.
use Rattle.std.proofs.Common.{◌≡◌, ◌≢◌, ◌⊎◌, inl, inr, ⊎_elim, ℕ, zero, suc, ◌+◌, ◌<◌, ◌≤◌, ◌==◌, Bool, true, false, cond, Some, None, List, [], ◌∷◌, ◌++◌, length, drop, replicate, get_or, set, sym, refl, ap, ◌∙◌, subst, arith, append_assoc, eq-eqb, ne_eqb, length-set, get_or-set_other, get_or-set_same}
use Rattle.std.proofs.lemmas.List.{length-map, length-replicate}
use mathlib.Core.Option as opt
use mathlib.Core.Logic.{dite}
use native.Mathlib.Decide.{ℕ_discrete}
use Rattle.std.specs.Global.{Box}
use Rattle.sequential.specs.declared.entry.Entry.{Entry}
use Rattle.publication.specs.Words.{link_of, END, FREE, CLOSED}
use Rattle.publication.specs.Views.{Own}
use Rattle.publication.specs.Rule.{blank, BoardState, word, home, seat, own_at, RecordState, IsRetired, IsSession}
use Rattle.publication.specs.Rule.RecordState.{vacant, posted, busy, served, retired}
use Rattle.publication.specs.List.{IsOn, AreApart, head_of, first_of, behind, without, with_behind, Chain, link, belongs, is_listed, IsUnlinked, IsWalking, IsLinked, IsRuled}
use Rattle.publication.specs.PublicationList.{IsPublicationList, HasRoomForEnd, HasPending, IsUnlinkedNow, WritesHeadAsEnlist, met_from}
use Rattle.publication.specs.BoardHistory.{new_board}
use Rattle.publication.specs.Runs.{StepName, IsStep, IsSeatSplit, IsSeatJoin, IsMove, IsRun, stop, move}
use Rattle.publication.specs.declared.view.View.{View}
use Rattle.publication.specs.declared.slot.Load.{Load}
use Rattle.publication.specs.declared.slot.SlotValue.{SlotValue}
use Rattle.publication.specs.declared.slot.SlotValue.TheVariants.{Empty}
use Rattle.publication.proofs.Lists.{at_there}
use Rattle.publication.proofs.Chains.{chain_same, chain_head, on_right}
use Rattle.publication.proofs.RecordStates.{vacant_word, waiting_belongs}
use Rattle.sequential.specs.declared.object.Sequential.{Ghosts}

-- One list.

-- Two chains of the same links from the same number on, without END among their records, are the same list.
pub one_chain : (f : ℕ → ℕ) (k : ℕ) (xs ys : List ℕ) → (IsOn END xs → ⊥) → (IsOn END ys → ⊥) → Chain f k xs → Chain f k ys → xs ≡ ys
one_chain f k [] [] no_x no_y c d = refl
one_chain f k [] (y ∷ ys) no_x no_y c d = absurd (no_y (inl (sym c ∙ d.0)))
one_chain f k (x ∷ xs) [] no_x no_y c d = absurd (no_x (inl (sym d ∙ c.0)))
one_chain f k (x ∷ xs) (y ∷ ys) no_x no_y c d =
    let e : x ≡ y = sym c.0 ∙ d.0 in
    let r = one_chain f (f x) xs ys (λ on. no_x (inr on)) (λ on. no_y (inr on)) c.1 (subst (λ (n : ℕ). Chain f (f n) ys) (sym e) d.1) in
    cc (e, r)

module _ {O C R : Type 0} where
  -- END is on no publication list.
  pub no_end : (s : BoardState O C R) (list : List ℕ) → HasRoomForEnd s → IsPublicationList s list → IsOn END list → ⊥
  no_end s list few p on = let r = p.within END on in omega (arith, r.1, few)

  -- The list of the rule is a publication list.
  pub ruled_list : (s : BoardState O C R) (l : IsLinked s) → IsPublicationList s l.list
  ruled_list s l = record { chain = l.chain; apart = l.apart; within = l.within }

  -- A state has one publication list.
  pub one_list : (s : BoardState O C R) (xs ys : List ℕ) → HasRoomForEnd s → IsPublicationList s xs → IsPublicationList s ys → xs ≡ ys
  one_list s xs ys few p q = one_chain (link s) (link s 0) xs ys (no_end s xs few p) (no_end s ys few q) p.chain q.chain

  -- A new board for fewer sessions than END has room for it.
  pub opens_with_room : (n : ℕ) (load : Box (Load O C R)) → n + 1 ≤ END → HasRoomForEnd (new_board n load)
  opens_with_room n load few = omega (arith, few, length-map {A = SlotValue O C R} (replicate n Empty) opt.some, length-replicate {A = SlotValue O C R} n Empty)

module _ {O C R : Type 0} {obj : Ghosts O C R} where
  -- Pending calls.

  module _ (s : BoardState O C R) (r : IsRuled obj s) (few : HasRoomForEnd s) (list : List ℕ) (is : IsPublicationList s list) where
    pub same_list : r.list.list ≡ list
    same_list = one_list s r.list.list list few (ruled_list s r.list) is

    claims : (j : ℕ) (b : Bool) → HasPending s j b → is_listed s j ≡ Some b
    claims j b p =
        let k = r.records.sessions j (λ z. omega (arith, z, p.named, p.some)) in
        ap (λ (w : Own C R). belongs (word s j) w.listed) k.own_is
        ∙ (waiting_belongs (r.records.stands j p.some k.small) (λ none. p.waits (ap (λ (w : Own C R). w.pending) k.own_is ∙ none)) (own_at r.records.owns j).listed
        ∙ (ap (λ (w : Own C R). Some w.listed) (sym k.own_is) ∙ ap (λ (x : Bool). Some x) p.listed_is))

    pub unlinked_now : (j : ℕ) → 0 < j → j ≡ r.list.off → IsUnlinkedNow s j
    unlinked_now j some e =
        let taken : word s 0 ≢ FREE = λ free. omega (arith, some, e, r.list.whole free) in
        (taken, (r.list.walkers (word s 0) (r.records.taken taken).0).off_is ∙ sym e)

    -- A listed pending call's record is on the list, or is the one that the combiner has unlinked.
    pub found : (j : ℕ) → HasPending s j true → IsOn j list ⊎ IsUnlinkedNow s j
    found j p = ⊎_elim (λ on. inl (subst (IsOn j) same_list on)) (λ (e : j ≡ r.list.off). inr (unlinked_now j p.some e)) (r.list.ons j p.some (claims j true p))

    -- While the lock word is FREE it is on the list.
    pub found_free : word s 0 ≡ FREE → (j : ℕ) → HasPending s j true → IsOn j list
    found_free free j p = ⊎_elim (λ on. on) (λ u. absurd (u.0 free)) (found j p)

    -- An unlisted pending call's record isn't on the list.
    pub not_found : (j : ℕ) → HasPending s j false → IsOn j list → ⊥
    not_found j p on = (r.list.offs j p.some (claims j false p)).0 (subst (IsOn j) (sym same_list) on)

    -- The unlinked record.

    module _ (k : ℕ) (has : (seat s k).combiner.has_object ≡ true) where
      walk : IsWalking r.list.list r.list.off r.list.before (seat s k).listing
      walk = r.list.walkers k has

      -- What the combiner knows of the record that it has unlinked.
      pub gap : (seat s k).listing.off ≢ 0 → IsUnlinked (link s) (length s.homes) list (seat s k).listing.off (seat s k).listing.before
      gap some =
          let not_none : r.list.off ≢ 0 = λ z. some (walk.off_is ∙ z) in
          subst (λ (xs : List ℕ). IsUnlinked (link s) (length s.homes) xs (seat s k).listing.off (seat s k).listing.before) same_list
          (subst (λ (o : ℕ). IsUnlinked (link s) (length s.homes) r.list.list o (seat s k).listing.before) (sym walk.off_is)
          (subst (λ (b : ℕ). IsUnlinked (link s) (length s.homes) r.list.list r.list.off b) (sym (walk.before_is not_none)) (r.list.unlinked not_none)))

      -- The combiner's route is the end of the list.
      pub route_ends : (new : List ℕ) × (list ≡ new ++ (seat s k).listing.route)
      route_ends = (walk.new, sym same_list ∙ walk.list_is)

-- A list whose end begins with its own first record has nothing in front.
whole_end : (f : ℕ → ℕ) (k : ℕ) (new route : List ℕ) → Chain f k (new ++ route) → AreApart (new ++ route) → (IsOn END (new ++ route) → ⊥) → k ≡ head_of route → new ++ route ≡ route
whole_end f k [] route c a none e = refl
whole_end f k (x ∷ xs) [] c a none e = absurd (none (inl (sym e ∙ c.0)))
whole_end f k (x ∷ xs) (y ∷ ys) c a none e = absurd (a.0 (on_right x xs (y ∷ ys) (inl (sym c.0 ∙ e))))

module _ {O C R : Type 0} {obj : Ghosts O C R} where
  -- If the head word names the route's first record, the route is the whole list.
  pub whole_route : (s : BoardState O C R) (k : ℕ) → IsRuled obj s → HasRoomForEnd s → (seat s k).combiner.has_object ≡ true → link s 0 ≡ head_of (seat s k).listing.route → IsPublicationList s (seat s k).listing.route
  whole_route s k r few has first =
      let p = ruled_list s r.list in
      let w = r.list.walkers k has in
      let q : IsPublicationList s (w.new ++ (seat s k).listing.route) = subst (IsPublicationList s) w.list_is p in
      subst (IsPublicationList s) (whole_end (link s) (link s 0) w.new (seat s k).listing.route q.chain q.apart (no_end s (w.new ++ (seat s k).listing.route) few q) first) q

-- The first record.

-- Without the record behind another, the first record is the first.
pub first_without : (q : ℕ) (list : List ℕ) → first_of (without q list) ≡ first_of list
first_without q [] = refl
first_without q (x ∷ xs) = by_test (q == x)
  where
    by_test : (b : Bool) → first_of (cond b (x ∷ drop 1 xs) (x ∷ without q xs)) ≡ Some x
    by_test true = refl
    by_test false = refl

-- With a record inserted behind another, the first record is the first.
pub first_with : (q w : ℕ) (list : List ℕ) → first_of (with_behind q w list) ≡ first_of list
first_with q w [] = refl
first_with q w (x ∷ xs) = by_test (q == x)
  where
    by_test : (b : Bool) → first_of (cond b (x ∷ w ∷ xs) (x ∷ with_behind q w xs)) ≡ Some x
    by_test true = refl
    by_test false = refl

-- Lists with the same value of the word in front have the same first record.
same_first : (xs ys : List ℕ) → (IsOn END xs → ⊥) → (IsOn END ys → ⊥) → head_of xs ≡ head_of ys → first_of xs ≡ first_of ys
same_first [] [] no_x no_y e = refl
same_first [] (y ∷ ys) no_x no_y e = absurd (no_y (inl e))
same_first (x ∷ xs) [] no_x no_y e = absurd (no_x (inl (sym e)))
same_first (x ∷ xs) (y ∷ ys) no_x no_y e = ap (λ (n : ℕ). Some n) e

-- The head word never names number 0.
head_some : (f : ℕ → ℕ) (k : ℕ) (list : List ℕ) → ((q : ℕ) → IsOn q list → 0 < q) → Chain f k list → k ≢ 0
head_some f k [] some c z = omega (arith, c, z)
head_some f k (x ∷ xs) some c z = omega (arith, some x (inl refl), c.0, z)

-- The head word names record n, whose link names the record that was the first: n is in front of the whole list.
in_front : (f g : ℕ → ℕ) (n : ℕ) (now later : List ℕ) → n ≢ END → (IsOn END now → ⊥) → (IsOn END later → ⊥) → ((q : ℕ) → IsOn q later → 0 < q) → ((j : ℕ) → 0 < j → g j ≡ f j)
    → g 0 ≡ n → f n ≡ f 0 → Chain f (f 0) now → Chain g (g 0) later → later ≡ n ∷ now
in_front f g n now [] other no_now no_later some same head next c d = absurd (other (sym head ∙ d))
in_front f g n now (x ∷ xs) other no_now no_later some same head next c d =
    let here : x ≡ n = sym d.0 ∙ head in
    let rest : Chain f (g x) xs = chain_same g f (g x) xs (λ q on. same q (some q (inr on))) d.1 in
    let begins : g x ≡ f 0 = same x (some x (inl refl)) ∙ (ap f here ∙ next) in
    let r = one_chain f (f 0) xs now (λ on. no_later (inr on)) no_now (subst (λ (k : ℕ). Chain f k xs) begins rest) c in
    cc (here, r)

module _ {O C R : Type 0} {obj : Ghosts O C R} where
  module _ (name : StepName C R) (s t : BoardState O C R) (r : IsRuled obj s) (q : IsRuled obj t) (c : IsStep obj name s t) where
    words_after : t.words ≡ set s.words c.at c.put
    words_after = ap (λ (x : BoardState O C R). x.words) c.is

    -- A step changes no number of slots.
    pub homes_kept : length t.homes ≡ length s.homes
    homes_kept = omega (arith, q.records.homes_are, q.records.words_are, r.records.homes_are, r.records.words_are, ap {B = ℕ} (λ (l : List ℕ). length l) words_after, length-set s.words c.at c.put)

    -- A link that isn't written is as before.
    link_kept : (j : ℕ) → c.at ≢ link_of j → link t j ≡ link s j
    link_kept j ne = ap (λ (l : List ℕ). get_or l (link_of j) 0) words_after ∙ get_or-set_other s.words c.at (link_of j) c.put 0 (λ e. ne (sym e))

    -- The head word has the value that is written there.
    head_written : c.at ≡ link_of 0 → link t 0 ≡ c.put
    head_written e = ap (λ (l : List ℕ). get_or l (link_of 0) 0) words_after
        ∙ (ap (λ (i : ℕ). get_or (set s.words i c.put) (link_of 0) 0) e
        ∙ get_or-set_same s.words (link_of 0) c.put 0 (omega (arith, r.records.words_are, r.records.makes.some_slot)))

    module _ (few : HasRoomForEnd s) (now later : List ℕ) (is : IsPublicationList s now) (then_is : IsPublicationList t later) where
      room : HasRoomForEnd t
      room = omega (arith, few, homes_kept)

      kept : link t 0 ≡ link s 0 → first_of later ≡ first_of now
      kept e = same_first later now (no_end t later room then_is) (no_end s now few is)
          (sym (chain_head (link t) (link t 0) later then_is.chain) ∙ (e ∙ chain_head (link s) (link s 0) now is.chain))

      pushed : c.at ≡ link_of 0 → c.put ≡ c.before.0.number → c.before.0.listing.head_seen ≡ Some (link s 0) → later ≡ c.before.0.number ∷ now
      pushed at put noted =
          let v : View C R = c.before.0 in
          let seat_is : seat s c.id ≡ v = (at_there s.views c.id v blank c.seated).0 in
          let head : link t 0 ≡ v.number = head_written at ∙ put in
          let live : v.number ≢ 0 = λ z. head_some (link t) (link t 0) later (λ p on. (then_is.within p on).0) then_is.chain (head ∙ z) in
          let session = r.records.sessions c.id (λ z. live (ap (λ (x : View C R). x.number) (sym seat_is) ∙ z)) in
          let same : v.number ≡ c.id = ap (λ (x : View C R). x.number) (sym seat_is) ∙ session.is in
          let seen = r.list.heads_seen c.id (link s 0) (ap (λ (x : View C R). x.listing.head_seen) seat_is ∙ noted) in
          in_front (link s) (link t) v.number now later (λ e. omega (arith, e, same, session.small, r.records.homes_are, few)) (no_end s now few is) (no_end t later room then_is)
          (λ p on. (then_is.within p on).0) (λ j some. link_kept j (λ e. omega (arith, e, at, some))) head (ap (link s) same ∙ seen.2) is.chain then_is.chain

      -- The first record stays the first, or the step put a record in front of the whole list.
      pub first_stays : WritesHeadAsEnlist s c.at c.put c.before.0 → (first_of later ≡ first_of now) ⊎ (later ≡ c.before.0.number ∷ now)
      first_stays writes = dite (ℕ_discrete c.at (link_of 0))
          (λ e. ⊎_elim (λ (same : c.put ≡ link s 0). inl (kept (head_written e ∙ same))) (λ (w : (c.put ≡ c.before.0.number) × (c.before.0.listing.head_seen ≡ Some (link s 0))). inr (pushed e w.0 w.1)) (writes e))
          (λ ne. inl (kept (link_kept 0 ne)))

module _ {O C R : Type 0} where
  -- A split or join of seats changes no list.
  pub seats_keep : (s t : BoardState O C R) (list : List ℕ) → IsSeatSplit s t ⊎ IsSeatJoin s t → IsPublicationList s list → IsPublicationList t list
  seats_keep s t list (inl c) p = subst (λ (x : BoardState O C R). IsPublicationList x list) (sym c.is) (record { chain = p.chain; apart = p.apart; within = p.within })
  seats_keep s t list (inr c) p = subst (λ (x : BoardState O C R). IsPublicationList x list) (sym c.is) (record { chain = p.chain; apart = p.apart; within = p.within })

module _ {O C R : Type 0} {obj : Ghosts O C R} where
  -- A run changes no number of slots.
  pub run_keeps : {s t : BoardState O C R} → IsRuled obj s → IsRun obj s t → length t.homes ≡ length s.homes
  run_keeps r stop = refl
  run_keeps {s} r (move {t} m q more) = run_keeps q more ∙ one s t r q m
    where
      one : (s t : BoardState O C R) → IsRuled obj s → IsRuled obj t → IsMove obj s t → length t.homes ≡ length s.homes
      one s t r q (inl c) = homes_kept c.0 s t r q c.1
      one s t r q (inr (inl c)) = ap (λ (x : BoardState O C R). length x.homes) c.is
      one s t r q (inr (inr c)) = ap (λ (x : BoardState O C R). length x.homes) c.is

-- Walks.

-- Behind a record of a list without repetition is the rest of the list.
pub behind_rest : (front rest : List ℕ) (q : ℕ) → AreApart (front ++ q ∷ rest) → behind q (front ++ q ∷ rest) ≡ rest
behind_rest [] rest q a = ap (λ (b : Bool). cond b rest (behind q rest)) (eq-eqb q q refl)
behind_rest (x ∷ xs) rest q a =
    let ne : q ≢ x = λ e. a.0 (on_right x xs (q ∷ rest) (inl (sym e))) in
    ap (λ (b : Bool). cond b (xs ++ q ∷ rest) (behind q (xs ++ q ∷ rest))) (ne_eqb q x ne) ∙ behind_rest xs rest q a.1

one_more : (xs ys : List ℕ) (x : ℕ) → (xs ++ x ∷ []) ++ ys ≡ xs ++ x ∷ ys
one_more xs ys x = append_assoc xs (x ∷ []) ys

-- From a record of its route on, a walk meets the rest of the route.
met_rest : (front rest route : List ℕ) (steps : ℕ) → route ≡ front ++ rest → AreApart route → length rest ≤ steps → met_from (first_of rest) steps route ≡ rest
met_rest front [] route zero is a enough = refl
met_rest front [] route (suc steps) is a enough = refl
met_rest front (x ∷ xs) route zero is a enough = absurd (omega arith)
met_rest front (x ∷ xs) route (suc steps) is a enough =
    let next : behind x route ≡ xs = ap (behind x) is ∙ behind_rest front xs x (subst AreApart is a) in
    let later = met_rest (front ++ x ∷ []) xs route steps (is ∙ sym (one_more front xs x)) a (omega arith) in
    ap (λ (l : List ℕ). x ∷ met_from (first_of l) steps route) next ∙ ap (λ (l : List ℕ). x ∷ l) later

-- A walk meets the records of its route.
pub met_all : (route : List ℕ) (steps : ℕ) → AreApart route → length route ≤ steps → met_from (first_of route) steps route ≡ route
met_all route steps a enough = met_rest [] route route steps refl a enough

-- The link of a record on a chain names the one behind it.
pub link_of_record : (f : ℕ → ℕ) (k : ℕ) (front rest : List ℕ) (q : ℕ) → Chain f k (front ++ q ∷ rest) → f q ≡ head_of rest
link_of_record f k [] rest q c = chain_head f (f q) rest c.1
link_of_record f k (x ∷ xs) rest q c = link_of_record f (f x) xs rest q c.1

module _ {O C R : Type 0} where
  -- Retired records.

  module _ {h : List (Entry C R)} {i w : ℕ} {at : opt.Option (SlotValue O C R)} {o : Own C R} where
    by_session : RecordState h i w at o → o.retired ≡ true → IsRetired h i w at o
    by_session (vacant t) e = absurd (cc (t.publishes, e))
    by_session (posted call floor t) e = absurd (cc (t.publishes, e))
    by_session (busy call floor t) e = absurd (cc (t.publishes, e))
    by_session (served call floor place reply t) e = absurd (cc (t.publishes, e))
    by_session (retired t) e = t

    by_word : RecordState h i w at o → w ≡ CLOSED → IsRetired h i w at o
    by_word (vacant t) is = absurd (vacant_word w t.is (omega arith) (omega arith))
    by_word (posted call floor t) is = absurd (omega (arith, t.is))
    by_word (busy call floor t) is = absurd (omega (arith, t.is))
    by_word (served call floor place reply t) is = absurd (omega (arith, t.is))
    by_word (retired t) is = t

module _ {O C R : Type 0} {obj : Ghosts O C R} where
  module _ (s : BoardState O C R) (j : ℕ) (r : IsRuled obj s) (some : 0 < j) (named : (seat s j).number ≡ j) where
    here : IsSession r.records.slots r.records.owns j (seat s j)
    here = r.records.sessions j (λ z. omega (arith, z, named, some))

    stands_here : RecordState r.records.history j (word s j) (home s j) (seat s j).own
    stands_here = subst (λ (o : Own C R). RecordState r.records.history j (word s j) (home s j) o) (sym here.own_is) (r.records.stands j some here.small)

    -- The record of a retired session is CLOSED.
    pub is_closed : (seat s j).own.retired ≡ true → word s j ≡ CLOSED
    is_closed e = (by_session stands_here e).is

    -- The session of a CLOSED record has retired.
    pub has_retired : word s j ≡ CLOSED → (seat s j).own.retired ≡ true
    has_retired e = (by_word stands_here e).retired

    -- It has no call pending.
    pub is_idle : word s j ≡ CLOSED → (seat s j).own.pending ≡ None
    is_idle e = (by_word stands_here e).none
