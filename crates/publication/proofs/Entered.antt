-- Each place of the history was entered by exactly one session.
use Rattle.std.proofs.Common.{◌≡◌, ◌≢◌, ◌⊎◌, inl, inr, ⊎_elim, ℕ, zero, suc, ◌+◌, ◌<◌, ◌==◌, cond, Bool, true, Option, List, [], ◌∷◌, ◌++◌, length, get_or, set, refl, sym, ap, subst, ◌∙◌, arith, append-nil, length-append, length-set, eq-eqb, ne_eqb}
use Rattle.std.proofs.lemmas.List.{get_or_push}
use mathlib.Core.Option as opt
use mathlib.Core.Logic.{dite}
use native.Mathlib.Decide.{ℕ_discrete}
use lib.ListN.{get_elem?}
use Rattle.atomic_table.specs.Table.{step}
use Rattle.sequential.specs.declared.entry.Entry.{Entry}
use Rattle.sequential.specs.declared.object.Sequential.{Ghosts}
use Rattle.sequential.specs.Histories.{Answered}
use Rattle.sequential.proofs.Members.{Member, contains-member, member-contains}
use Rattle.publication.specs.Words.{FREE, POSTED, SERVED, CLOSED, EMPTY}
use Rattle.publication.specs.Views.{Pending, Handed}
use Rattle.publication.specs.Rule.{blank, BoardState, seat}
use Rattle.publication.specs.List.{IsRuled}
use Rattle.publication.specs.StepKinds.{Seated, handed_in}
use Rattle.publication.specs.Collected.{HasCollected}
use Rattle.publication.specs.BoardHistory.{history_of}
use Rattle.publication.specs.Entered.{HasEnteredPlaces, AreRising, AreEnteredOnce}
use Rattle.publication.specs.Runs.{StepName, start, post, look_at_head, link, enlist, look_for_reply, take_reply, look_at_lock, seize, release, walk, walk_on, unlink, mark_out, relink, look_at_record, open_record, lay, pick, answer_record, put_back, enter, learn, compare, retire, leave, kind_of, IsStep, IsSeatSplit, IsSeatJoin, IsMove, IsRun, stop, move}
use Rattle.publication.specs.declared.view.View.{View}
use Rattle.publication.specs.declared.slot.SlotValue.{SlotValue}
use Rattle.publication.proofs.Lists.{at_there, each_set, each_snoc, past_end, at_pushed}
use Rattle.publication.proofs.SeatViews.{session_of, object_of, whole_of}
use Rattle.publication.proofs.BoardHistory.{is-history}
use Rattle.publication.proofs.RealTime.{is-answer, is-enter, step-joins, step-enters, step-unchanged, seats-unchanged}
use Rattle.publication.proofs.SessionsGoOn.{goes-on}

-- The places at which a session's number stands in a list of numbers.

-- The places of number k, of which the first is `n`.
abbrev places_from : ℕ → ℕ → List ℕ → List ℕ
places_from k n [] = []
places_from k n (x ∷ xs) = cond (x == k) (n ∷ places_from k (n + 1) xs) (places_from k (n + 1) xs)

-- The places of number k.
abbrev places_of : ℕ → List ℕ → List ℕ
places_of k by = places_from k 0 by

-- A place of number k has it.
has-number : (k n p : ℕ) (by : List ℕ) → Member p (places_from k n by) → (q : ℕ) × (p ≡ n + q) × (get_elem? by q ≡ opt.some k)
has-number k n p [] m = absurd m
has-number k n p (x ∷ xs) m = dite (ℕ_discrete x k)
    (λ e. ⊎_elim (λ is. (0, omega (arith, is), ap (λ (y : ℕ). opt.some y) e)) (λ more. later (has-number k (n + 1) p xs more))
    (subst (λ (b : Bool). Member p (cond b (n ∷ places_from k (n + 1) xs) (places_from k (n + 1) xs))) (eq-eqb x k e) m))
    (λ ne. later (has-number k (n + 1) p xs (subst (λ (b : Bool). Member p (cond b (n ∷ places_from k (n + 1) xs) (places_from k (n + 1) xs))) (ne_eqb x k ne) m)))
  where
    later : (q : ℕ) × (p ≡ n + 1 + q) × (get_elem? xs q ≡ opt.some k) → (q : ℕ) × (p ≡ n + q) × (get_elem? (x ∷ xs) q ≡ opt.some k)
    later r = let e = r.1 in (suc r.0, omega (arith, e), r.2)

-- Where number k stands is one of its places.
is-place : (k n q : ℕ) (by : List ℕ) → get_elem? by q ≡ opt.some k → Member (n + q) (places_from k n by)
is-place k n q [] is = absurd (opt.some-ne-none k (sym is))
is-place k n zero (x ∷ xs) is =
    let same : x ≡ k = opt.some-injective x k is in
    subst (λ (b : Bool). Member (n + 0) (cond b (n ∷ places_from k (n + 1) xs) (places_from k (n + 1) xs))) (sym (eq-eqb x k same)) (inl (omega arith))
is-place k n (suc q) (x ∷ xs) is =
    let more : Member (n + suc q) (places_from k (n + 1) xs) = subst (λ (p : ℕ). Member p (places_from k (n + 1) xs)) (omega arith) (is-place k (n + 1) q xs is) in
    dite (ℕ_discrete x k)
    (λ e. subst (λ (b : Bool). Member (n + suc q) (cond b (n ∷ places_from k (n + 1) xs) (places_from k (n + 1) xs))) (sym (eq-eqb x k e)) (inr more))
    (λ ne. subst (λ (b : Bool). Member (n + suc q) (cond b (n ∷ places_from k (n + 1) xs) (places_from k (n + 1) xs))) (sym (ne_eqb x k ne)) more)

-- One number more.
pushed-places : (k n j : ℕ) (by : List ℕ) → places_from k n (by ++ j ∷ []) ≡ places_from k n by ++ cond (j == k) ((n + length by) ∷ []) []
pushed-places k n j [] = ap (λ (p : ℕ). cond (j == k) (p ∷ []) []) (omega arith)
pushed-places k n j (x ∷ xs) =
    let rest : places_from k (n + 1) (xs ++ j ∷ []) ≡ places_from k (n + 1) xs ++ cond (j == k) ((n + suc (length xs)) ∷ []) []
    = pushed-places k (n + 1) j xs ∙ ap (λ (p : ℕ). places_from k (n + 1) xs ++ cond (j == k) (p ∷ []) []) (omega arith) in
    dite (ℕ_discrete x k)
    (λ e. rw (eq-eqb x k e) (ap (λ (l : List ℕ). n ∷ l) rest))
    (λ ne. rw (ne_eqb x k ne) rest)

zero-plus : (n : ℕ) → 0 + n ≡ n
zero-plus n = omega arith

pushed-same : (k : ℕ) (by : List ℕ) → places_of k (by ++ k ∷ []) ≡ places_of k by ++ length by ∷ []
pushed-same k by = pushed-places k 0 k by ∙ (ap (λ (b : Bool). places_from k 0 by ++ cond b ((0 + length by) ∷ []) []) (eq-eqb k k refl) ∙ ap (λ (n : ℕ). places_from k 0 by ++ n ∷ []) (zero-plus (length by)))

pushed-other : (k j : ℕ) (by : List ℕ) → k ≢ j → places_of k (by ++ j ∷ []) ≡ places_of k by
pushed-other k j by ne = pushed-places k 0 j by ∙ (ap (λ (b : Bool). places_from k 0 by ++ cond b ((0 + length by) ∷ []) []) (ne_eqb j k (λ e. ne (sym e))) ∙ append-nil (places_from k 0 by))

-- A number that stands nowhere has no place.
no-place : (k n : ℕ) (by : List ℕ) → ((q : ℕ) → get_elem? by q ≢ opt.some k) → places_from k n by ≡ []
no-place k n [] none = refl
no-place k n (x ∷ xs) none = ap (λ (b : Bool). cond b (n ∷ places_from k (n + 1) xs) (places_from k (n + 1) xs)) (ne_eqb x k (λ e. none 0 (ap (λ (y : ℕ). opt.some y) e)))
    ∙ no-place k (n + 1) xs (λ q. none (suc q))

-- A list behind a lesser place is rising if it is.
rising-cons : (x : ℕ) (xs : List ℕ) → ((y : ℕ) → Member y xs → x < y) → AreRising xs → AreRising (x ∷ xs)
rising-cons x xs less rising zero zero lt few = absurd (omega (arith, lt))
rising-cons x xs less rising zero (suc k) lt few = less (get_or xs k 0) (at xs k (omega (arith, few)))
  where
    at : (l : List ℕ) (i : ℕ) → i < length l → Member (get_or l i 0) l
    at [] i lt = absurd (omega (arith, lt))
    at (y ∷ ys) zero lt = inl refl
    at (y ∷ ys) (suc i) lt = inr (at ys i (omega (arith, lt)))
rising-cons x xs less rising (suc j) zero lt few = absurd (omega (arith, lt))
rising-cons x xs less rising (suc j) (suc k) lt few = rising j k (omega (arith, lt)) (omega (arith, few))

places-rise : (k n : ℕ) (by : List ℕ) → AreRising (places_from k n by)
places-rise k n [] = λ i j lt few. absurd (omega (arith, few))
places-rise k n (x ∷ xs) = dite (ℕ_discrete x k)
    (λ e. subst (λ (b : Bool). AreRising (cond b (n ∷ places_from k (n + 1) xs) (places_from k (n + 1) xs))) (sym (eq-eqb x k e))
    (rising-cons n (places_from k (n + 1) xs) (λ y m. let r = has-number k (n + 1) y xs m in let e = r.1 in omega (arith, e)) (places-rise k (n + 1) xs)))
    (λ ne. subst (λ (b : Bool). AreRising (cond b (n ∷ places_from k (n + 1) xs) (places_from k (n + 1) xs))) (sym (ne_eqb x k ne)) (places-rise k (n + 1) xs))

at-end : (by : List ℕ) (x q y : ℕ) → get_elem? (by ++ x ∷ []) q ≡ opt.some y → (get_elem? by q ≡ opt.some y) ⊎ (x ≡ y)
at-end by x q y = at_pushed by x q y

number-within : (by : List ℕ) (q k : ℕ) → get_elem? by q ≡ opt.some k → q < length by
number-within by q k is = (at_there by q k 0 is).1

some-number : (by : List ℕ) (q : ℕ) → q < length by → (k : ℕ) × (get_elem? by q ≡ opt.some k)
some-number [] q lt = absurd (omega (arith, lt))
some-number (x ∷ xs) zero lt = (x, refl)
some-number (x ∷ xs) (suc q) lt = some-number xs q (omega (arith, lt))

module _ {C R : Type 0} where
  -- What a step that enters nothing leaves of a seat.
  abbrev IsAsItWas : View C R → View C R → Type 0
  IsAsItWas v w = (w.number ≡ v.number) × (w.combiner.entered ≡ v.combiner.entered) × (w.others.handed ≡ v.others.handed)

module _ {O C R : Type 0} where
  module _ (m n : Seated O C R) where
    calmly : (w : View C R) (d : List (ℕ × SlotValue O C R)) → n ≡ (w, d) → IsAsItWas m.0 w → IsAsItWas m.0 n.0
    calmly w d e is = subst (λ (x : Seated O C R). IsAsItWas m.0 x.0) (sym e) is

    same : n ≡ m → IsAsItWas m.0 n.0
    same e = calmly m.0 m.1 e (refl, refl, refl)

    module _ (obj : Ghosts O C R) where
      -- No kind of step but the answer and the direct entry enters a place.
      as-it-was : (name : StepName C R) (slots at first second found : ℕ) → name ≢ answer_record → ((call : C) (reply : R) → name ≢ enter call reply) → kind_of obj name (step slots at first second opt.none) m found n → IsAsItWas m.0 n.0
      as-it-was start slots at first second found other direct told = calmly _ _ told (refl, refl, refl)
      as-it-was post slots at first second found other direct told = calmly _ _ told.0 (refl, refl, refl)
      as-it-was look_at_head slots at first second found other direct told = same told.0
      as-it-was link slots at first second found other direct told = calmly _ _ told (refl, refl, refl)
      as-it-was enlist slots at first second found other direct told = dite (ℕ_discrete found first) (λ e. calmly _ _ (told.0 e) (refl, refl, refl)) (λ ne. calmly _ _ (told.1 ne).0 (refl, refl, refl))
      as-it-was look_for_reply slots at first second found other direct told = same told.0
      as-it-was take_reply slots at first second found other direct told = dite (ℕ_discrete found SERVED)
          (λ e. let x = told.0 e in let t = x.2 in calmly _ _ t.4 (refl, refl, refl))
          (λ ne. same (told.1 ne).0)
      as-it-was look_at_lock slots at first second found other direct told = same told.0
      as-it-was seize slots at first second found other direct told = dite (ℕ_discrete found FREE) (λ e. let x = told.0 e in calmly _ _ x.1 (refl, refl, refl)) (λ ne. same (told.1 ne).0)
      as-it-was release slots at first second found other direct told = calmly _ _ told (refl, refl, refl)
      as-it-was walk slots at first second found other direct told = calmly _ _ told.1 (refl, refl, refl)
      as-it-was walk_on slots at first second found other direct told = same told.0
      as-it-was unlink slots at first second found other direct told = calmly _ _ told (refl, refl, refl)
      as-it-was mark_out slots at first second found other direct told = dite (ℕ_discrete found EMPTY) (λ e. calmly _ _ (told.0 e) (refl, refl, refl))
          (λ ne. dite (ℕ_discrete found CLOSED) (λ e. calmly _ _ (told.1 e) (refl, refl, refl)) (λ nc. same (told.2 ne nc)))
      as-it-was relink slots at first second found other direct told = calmly _ _ told (refl, refl, refl)
      as-it-was look_at_record slots at first second found other direct told = same told.0
      as-it-was open_record slots at first second found other direct told = dite (ℕ_discrete found POSTED) (λ e. let x = told.0 e in calmly _ _ x.1 (refl, refl, refl)) (λ ne. same (told.1 ne).0)
      as-it-was lay slots at first second found other direct told = calmly _ _ told (refl, refl, refl)
      as-it-was pick slots at first second found other direct told = calmly _ _ told (refl, refl, refl)
      as-it-was answer_record slots at first second found other direct told = absurd (other refl)
      as-it-was put_back slots at first second found other direct told = calmly _ _ told (refl, refl, refl)
      as-it-was (enter call reply) slots at first second found other direct told = absurd (direct call reply refl)
      as-it-was learn slots at first second found other direct told = calmly _ _ told.0 (refl, refl, refl)
      as-it-was compare slots at first second found other direct told = same told.0
      as-it-was retire slots at first second found other direct told = calmly _ _ told (refl, refl, refl)
      as-it-was leave slots at first second found other direct told = calmly _ _ told (refl, refl, refl)

module _ {O C R : Type 0} (obj : Ghosts O C R) where
  -- What holds in each state that a run reaches: the history's places are shared out among the sessions.
  pub record AreSharedOut (s : BoardState O C R) : Type 0 where
    -- the session that entered each place
    pub by : List ℕ
    pub each : length by ≡ length (history_of obj s)
    -- each seat of a session has the places of that session, and so has what was handed in
    pub seats : (k : ℕ) → (seat s k).number ≢ 0 → (seat s k).combiner.entered ≡ places_of (seat s k).number by
    pub handed : (k p : ℕ) (x : Handed C R) → get_elem? (seat s k).others.handed p ≡ opt.some x → x.entered ≡ places_of x.number by
    -- they are sessions of the board
    pub owners : (q k : ℕ) → get_elem? by q ≡ opt.some k → (a : List (Answered C R)) × (p : Option (Pending C)) × HasCollected s k a p

module _ {O C R : Type 0} {obj : Ghosts O C R} where
  module _ (s t : BoardState O C R) (r : IsRuled obj s) (q : IsRuled obj t) (m : IsMove obj s t) (o : AreSharedOut obj s) where
    -- A session goes on.
    on : (k : ℕ) (a : List (Answered C R)) (p : Option (Pending C)) → HasCollected s k a p → (b : List (Answered C R)) × (p : Option (Pending C)) × HasCollected t k b p
    on k a p has = let g = goes-on s t (move m q stop) k a p has in (g.0, g.1, g.2)

    owners-on : (i k : ℕ) → get_elem? o.by i ≡ opt.some k → (b : List (Answered C R)) × (p : Option (Pending C)) × HasCollected t k b p
    owners-on i k is = let w = o.owners i k is in on k w.0 w.1 w.2

    -- A step on a word.
    module _ (name : StepName C R) (c : IsStep obj name s t) where
      abbrev before : View C R
      before = c.before.0

      is_me : seat s c.id ≡ before
      is_me = (at_there s.views c.id before blank c.seated).0

      sits : c.id < length s.views
      sits = (at_there s.views c.id before blank c.seated).1

      here-alone : (k : ℕ) → k ≢ c.id → (seat s k).number ≢ 0 → before.number ≢ 0 → (seat s k).number ≢ before.number
      here-alone k ne some live e = ne (sym (r.records.sessions k some).is ∙ (e ∙ (session_of s r.records c.id before c.seated live).is))

      not-handed : (k p : ℕ) (x : Handed C R) → get_elem? (seat s k).others.handed p ≡ opt.some x → before.number ≢ 0 → x.number ≢ before.number
      not-handed k p x is live e =
          let gone = ((r.records.others k).handed p x is).gone in
          live (ap (λ (v : View C R). v.number) (sym is_me) ∙ (ap (λ (j : ℕ). (seat s j).number) (sym (e ∙ (session_of s r.records c.id before c.seated live).is)) ∙ gone))

      -- The places are shared out as `by` says after the step, if this seat's are.
      goes : (by : List ℕ) → length by ≡ length (history_of obj t) → c.after.0.number ≡ before.number → c.after.0.others.handed ≡ before.others.handed
          → (before.number ≢ 0 → c.after.0.combiner.entered ≡ places_of before.number by) → ((j : ℕ) → (before.number ≢ 0 → j ≢ before.number) → places_of j by ≡ places_of j o.by)
          → ((i k : ℕ) → get_elem? by i ≡ opt.some k → (b : List (Answered C R)) × (p : Option (Pending C)) × HasCollected t k b p) → AreSharedOut obj t
      goes by each number handed mine others owners = record {
        by = by;
        each = each;
        seats = subst (λ (x : BoardState O C R). (k : ℕ) → (seat x k).number ≢ 0 → (seat x k).combiner.entered ≡ places_of (seat x k).number by) (sym c.is)
            (each_set s.views c.id c.after.0 blank (λ k x. x.number ≢ 0 → x.combiner.entered ≡ places_of x.number by) sits
            (λ live. mine (λ none. live (number ∙ none)) ∙ ap (λ (j : ℕ). places_of j by) (sym number))
            (λ k ne some. o.seats k some ∙ sym (others (seat s k).number (λ live. here-alone k ne some live))));
        handed = subst (λ (x : BoardState O C R). (k p : ℕ) (y : Handed C R) → get_elem? (seat x k).others.handed p ≡ opt.some y → y.entered ≡ places_of y.number by) (sym c.is)
            (each_set s.views c.id c.after.0 blank (λ k x. (p : ℕ) (y : Handed C R) → get_elem? x.others.handed p ≡ opt.some y → y.entered ≡ places_of y.number by) sits
            (λ p y is. kept c.id p y (ap (λ (l : List (Handed C R)). get_elem? l p) (ap (λ (v : View C R). v.others.handed) is_me ∙ sym handed) ∙ is))
            (λ k ne. kept k));
        owners = owners;
      }
        where
          kept : (k p : ℕ) (y : Handed C R) → get_elem? (seat s k).others.handed p ≡ opt.some y → y.entered ≡ places_of y.number by
          kept k p y is = o.handed k p y is ∙ sym (others y.number (λ live. not-handed k p y is live))

      -- A step that enters nothing.
      idles : name ≢ answer_record → ((call : C) (reply : R) → name ≢ enter call reply) → AreSharedOut obj t
      idles other direct =
          let w = as-it-was c.before c.after obj name (length s.homes) c.at c.first c.second (get_or s.words c.at 0) other direct c.told in
          goes o.by (o.each ∙ ap (λ (l : List (Entry C R)). length l) (sym (step-unchanged name s t other direct r q c))) w.0 w.2
          (λ live. w.1 ∙ (ap (λ (v : View C R). v.combiner.entered) (sym is_me) ∙ (o.seats c.id (λ none. live (ap (λ (v : View C R). v.number) (sym is_me) ∙ none)) ∙ ap (λ (v : View C R). places_of v.number o.by) is_me)))
          (λ j _. refl) owners-on

      -- The combiner enters the next place.
      enters-one : before.combiner.has_object ≡ true → (e : Entry C R) → history_of obj t ≡ history_of obj s ++ e ∷ [] → c.after.0.number ≡ before.number → c.after.0.others.handed ≡ before.others.handed
          → c.after.0.combiner.entered ≡ before.combiner.entered ++ length before.front ∷ [] → AreSharedOut obj t
      enters-one has e grown number handed entered =
          let b = object_of s r.records c.id before c.seated has in
          let live : before.number ≢ 0 = λ none. omega (arith, none, b.named, b.session) in
          let here : seat s before.number ≡ before = ap (seat s) b.named ∙ is_me in
          let long : length before.front ≡ length o.by = ap (λ (l : List (Entry C R)). length l) (whole_of s r.records c.id before c.seated has ∙ is-history s r.records) ∙ sym o.each in
          let mine = o.seats c.id (λ none. live (ap (λ (v : View C R). v.number) (sym is_me) ∙ none)) in
          goes (o.by ++ before.number ∷ [])
          (omega (arith, length-append o.by (before.number ∷ []), o.each, ap (λ (l : List (Entry C R)). length l) grown, length-append (history_of obj s) (e ∷ [])))
          number handed
          (λ _. entered ∙ (ap (λ (l : List ℕ). l ++ length before.front ∷ []) (ap (λ (v : View C R). v.combiner.entered) (sym is_me) ∙ (mine ∙ ap (λ (v : View C R). places_of v.number o.by) is_me))
          ∙ (ap (λ (k : ℕ). places_of before.number o.by ++ k ∷ []) long ∙ sym (pushed-same before.number o.by))))
          (λ j ne. pushed-other j before.number o.by (ne live))
          (λ i k is. ⊎_elim (λ old. owners-on i k old)
          (λ new. on k before.own.collected before.own.pending (inl (record {
            some = omega (arith, sym new, b.named, b.session);
            named = ap (λ (j : ℕ). (seat s j).number) (sym new) ∙ (ap (λ (v : View C R). v.number) here ∙ new);
            answers_are = ap (λ (j : ℕ). (seat s j).own.collected) (sym new) ∙ ap (λ (v : View C R). v.own.collected) here;
            pending_is = ap (λ (j : ℕ). (seat s j).own.pending) (sym new) ∙ ap (λ (v : View C R). v.own.pending) here;
          }))) (at-end o.by before.number i k is))

    -- A split of a seat.
    splits : IsSeatSplit s t → AreSharedOut obj t
    splits c = record {
      by = o.by;
      each = o.each ∙ ap (λ (l : List (Entry C R)). length l) (sym (seats-unchanged s t r q (inl c)));
      seats = subst (λ (x : BoardState O C R). (k : ℕ) → Has (seat x k)) (sym c.is)
          (each_snoc (set s.views c.id c.left) c.right blank (λ k x. Has x) right (each_set s.views c.id c.left blank (λ k x. Has x) at.1 left (λ k ne. o.seats k)));
      handed = subst (λ (x : BoardState O C R). (k : ℕ) → Knows (seat x k)) (sym c.is)
          (each_snoc (set s.views c.id c.left) c.right blank (λ k x. Knows x) knows-right (each_set s.views c.id c.left blank (λ k x. Knows x) at.1 knows-left (λ k ne. o.handed k)));
      owners = owners-on;
    }
      where
        at : (seat s c.id ≡ c.view) × (c.id < length s.views)
        at = at_there s.views c.id c.view blank c.seated

        Has : View C R → Type 0
        Has x = x.number ≢ 0 → x.combiner.entered ≡ places_of x.number o.by

        Knows : View C R → Type 0
        Knows x = (p : ℕ) (y : Handed C R) → get_elem? x.others.handed p ≡ opt.some y → y.entered ≡ places_of y.number o.by

        none-known : (x : View C R) → x.others.handed ≡ [] → Knows x
        none-known x none p y is = absurd (opt.some-ne-none y (sym is ∙ ap (λ (l : List (Handed C R)). get_elem? l p) none))

        left : Has c.left
        left = elim c.cut [
          | inl m ↦ λ live. absurd (live (ap (λ (v : View C R). v.number) m.2))
          | inr m ↦ subst Has (at.0 ∙ sym m.0) (o.seats c.id)
        ]

        knows-left : Knows c.left
        knows-left = elim c.cut [
          | inl m ↦ none-known c.left (ap (λ (v : View C R). v.others.handed) m.2)
          | inr m ↦ subst Knows (at.0 ∙ sym m.0) (o.handed c.id)
        ]

        last : seat t (length s.views) ≡ c.right
        last = subst (λ (x : BoardState O C R). seat x (length s.views) ≡ c.right) (sym c.is)
            (get_or_push (set s.views c.id c.left) c.right blank (length s.views) (length-set s.views c.id c.left))

        -- A session that is made now has entered nothing.
        unmade : c.right.number ≢ 0 → (i : ℕ) → get_elem? o.by i ≢ opt.some c.right.number
        unmade live i is =
            let named : c.right.number ≡ length s.views = ap (λ (v : View C R). v.number) (sym last) ∙ (q.records.sessions (length s.views) (λ none. live (ap (λ (v : View C R). v.number) (sym last) ∙ none))).is in
            let w = o.owners i c.right.number is in ⊎_elim
            (λ d. let gone : (seat s c.right.number).number ≡ 0 = ap (λ (k : ℕ). (seat s k).number) named ∙ ap (λ (v : View C R). v.number) (past_end s.views blank) in live (sym d.named ∙ gone))
            (λ d. let h = (r.records.others d.closing).handed d.place d.handed d.there in let there = h.there in let same = d.named in omega (arith, there, same, named))
            w.2

        right : Has c.right
        right = elim c.cut [
          | inl m ↦ λ live. ap (λ (v : View C R). v.combiner.entered) m.3 ∙ sym (no-place c.right.number 0 o.by (unmade live))
          | inr m ↦ ⊎_elim (λ e live. absurd (live (ap (λ (v : View C R). v.number) e))) (λ e live. absurd (live (ap (λ (v : View C R). v.number) e))) m.1
        ]

        knows-right : Knows c.right
        knows-right = none-known c.right (elim c.cut [
          | inl m ↦ ap (λ (v : View C R). v.others.handed) m.3
          | inr m ↦ ⊎_elim (λ e. ap (λ (v : View C R). v.others.handed) e) (λ e. ap (λ (v : View C R). v.others.handed) e) m.1
        ])

    -- A join of two seats.
    joins : IsSeatJoin s t → AreSharedOut obj t
    joins c = record {
      by = o.by;
      each = o.each ∙ ap (λ (l : List (Entry C R)). length l) (sym (seats-unchanged s t r q (inr c)));
      seats = every (λ x. x.number ≢ 0 → x.combiner.entered ≡ places_of x.number o.by) mine (λ live. absurd (live refl)) o.seats;
      handed = every Knows knows-mine (λ p y is. absurd (opt.some-ne-none y (sym is))) o.handed;
      owners = owners-on;
    }
      where
        one : (seat s c.id ≡ c.view) × (c.id < length s.views)
        one = at_there s.views c.id c.view blank c.seated

        two : (seat s c.other ≡ c.theirs) × (c.other < length s.views)
        two = at_there s.views c.other c.theirs blank c.beside

        every : (P : View C R → Type 0) → P c.both → P blank → ((k : ℕ) → P (seat s k)) → (k : ℕ) → P (seat t k)
        every P both none rest = subst (λ (x : BoardState O C R). (k : ℕ) → P (seat x k)) (sym c.is)
            (each_set (set s.views c.id c.both) c.other blank blank (λ k x. P x) (let l = length-set s.views c.id c.both in let n = two.1 in omega (arith, l, n)) none
            (λ k _. each_set s.views c.id c.both blank (λ k x. P x) one.1 both (λ j _. rest j) k))

        Knows : View C R → Type 0
        Knows x = (p : ℕ) (y : Handed C R) → get_elem? x.others.handed p ≡ opt.some y → y.entered ≡ places_of y.number o.by

        mine : c.both.number ≢ 0 → c.both.combiner.entered ≡ places_of c.both.number o.by
        mine = elim c.join [
          | inl m ↦ keeps (ap (λ (v : View C R). v.number) m.0) (ap (λ (v : View C R). v.combiner.entered) m.0)
          | inr m ↦ keeps (ap (λ (v : View C R). v.number) m.0) (ap (λ (v : View C R). v.combiner.entered) m.0)
        ]
          where
            keeps : c.both.number ≡ c.view.number → c.both.combiner.entered ≡ c.view.combiner.entered → c.both.number ≢ 0 → c.both.combiner.entered ≡ places_of c.both.number o.by
            keeps number entered live =
                entered ∙ (ap (λ (v : View C R). v.combiner.entered) (sym one.0) ∙ (o.seats c.id (λ none. live (number ∙ (ap (λ (v : View C R). v.number) (sym one.0) ∙ none)))
                ∙ (ap (λ (v : View C R). places_of v.number o.by) one.0 ∙ ap (λ (k : ℕ). places_of k o.by) (sym number))))

        before-known : Knows c.view
        before-known = subst Knows one.0 (o.handed c.id)

        me-after : seat t c.id ≡ c.both
        me-after = subst (λ (x : BoardState O C R). seat x c.id ≡ c.both) (sym c.is)
            (each_set (set s.views c.id c.both) c.other blank blank (λ k x. k ≡ c.id → x ≡ c.both) (let l = length-set s.views c.id c.both in let n = two.1 in omega (arith, l, n))
            (λ e. absurd (c.apart e))
            (λ k _. each_set s.views c.id c.both blank (λ k x. k ≡ c.id → x ≡ c.both) one.1 (λ _. refl) (λ j ne e. absurd (ne e)) k) c.id refl)

        knows-mine : Knows c.both
        knows-mine = elim c.join [
          | inl m ↦ λ p y is. before-known p y (ap (λ (v : View C R). get_elem? v.others.handed p) (sym m.0) ∙ is)
          | inr m ↦ λ p y is. ⊎_elim (λ old. before-known p y old)
              (λ new. let h = (q.records.others c.id).handed p y (ap (λ (v : View C R). get_elem? v.others.handed p) me-after ∙ is) in
              let some = h.some in
              let number : c.theirs.number ≡ y.number = ap (λ (z : Handed C R). z.number) new in
              let live : (seat s c.other).number ≢ 0 = λ none. omega (arith, some, number, none, ap (λ (v : View C R). v.number) two.0) in
              ap (λ (z : Handed C R). z.entered) (sym new) ∙ (ap (λ (v : View C R). v.combiner.entered) (sym two.0) ∙ (o.seats c.other live
              ∙ (ap (λ (v : View C R). places_of v.number o.by) two.0 ∙ ap (λ (k : ℕ). places_of k o.by) number))))
              (at_pushed c.view.others.handed (handed_in c.theirs) p y (ap (λ (v : View C R). get_elem? v.others.handed p) (sym m.0) ∙ is))
        ]

  -- Each move.
  moved : (s t : BoardState O C R) → IsRuled obj s → IsRuled obj t → IsMove obj s t → AreSharedOut obj s → AreSharedOut obj t
  moved s t r q (inl c) o = elim (is-answer c.0) [
    | inl e ↦ answered (subst (λ (n : StepName C R). IsStep obj n s t) e c.1)
    | inr ne ↦ elim (is-enter c.0) [
      | inl e ↦ entered e.0 e.1 (subst (λ (n : StepName C R). IsStep obj n s t) e.2 c.1)
      | inr direct ↦ idles s t r q (inl c) o c.0 c.1 ne direct
    ]
  ]
    where
      answered : IsStep obj answer_record s t → AreSharedOut obj t
      answered d = let j = step-joins s t r q d in let v = ap (λ (x : Seated O C R). x.0) d.told.0 in
          enters-one s t r q (inl c) o answer_record d d.asked.0 j.0 j.1.history (ap (λ (x : View C R). x.number) v) (ap (λ (x : View C R). x.others.handed) v) (ap (λ (x : View C R). x.combiner.entered) v)

      entered : (call : C) (reply : R) → IsStep obj (enter call reply) s t → AreSharedOut obj t
      entered call reply d = let j = step-enters call reply s t r q d in let v = ap (λ (x : Seated O C R). x.0) d.told.0 in
          enters-one s t r q (inl c) o (enter call reply) d d.asked.1 _ j.1.history (ap (λ (x : View C R). x.number) v) (ap (λ (x : View C R). x.others.handed) v) (ap (λ (x : View C R). x.combiner.entered) v)
  moved s t r q (inr (inl c)) o = splits s t r q (inr (inl c)) o c
  moved s t r q (inr (inr c)) o = joins s t r q (inr (inr c)) o c

  -- Each run.
  pub shared-out : {s t : BoardState O C R} → IsRuled obj s → IsRun obj s t → AreSharedOut obj s → AreSharedOut obj t
  shared-out r stop o = o
  shared-out {s} r (move {t} m q more) o = shared-out q more (moved s t r q m o)

  -- So each place was entered once.
  pub entered-once : (s : BoardState O C R) → IsRuled obj s → AreSharedOut obj s → AreEnteredOnce obj s
  entered-once s r o = record {
    each = λ p lt. let k = some-number o.by p (omega (arith, lt, o.each)) in let w = o.owners p k.0 k.1 in
        let there = member-contains p (places_of k.0 o.by) (subst (λ (i : ℕ). Member i (places_of k.0 o.by)) (omega arith) (is-place k.0 0 p o.by k.1)) in
        ⊎_elim
        (λ d. let live : (seat s k.0).number ≢ 0 = λ none. let some = d.some in let named = d.named in omega (arith, some, named, none) in
        let is : (seat s k.0).combiner.entered ≡ places_of k.0 o.by = o.seats k.0 live ∙ ap (λ (j : ℕ). places_of j o.by) d.named in
        (k.0, places_of k.0 o.by, inl (record { some = d.some; named = d.named; places_are = is }), there))
        (λ d. (k.0, places_of k.0 o.by, inr (record { closing = d.closing; place = d.place; handed = d.handed; there = d.there; named = d.named; places_are = o.handed d.closing d.place d.handed d.there ∙ ap (λ (j : ℕ). places_of j o.by) d.named }), there))
        w.2;
    apart = λ i j mine theirs p a b x y.
        let m = has-number i 0 p o.by (subst (Member p) (own i mine a) (contains-member p mine x)) in
        let n = has-number j 0 p o.by (subst (Member p) (own j theirs b) (contains-member p theirs y)) in
        let first = m.1 in
        let second = n.1 in
        opt.some-injective i j (sym m.2 ∙ (ap (λ (q : ℕ). get_elem? o.by q) (omega (arith, first, second)) ∙ n.2));
    within = λ k places p a x. let m = has-number k 0 p o.by (subst (Member p) (own k places a) (contains-member p places x)) in
        let first = m.1 in
        let few = number-within o.by m.0 k m.2 in
        omega (arith, first, few, o.each);
    rising = λ k places a. subst AreRising (sym (own k places a)) (places-rise k 0 o.by);
  }
    where
      own : (k : ℕ) (places : List ℕ) → HasEnteredPlaces s k places → places ≡ places_of k o.by
      own k places (inl d) = sym d.places_are ∙ (o.seats k (λ none. let some = d.some in let named = d.named in omega (arith, some, named, none)) ∙ ap (λ (j : ℕ). places_of j o.by) d.named)
      own k places (inr d) = sym d.places_are ∙ (o.handed d.closing d.place d.handed d.there ∙ ap (λ (j : ℕ). places_of j o.by) d.named)
