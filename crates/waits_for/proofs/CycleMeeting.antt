-- The positions that a search meets: one more, and what they are once all are looked at.
use Rattle.std.proofs.Common.{◌≡◌, ℕ, suc, ◌+◌, ◌<◌, ◌≤◌, inl, inr, Bool, true, false, ◌||◌, eqb, List, [], ◌∷◌, ◌++◌, length, get_or, refl, sym, ◌∙◌, ap, subst, arith, length-append}
use Rattle.std.specs.List.{IsDistinct, list_any}
use Rattle.std.proofs.Math.Bool.{or-false}
use Rattle.std.proofs.lemmas.Bool.{cases_lt, or_cases, eq-eqb, eqb-true, false≢true}
use Rattle.std.proofs.lemmas.Cmp.{nat_eq_equiv}
use Rattle.std.proofs.lemmas.List.{get_or_append_left, get_or_push}
use Rattle.std.proofs.lemmas.List.Folds.{list_any-append, list_any_at}
use Rattle.std.proofs.lemmas.Map.Keys.{IsDistinct-push, IsDistinct-from_apart}
use Rattle.std.proofs.lemmas.Map.Steps.{length-le_from_distinct_below}
use Rattle.waits_for.specs.Pairs.{Pairs, pairs_of}
use Rattle.waits_for.specs.Marks.{Marking, is_marked}
use Rattle.waits_for.specs.Walks.{IsWalk, Reaches}
use Rattle.waits_for.proofs.Places.{pairs_of-within}
use Rattle.waits_for.specs.inner.CycleMeeting.{IsMeeting, IsLookedAt, HasKept}

-- A position is in a longer list if it is in the list, or is the one added.
pub any-push : (w u : ℕ) (xs : List ℕ) → list_any (eqb w) (xs ++ u ∷ []) ≡ (list_any (eqb w) xs || eqb w u)
any-push w u xs = list_any-append (eqb w) xs (u ∷ []) ∙ ap (λ (b : Bool). list_any (eqb w) xs || b) (or-false (eqb w u))

-- The position at an index of a list is in the list.
pub any-at : (xs : List ℕ) (i : ℕ) → i < length xs → list_any (eqb (get_or xs i 0)) xs ≡ true
any-at xs i lt = list_any_at (eqb (get_or xs i 0)) xs i 0 lt (eq-eqb (get_or xs i 0) (get_or xs i 0) refl)

-- A list of one position has it once.
pub once-one : (t : ℕ) → IsDistinct eqb (t ∷ [])
once-one t = IsDistinct-from_apart eqb (t ∷ []) (λ i j d lt in_it. absurd (omega (arith, lt, in_it)))

-- Of a longer list, the positions at the indices before are the same.
pub stays : (xs : List ℕ) (y j : ℕ) → j < length xs → get_or (xs ++ y ∷ []) j 0 ≡ get_or xs j 0
stays xs y j lt = get_or_append_left xs (y ∷ []) 0 j lt

-- No more positions are met than there are.
pub met-few : (p : Pairs) (met parents : List ℕ) (marks : Marking) → IsMeeting p met parents marks → length met ≤ p.sessions
met-few p met parents marks h = length-le_from_distinct_below met p.sessions h.once h.within

-- If those in a list are below a number, and one more, so are those in the longer list.
within-more : (met : List ℕ) (u n : ℕ) → ((w : ℕ) → list_any (eqb w) met ≡ true → w < n) → u < n → (w : ℕ) → list_any (eqb w) (met ++ u ∷ []) ≡ true → w < n
within-more met u n within below w e = elim (or_cases (list_any (eqb w) met) (eqb w u) (sym (any-push w u met) ∙ e)) [
  | inl was ↦ within w was
  | inr is ↦ rw (eqb-true w u is) below
]

-- A position that isn't met finds room.
pub met-room : (p : Pairs) (met parents : List ℕ) (marks : Marking) (u : ℕ) → IsMeeting p met parents marks → u < p.sessions → is_marked marks u ≡ false → length met < p.sessions
met-room p met parents marks u h below fresh =
    let more = length-le_from_distinct_below (met ++ u ∷ []) p.sessions (IsDistinct-push nat_eq_equiv met u h.once (sym (h.marked u) ∙ fresh)) (within-more met u p.sessions h.within below) in
    omega (arith, more, length-append met (u ∷ []))

module _ (p : Pairs) (met parents : List ℕ) (old new : Marking) (u at : ℕ) (h : IsMeeting p met parents old) (fresh : is_marked old u ≡ false) (more : (a : ℕ) → is_marked new a ≡ (is_marked old a || eqb a u)) (lt : at < length met) (behind : (j : ℕ) → j < length met → get_or parents j 0 ≤ at) (edge : pairs_of p (get_or met at 0) u ≡ true) where
  -- the list of those met is longer by one
  longer : length (met ++ u ∷ []) ≡ length met + 1
  longer = length-append met (u ∷ [])

  -- each was met behind the one that waits for it
  all-before : (j : ℕ) → 0 < j → j < length (met ++ u ∷ []) → get_or (parents ++ at ∷ []) j 0 < j
  all-before j some in_it = elim (cases_lt j (length met)) [
    | inl low ↦ rw (stays parents at j (omega (arith, low, h.long))) (h.before j some low)
    | inr high ↦ rw (get_or_push parents at 0 j (omega (arith, high, in_it, longer, h.long))) (omega (arith, lt, high))
  ]

  -- none was met by one before the one that those before it were met by
  all-rising : (i j : ℕ) → i < j → j < length (met ++ u ∷ []) → get_or (parents ++ at ∷ []) i 0 ≤ get_or (parents ++ at ∷ []) j 0
  all-rising i j less in_it = elim (cases_lt j (length met)) [
    | inl low ↦ rw (stays parents at i (omega (arith, less, low, h.long)), stays parents at j (omega (arith, low, h.long))) (h.rising i j less low)
    | inr high ↦ rw (stays parents at i (omega (arith, less, in_it, longer, h.long)), get_or_push parents at 0 j (omega (arith, high, in_it, longer, h.long))) (behind i (omega (arith, less, in_it, longer)))
  ]

  -- and this one waits for it
  all-wait : (j : ℕ) → 0 < j → j < length (met ++ u ∷ []) → pairs_of p (get_or (met ++ u ∷ []) (get_or (parents ++ at ∷ []) j 0) 0) (get_or (met ++ u ∷ []) j 0) ≡ true
  all-wait j some in_it = elim (cases_lt j (length met)) [
    | inl low ↦ rw (stays parents at j (omega (arith, low, h.long)), stays met u j low, stays met u (get_or parents j 0) (omega (arith, h.before j some low, low))) (h.waits j some low)
    | inr high ↦ rw (get_or_push parents at 0 j (omega (arith, high, in_it, longer, h.long)), get_or_push met u 0 j (omega (arith, high, in_it, longer)), stays met u at lt) edge
  ]

  -- One more position is met, for which one waits that was met.
  pub met-more : IsMeeting p (met ++ u ∷ []) (parents ++ at ∷ []) new
  met-more = record {
    long = omega (arith, longer, length-append parents (at ∷ []), h.long);
    once = IsDistinct-push nat_eq_equiv met u h.once (sym (h.marked u) ∙ fresh);
    within = within-more met u p.sessions h.within (pairs_of-within p (get_or met at 0) u edge).1;
    marked = λ a. more a ∙ (ap (λ (b : Bool). b || eqb a u) (h.marked a) ∙ sym (any-push a u met));
    before = all-before;
    rising = all-rising;
    waits = all-wait;
  }

  -- All were met by the one at the index, or one before.
  pub behind-more : (j : ℕ) → j < length (met ++ u ∷ []) → get_or (parents ++ at ∷ []) j 0 ≤ at
  behind-more j in_it = elim (cases_lt j (length met)) [
    | inl low ↦ rw (stays parents at j (omega (arith, low, h.long))) (behind j low)
    | inr high ↦ rw (get_or_push parents at 0 j (omega (arith, high, in_it, longer, h.long))) (omega arith)
  ]

-- What was in a list is in it still.
pub kept-same : (xs : List ℕ) → HasKept xs xs
kept-same xs = record { long = omega arith; same = λ j lt. refl }

-- One more is added.
pub kept-more : (old xs : List ℕ) (u : ℕ) → HasKept old xs → HasKept old (xs ++ u ∷ [])
kept-more old xs u h = record {
  long = omega (arith, h.long, length-append xs (u ∷ []));
  same = λ j lt. stays xs u j (omega (arith, lt, h.long)) ∙ h.same j lt;
}

-- The search begins with t alone.
pub met-begun : (p : Pairs) (t : ℕ) (none marks : Marking) → t < p.sessions → ((a : ℕ) → is_marked none a ≡ false) → ((a : ℕ) → is_marked marks a ≡ (is_marked none a || eqb a t)) → IsMeeting p (t ∷ []) (0 ∷ []) marks
met-begun p t none marks below clear more = record {
  long = refl;
  once = once-one t;
  within = λ u e. rw (eqb-true u t (sym (or-false (eqb u t)) ∙ e)) below;
  marked = λ a. more a ∙ (ap (λ (b : Bool). b || eqb a t) (clear a) ∙ sym (or-false (eqb a t)));
  before = λ j some in_it. absurd (omega (arith, some, in_it));
  rising = λ i j less in_it. absurd (omega (arith, less, in_it));
  waits = λ j some in_it. absurd (omega (arith, some, in_it));
}

-- The index of a position in a list that has it.
pub index-of : (u : ℕ) (xs : List ℕ) → list_any (eqb u) xs ≡ true → (j : ℕ) × (j < length xs) × (get_or xs j 0 ≡ u)
index-of u [] e = absurd (false≢true e)
index-of u (x ∷ xs) e = elim (or_cases (eqb u x) (list_any (eqb u) xs) e) [
  | inl is ↦ (0, omega arith, sym (eqb-true u x is))
  | inr later ↦ let r = index-of u xs later in (r.0 + 1, omega (arith, r.1), at r.0 r.2)
]
  where
    at : (j : ℕ) → get_or xs j 0 ≡ u → get_or (x ∷ xs) (j + 1) 0 ≡ u
    at j e = let is : j + 1 ≡ suc j = omega arith in rw is e

-- One more is looked at.
pub looked-more : (p : Pairs) (t : ℕ) (met new parents more : List ℕ) (done : ℕ) → IsLookedAt p t met parents done → done < length met → length parents ≡ length met → HasKept met new → HasKept parents more → pairs_of p (get_or met done 0) t ≡ false
    → ((u : ℕ) → pairs_of p (get_or met done 0) u ≡ true → list_any (eqb u) new ≡ true) → ((j : ℕ) → j < length new → get_or more j 0 ≤ done) → IsLookedAt p t new more (done + 1)
looked-more p t met new parents more done h lt long k n apart all behind = record {
  few = omega (arith, lt, k.long);
  all = λ j u in_it edge. elim (cases_lt j done) [
    | inl low ↦ was j u (h.all j u low (rw (k.same j (omega (arith, low, lt))) at edge))
    | inr high ↦ let is : j ≡ done = omega (arith, high, in_it) in came j u (omega (arith, high)) (all u (rw (ap (λ (i : ℕ). get_or new i 0) is ∙ k.same done lt) at edge))
  ];
  not_closed = λ j in_it. elim (cases_lt j done) [
    | inl low ↦ rw (k.same j (omega (arith, low, lt))) (h.not_closed j low)
    | inr high ↦ let is : j ≡ done = omega (arith, high, in_it) in rw (ap (λ (i : ℕ). get_or new i 0) is ∙ k.same done lt) apart
  ];
}
  where
    was : (j u : ℕ) → (i : ℕ) × (i < length met) × (get_or met i 0 ≡ u) × (get_or parents i 0 ≤ j) → (i : ℕ) × (i < length new) × (get_or new i 0 ≡ u) × (get_or more i 0 ≤ j)
    was j u r = (r.0, omega (arith, r.1, k.long), k.same r.0 r.1 ∙ r.2, omega (arith, n.same r.0 (omega (arith, r.1, long)), r.3))

    came : (j u : ℕ) → done ≤ j → list_any (eqb u) new ≡ true → (i : ℕ) × (i < length new) × (get_or new i 0 ≡ u) × (get_or more i 0 ≤ j)
    came j u le is = let r = index-of u new is in (r.0, r.1, r.2, omega (arith, behind r.0 r.1, le))

module _ (p : Pairs) (met : List ℕ) (closed : (u w : ℕ) → list_any (eqb u) met ≡ true → pairs_of p u w ≡ true → list_any (eqb w) met ≡ true) where
  -- To where a walk from one of those met leads, an edge leads from one of those met.
  last-edge : (a : ℕ) (vs : List ℕ) (b : ℕ) → IsWalk (pairs_of p) a vs b → list_any (eqb a) met ≡ true → (x : ℕ) × (list_any (eqb x) met ≡ true) × (pairs_of p x b ≡ true)
  last-edge a [] b walk is = (a, is, walk)
  last-edge a (v ∷ vs) b walk is = last-edge v vs b walk.1 (closed a v is walk.0)

-- If all are looked at, t is on no cycle.
pub looked-none : (p : Pairs) (t : ℕ) (met parents : List ℕ) (done : ℕ) → 0 < length met → get_or met 0 0 ≡ t → IsLookedAt p t met parents done → length met ≤ done → Reaches (pairs_of p) t t → ⊥
looked-none p t met parents done some first h all r =
    let x = last-edge p met closed t r.others t r.walk (subst (λ (u : ℕ). list_any (eqb u) met ≡ true) first (any-at met 0 some)) in
    let i = index-of x.0 met x.1 in
    false≢true (sym (h.not_closed i.0 (omega (arith, i.1, all))) ∙ rw i.2 x.2)
  where
    closed : (u w : ℕ) → list_any (eqb u) met ≡ true → pairs_of p u w ≡ true → list_any (eqb w) met ≡ true
    closed u w is edge =
        let i = index-of u met is in
        let r = h.all i.0 w (omega (arith, i.1, all)) (rw i.2 edge) in
        subst (λ (x : ℕ). list_any (eqb x) met ≡ true) r.2 (any-at met r.0 r.1)
