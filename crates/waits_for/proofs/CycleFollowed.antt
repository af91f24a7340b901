-- The path by which a search came to a position that waits for the first one met: a cycle, and a shortest one.
use Rattle.std.proofs.Common.{◌≡◌, ℕ, zero, suc, ◌<◌, ◌≤◌, inl, inr, true, false, eqb, List, [], ◌∷◌, length, get_or, refl, sym, ◌∙◌, ap, subst, arith}
use Rattle.std.specs.List.{IsDistinct, list_any}
use Rattle.std.proofs.lemmas.Bool.{cases_Bool, cases_lt, or_cases, eq-eqb, eqb-true, false≢true}
use Rattle.std.proofs.lemmas.List.Folds.{list_any_at}
use Rattle.std.proofs.lemmas.Map.Keys.{IsDistinct-from_apart, apart_from_distinct}
use Rattle.std.proofs.lemmas.Map.Steps.{length-le_from_distinct_below}
use Rattle.waits_for.specs.Pairs.{Pairs, pairs_of}
use Rattle.waits_for.specs.Marks.{Marking}
use Rattle.waits_for.specs.Walks.{IsWalk}
use Rattle.waits_for.specs.Cycles.{IsCycle}
use Rattle.waits_for.specs.inner.CycleMeeting.{IsMeeting, IsLookedAt}
use Rattle.waits_for.proofs.CycleMeeting.{any-at}
use Rattle.waits_for.proofs.CyclesFound.{walk-waits, walk-closed, cycle-long}

-- the path leads from the position met at index `at` to the first one met, by positions that were met behind it; from a position that
-- was met before it, no walk is as short
pub record IsFollowed (p : Pairs) (met : List ℕ) (found at : ℕ) (path : List ℕ) : Type 0 where
  pub upto : at ≤ found
  pub within : at < length met
  pub walk : IsWalk (pairs_of p) (get_or met at 0) path (get_or met 0 0)
  pub once : IsDistinct eqb path
  pub later : (u : ℕ) → list_any (eqb u) path ≡ true → (j : ℕ) × (at < j) × (j < length met) × (get_or met j 0 ≡ u)
  pub farther : (j : ℕ) → j < at → (others : List ℕ) → IsWalk (pairs_of p) (get_or met j 0) others (get_or met 0 0) → length path < length others
  pub shortest : (others : List ℕ) → IsWalk (pairs_of p) (get_or met 0 0) others (get_or met 0 0) → length path ≤ length others

-- A position in front of others that differ from it and from one another.
once-front : (u : ℕ) (xs : List ℕ) → IsDistinct eqb xs → list_any (eqb u) xs ≡ false → IsDistinct eqb (u ∷ xs)
once-front u xs once fresh = IsDistinct-from_apart eqb (u ∷ xs) apart
  where
    not-at : (j d : ℕ) → j < length xs → eqb u (get_or xs j d) ≡ false
    not-at j d lt = elim (cases_Bool (eqb u (get_or xs j d))) [
      | inl is ↦ absurd (false≢true (sym fresh ∙ list_any_at (eqb u) xs j d lt is))
      | inr is ↦ is
    ]

    apart : (i j d : ℕ) → i < j → j < length (u ∷ xs) → eqb (get_or (u ∷ xs) i d) (get_or (u ∷ xs) j d) ≡ false
    apart i zero d lt in_it = absurd (omega (arith, lt))
    apart zero (suc j) d lt in_it = not-at j d (omega (arith, in_it))
    apart (suc i) (suc j) d lt in_it = apart_from_distinct eqb xs i j d once (omega (arith, lt)) (omega (arith, in_it))

module _ (p : Pairs) (met parents : List ℕ) (found : ℕ) (looked : IsLookedAt p (get_or met 0 0) met parents found) where
  -- From a position that is looked at no edge leads to the first one met.
  not-direct : (j : ℕ) → j < found → (others : List ℕ) → IsWalk (pairs_of p) (get_or met j 0) others (get_or met 0 0) → 0 < length others
  not-direct j lt [] walk = absurd (false≢true (sym (looked.not_closed j lt) ∙ walk))
  not-direct j lt (v ∷ vs) walk = omega arith

  -- It begins with the edge that closes the cycle.
  pub followed-begun : found < length met → pairs_of p (get_or met found 0) (get_or met 0 0) ≡ true → IsFollowed p met found found []
  followed-begun lt closed = record {
    upto = omega arith;
    within = lt;
    walk = closed;
    once = IsDistinct-from_apart eqb [] (λ i j d lt in_it. absurd (omega (arith, lt, in_it)));
    later = λ u e. absurd (false≢true e);
    farther = not-direct;
    shortest = λ others walk. omega arith;
  }

module _ (p : Pairs) (met parents : List ℕ) (marks : Marking) (h : IsMeeting p met parents marks) (found at : ℕ) (path : List ℕ) (f : IsFollowed p met found at path) where
  abbrev here : ℕ
  here = get_or met at 0

  -- two positions that are met at different indices differ
  differ : (i j : ℕ) → i < j → j < length met → get_or met i 0 ≡ get_or met j 0 → ⊥
  differ i j lt in_it e = false≢true (sym (apart_from_distinct eqb met i j 0 h.once lt in_it) ∙ eq-eqb (get_or met i 0) (get_or met j 0) e)

  -- the next position isn't on the path yet
  fresh : list_any (eqb here) path ≡ false
  fresh = elim (cases_Bool (list_any (eqb here) path)) [
    | inl is ↦ let r = f.later here is in absurd (differ at r.0 r.1 r.2 (sym r.3))
    | inr is ↦ is
  ]

  -- With it, none is there twice.
  pub once-more : IsDistinct eqb (here ∷ path)
  once-more = once-front here path f.once fresh

  -- all that are followed are sessions
  inside : (u : ℕ) → list_any (eqb u) (here ∷ path) ≡ true → u < p.sessions
  inside u e = elim (or_cases (eqb u here) (list_any (eqb u) path) e) [
    | inl is ↦ h.within u (rw (eqb-true u here is) (any-at met at f.within))
    | inr was ↦ let r = f.later u was in h.within u (subst (λ (w : ℕ). list_any (eqb w) met ≡ true) r.3 (any-at met r.0 r.2))
  ]

  -- One more position finds room.
  pub followed-room : length path < p.sessions
  followed-room =
      let few = length-le_from_distinct_below (here ∷ path) p.sessions once-more inside in
      omega (arith, few)

  module _ (looked : IsLookedAt p (get_or met 0 0) met parents found) (some : 0 < at) where
    -- a position that was met by one before the parent of this one was met before this one
    earlier : (j i : ℕ) → j < get_or parents at 0 → i < length met → get_or parents i 0 ≤ j → i < at
    earlier j i lt in_it le = elim (cases_lt i at) [
      | inl low ↦ low
      | inr high ↦ elim (cases_lt at i) [
        | inl more ↦ absurd (omega (arith, lt, le, h.rising at i more in_it))
        | inr same ↦ let is : i ≡ at = omega (arith, high, same) in absurd (omega (arith, lt, le, ap (λ (n : ℕ). get_or parents n 0) is))
      ]
    ]

    -- from a position that was met before the parent no walk is as short as the longer path
    all-farther : (j : ℕ) → j < get_or parents at 0 → (others : List ℕ) → IsWalk (pairs_of p) (get_or met j 0) others (get_or met 0 0) → length (here ∷ path) < length others
    all-farther j lt [] walk = absurd (false≢true (sym (looked.not_closed j (omega (arith, lt, h.before at some f.within, f.upto))) ∙ walk))
    all-farther j lt (v ∷ vs) walk =
        let r = looked.all j v (omega (arith, lt, h.before at some f.within, f.upto)) walk.0 in
        let more = f.farther r.0 (earlier j r.0 lt r.1 r.3) vs (subst (λ (w : ℕ). IsWalk (pairs_of p) w vs (get_or met 0 0)) (sym r.2) walk.1) in
        omega (arith, more)

    -- One more position is followed.
    pub followed-more : IsFollowed p met found (get_or parents at 0) (here ∷ path)
    followed-more = record {
      upto = omega (arith, h.before at some f.within, f.upto);
      within = omega (arith, h.before at some f.within, f.within);
      walk = (h.waits at some f.within, f.walk);
      once = once-more;
      later = λ u e. elim (or_cases (eqb u here) (list_any (eqb u) path) e) [
        | inl is ↦ (at, h.before at some f.within, f.within, sym (eqb-true u here is))
        | inr was ↦ let r = f.later u was in (r.0, omega (arith, h.before at some f.within, r.1), r.2, r.3)
      ];
      farther = all-farther;
      shortest = λ others walk. omega (arith, f.farther 0 some others walk);
    }

-- With the first position that is met in front, the path is a cycle.
pub followed-cycle : (p : Pairs) (met parents : List ℕ) (marks : Marking) → IsMeeting p met parents marks → (found : ℕ) (path : List ℕ) → IsFollowed p met found 0 path → IsCycle (pairs_of p) (get_or met 0 0) (get_or met 0 0 ∷ path)
followed-cycle p met parents marks h found path f = record {
  some = omega arith;
  first = refl;
  waits = walk-waits (pairs_of p) (get_or met 0 0) path (get_or met 0 0) f.walk;
  closed = walk-closed (pairs_of p) (get_or met 0 0) path (get_or met 0 0) f.walk;
  once = once-more p met parents marks h found 0 path f;
}

-- And none is shorter.
pub followed-shortest : (p : Pairs) (met : List ℕ) (found : ℕ) (path : List ℕ) → IsFollowed p met found 0 path → (other : List ℕ) → IsCycle (pairs_of p) (get_or met 0 0) other → length (get_or met 0 0 ∷ path) ≤ length other
followed-shortest p met found path f other cycle = omega (arith, cycle-long (pairs_of p) (get_or met 0 0) (length path) f.shortest other cycle)
