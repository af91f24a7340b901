-- The list of ended waits: two sessions exchange their places, and which are listed then.
use Rattle.std.proofs.Common.{◌≡◌, ◌≢◌, ℕ, zero, suc, ◌+◌, ◌-◌, ◌<◌, ◌≤◌, ◌↔◌, Bool, true, false, cond, not, eqb, leb, ltb, ◌&&◌, ◌||◌, inl, inr, List, [], ◌∷◌, ◌++◌, length, get_or, set, take, Contains, refl, sym, ◌∙◌, ap, arith, subst}
use Rattle.std.proofs.Math.Bool.{or-false, or-true, and-false, and-true}
use Rattle.std.proofs.lemmas.Bool.{and_parts, and_from, cases_Bool, cases_eq, cases_lt, leb-true, le-ltb}
use Rattle.std.proofs.lemmas.Bool.Decides.{nat_tests, Decides-eqb, Decides-ltb}
use Rattle.std.proofs.lemmas.List.{get_or-set_same, get_or-set_other, length-set, get_or_default, get_or-take, length-take-le}
use Rattle.lock_holders.specs.Woken.{WokenListView, is_ended, ended_in}
use Rattle.lock_holders.specs.inner.Places.{ArePlaced}
use Rattle.lock_holders.proofs.FilteredNumbers.{no-numbers}

-- tests of numbers
pub eqb-apart : (a b : ℕ) → a ≢ b → eqb a b ≡ false
eqb-apart a b n = elim (cases_Bool (eqb a b)) [ inl h ↦ absurd (n ((Decides-eqb a b).0 h)) | inr h ↦ h ]

-- an item of a list after two writes, the second of which may overwrite the first
twice-second : (xs : List ℕ) (i j x y : ℕ) → j < length xs → get_or (set (set xs i x) j y) j 0 ≡ y
twice-second xs i j x y lt = get_or-set_same (set xs i x) j y 0 (omega (arith, lt, length-set xs i x))

twice-first : (xs : List ℕ) (i j x y : ℕ) → i < length xs → i ≢ j → get_or (set (set xs i x) j y) i 0 ≡ x
twice-first xs i j x y lt n = get_or-set_other (set xs i x) j i y 0 n ∙ get_or-set_same xs i x 0 lt

twice-other : (xs : List ℕ) (i j k x y : ℕ) → k ≢ i → k ≢ j → get_or (set (set xs i x) j y) k 0 ≡ get_or xs k 0
twice-other xs i j k x y n m = get_or-set_other (set xs i x) j k y 0 m ∙ get_or-set_other xs i k x 0 n

-- a session exchanges its place with the session at place j

module _ (ss ps : List ℕ) (h : ArePlaced ss ps) (s j : ℕ) (some : 1 ≤ s) (within : s ≤ length ps) (lt : j < length ps) where
  -- the position of the session, its place, and the session at place j
  abbrev own : ℕ
  own = s - 1

  abbrev from : ℕ
  from = get_or ps own 0

  abbrev other : ℕ
  other = get_or ss j 0

  abbrev ss-new : List ℕ
  ss-new = set (set ss from other) j s

  abbrev ps-new : List ℕ
  ps-new = set (set ps (other - 1) from) own j

  own-lt : own < length ps
  own-lt = omega (arith, some, within)

  from-lt : from < length ps
  from-lt = h.placed own own-lt

  from-there : get_or ss from 0 ≡ s
  from-there = omega (arith, h.there own own-lt, some)

  other-back : get_or ps (other - 1) 0 ≡ j
  other-back = h.back j lt

  other-lt : other - 1 < length ps
  other-lt = omega (arith, h.some j lt, h.within j lt)

  -- what is at each place now
  at-j : get_or ss-new j 0 ≡ s
  at-j = twice-second ss from j other s (omega (arith, lt, h.long))

  at-from : from ≢ j → get_or ss-new from 0 ≡ other
  at-from n = twice-first ss from j other s (omega (arith, from-lt, h.long)) n

  at-rest : (i : ℕ) → i ≢ from → i ≢ j → get_or ss-new i 0 ≡ get_or ss i 0
  at-rest i n m = twice-other ss from j i other s n m

  -- and at which place each session is
  of-own : get_or ps-new own 0 ≡ j
  of-own = twice-second ps (other - 1) own from j own-lt

  of-other : other - 1 ≢ own → get_or ps-new (other - 1) 0 ≡ from
  of-other n = twice-first ps (other - 1) own from j other-lt n

  of-rest : (q : ℕ) → q ≢ other - 1 → q ≢ own → get_or ps-new q 0 ≡ get_or ps q 0
  of-rest q n m = twice-other ps (other - 1) own q from j n m

  long-new : length ps-new ≡ length ps
  long-new = length-set (set ps (other - 1) from) own j ∙ length-set ps (other - 1) from

  ss-long : length ss-new ≡ length ss
  ss-long = length-set (set ss from other) j s ∙ length-set ss from other

  -- a place that is not j isn't that of the other session, and so on
  apart-other : (i : ℕ) → i < length ps → i ≢ j → get_or ss i 0 - 1 ≢ other - 1
  apart-other i l n e = n (sym (h.back i l) ∙ (ap (λ (q : ℕ). get_or ps q 0) e ∙ other-back))

  apart-own : (i : ℕ) → i < length ps → i ≢ from → get_or ss i 0 - 1 ≢ own
  apart-own i l n e = n (sym (h.back i l) ∙ ap (λ (q : ℕ). get_or ps q 0) e)

  other-own : from ≢ j → other - 1 ≢ own
  other-own n e = n (ap (λ (q : ℕ). get_or ps q 0) (sym e) ∙ other-back)

  other-from : own ≢ other - 1 → from ≢ j
  other-from n e = n (omega (arith, from-there, some, ap (λ (i : ℕ). get_or ss i 0) e))

  moved-some : (i : ℕ) → i < length ps → 1 ≤ get_or ss-new i 0
  moved-some i l = elim (cases_eq i j) [
    | inl e ↦ omega (arith, ap (λ (k : ℕ). get_or ss-new k 0) e, at-j, some)
    | inr n ↦ elim (cases_eq i from) [
      | inl e ↦ omega (arith, ap (λ (k : ℕ). get_or ss-new k 0) e, at-from (λ f. n (e ∙ f)), h.some j lt)
      | inr m ↦ omega (arith, at-rest i m n, h.some i l)
    ]
  ]

  moved-within : (i : ℕ) → i < length ps → get_or ss-new i 0 ≤ length ps
  moved-within i l = elim (cases_eq i j) [
    | inl e ↦ omega (arith, ap (λ (k : ℕ). get_or ss-new k 0) e, at-j, within)
    | inr n ↦ elim (cases_eq i from) [
      | inl e ↦ omega (arith, ap (λ (k : ℕ). get_or ss-new k 0) e, at-from (λ f. n (e ∙ f)), h.within j lt)
      | inr m ↦ omega (arith, at-rest i m n, h.within i l)
    ]
  ]

  moved-back : (i : ℕ) → i < length ps → get_or ps-new (get_or ss-new i 0 - 1) 0 ≡ i
  moved-back i l = elim (cases_eq i j) [
    | inl e ↦ ap (λ (k : ℕ). get_or ps-new (get_or ss-new k 0 - 1) 0) e ∙ (ap (λ (k : ℕ). get_or ps-new (k - 1) 0) at-j ∙ (of-own ∙ sym e))
    | inr n ↦ elim (cases_eq i from) [
      | inl e ↦
          let m = λ (f : from ≡ j). n (e ∙ f) in
          ap (λ (k : ℕ). get_or ps-new (get_or ss-new k 0 - 1) 0) e ∙ (ap (λ (k : ℕ). get_or ps-new (k - 1) 0) (at-from m) ∙ (of-other (other-own m) ∙ sym e))
      | inr m ↦ ap (λ (k : ℕ). get_or ps-new (k - 1) 0) (at-rest i m n) ∙ (of-rest (get_or ss i 0 - 1) (apart-other i l n) (apart-own i l m) ∙ h.back i l)
    ]
  ]

  moved-placed : (q : ℕ) → q < length ps → get_or ps-new q 0 < length ps
  moved-placed q l = elim (cases_eq q own) [
    | inl e ↦ omega (arith, ap (λ (k : ℕ). get_or ps-new k 0) e, of-own, lt)
    | inr n ↦ elim (cases_eq q (other - 1)) [
      | inl e ↦ omega (arith, ap (λ (k : ℕ). get_or ps-new k 0) e, of-other (λ f. n (e ∙ f)), from-lt)
      | inr m ↦ omega (arith, of-rest q m n, h.placed q l)
    ]
  ]

  moved-there : (q : ℕ) → q < length ps → get_or ss-new (get_or ps-new q 0) 0 ≡ q + 1
  moved-there q l = elim (cases_eq q own) [
    | inl e ↦ ap (λ (k : ℕ). get_or ss-new (get_or ps-new k 0) 0) e ∙ (ap (λ (k : ℕ). get_or ss-new k 0) of-own ∙ (at-j ∙ omega (arith, e, some)))
    | inr n ↦ elim (cases_eq q (other - 1)) [
      | inl e ↦
          let m = other-from (λ (f : own ≡ other - 1). n (e ∙ sym f)) in
          ap (λ (k : ℕ). get_or ss-new (get_or ps-new k 0) 0) e ∙ (ap (λ (k : ℕ). get_or ss-new k 0) (of-other (λ f. n (e ∙ f))) ∙ (at-from m ∙ omega (arith, e, h.some j lt)))
      | inr m ↦
          let there = h.there q l in
          ap (λ (k : ℕ). get_or ss-new k 0) (of-rest q m n)
          ∙ (at-rest (get_or ps q 0) (λ f. n (omega (arith, there, ap (λ (k : ℕ). get_or ss k 0) f, from-there, some))) (λ f. m (omega (arith, there, ap (λ (k : ℕ). get_or ss k 0) f, h.some j lt))) ∙ there)
    ]
  ]

  -- each session still has its place
  pub moved : ArePlaced ss-new ps-new
  moved = record {
    long = ss-long ∙ (h.long ∙ sym long-new);
    some = λ i l. moved-some i (omega (arith, l, long-new));
    within = λ i l. omega (arith, moved-within i (omega (arith, l, long-new)), long-new);
    back = λ i l. moved-back i (omega (arith, l, long-new));
    placed = λ q l. omega (arith, moved-placed q (omega (arith, l, long-new)), long-new);
    there = λ q l. moved-there q (omega (arith, l, long-new));
  }

-- the same, with the values that were read
pub moved-by : (ss ps : List ℕ) → ArePlaced ss ps → (s j p x y o : ℕ) → 1 ≤ s → s ≤ length ps → j < length ps → p ≡ s - 1 → x ≡ get_or ps p x → y ≡ get_or ss j y → o ≡ y - 1 → ArePlaced (set (set ss x y) j s) (set (set ps o x) p j)
moved-by ss ps h s j p x y o some within lt is read there at =
    let from : x ≡ get_or ps (s - 1) 0 = read ∙ (get_or_default ps p x 0 (omega (arith, is, some, within)) ∙ ap (λ (q : ℕ). get_or ps q 0) is) in
    let other : y ≡ get_or ss j 0 = there ∙ get_or_default ss j y 0 (omega (arith, lt, h.long)) in
    let own : o ≡ get_or ss j 0 - 1 = at ∙ ap (λ (v : ℕ). v - 1) other in
    subst (λ (q : ℕ). ArePlaced (set (set ss x y) j s) (set (set ps o x) q j)) (sym is)
    (subst (λ (q : ℕ). ArePlaced (set (set ss x y) j s) (set (set ps q x) (s - 1) j)) (sym own)
    (subst (λ (v : ℕ). ArePlaced (set (set ss x v) j s) (set (set ps (get_or ss j 0 - 1) x) (s - 1) j)) (sym other)
    (subst (λ (v : ℕ). ArePlaced (set (set ss v (get_or ss j 0)) j s) (set (set ps (get_or ss j 0 - 1) v) (s - 1) j)) (sym from) (moved ss ps h s j some within lt))))

-- no two sessions have the same place
pub one-place : (ss ps : List ℕ) → ArePlaced ss ps → (q r : ℕ) → q < length ps → r < length ps → get_or ps q 0 ≡ get_or ps r 0 → q ≡ r
one-place ss ps h q r l m e = omega (arith, h.there q l, h.there r m, ap (λ (k : ℕ). get_or ss k 0) e)

-- a new list

-- one more item at the end
pub push-at : (f : ℕ → ℕ) (xs : List ℕ) (x n : ℕ) → ((i : ℕ) → i < length xs → get_or xs i 0 ≡ f i) → x ≡ f (length xs) → (i : ℕ) → i < length xs + 1 → get_or (xs ++ x ∷ []) i 0 ≡ f i
push-at f [] x n h e zero l = e
push-at f [] x n h e (suc i) l = absurd (omega (arith, l))
push-at f (y ∷ xs) x n h e zero l = h zero (omega arith)
push-at f (y ∷ xs) x n h e (suc i) l = push-at (λ k. f (suc k)) xs x n (λ k m. h (suc k) (omega (arith, m))) e i (omega (arith, l))

-- at first each session is at its position
pub first-placed : (ss ps : List ℕ) → length ss ≡ length ps → ((i : ℕ) → i < length ps → get_or ss i 0 ≡ i + 1) → ((i : ℕ) → i < length ps → get_or ps i 0 ≡ i) → ArePlaced ss ps
first-placed ss ps long all places = record {
  long = long;
  some = λ i l. omega (arith, all i l);
  within = λ i l. omega (arith, all i l, l);
  back = λ i l. ap (λ (v : ℕ). get_or ps (v - 1) 0) (all i l) ∙ (ap (λ (v : ℕ). get_or ps v 0) (omega arith) ∙ places i l);
  placed = λ p l. omega (arith, places p l, l);
  there = λ p l. ap (λ (v : ℕ). get_or ss v 0) (places p l) ∙ all p l;
}

-- which sessions are listed

-- a test of a number in the range, and one beyond it
in-range : (u n : ℕ) → 1 ≤ u → u ≤ n → (leb 1 u && leb u n) ≡ true
in-range u n some within = grind (arith, nat_tests)

not-in-range : (u n : ℕ) → (leb 1 u && leb u n) ≡ false → (1 ≤ u) → (u ≤ n) → ⊥
not-in-range u n e some within = let k = in-range u n some within in cc

-- one more is listed: its place was behind those that are listed, and is that behind them now
core-added : (u s x y c from : ℕ) → 1 ≤ u → 1 ≤ s → y ≡ cond (eqb (u - 1) (s - 1)) c (cond (eqb x c) from x) → ltb from c ≡ false → (x ≡ from → u - 1 ≡ s - 1) → ltb y (c + 1) ≡ (ltb x c || eqb u s)
core-added u s x y c from some any e behind one = elim (cases_eq (u - 1) (s - 1)) [
  | inl f ↦
      let is : u ≡ s = omega (arith, f, some, any) in
      let here : y ≡ c = e ∙ ap (λ (b : Bool). cond b c (cond (eqb x c) from x)) ((Decides-eqb (u - 1) (s - 1)).1 f) in
      (Decides-ltb y (c + 1)).1 (omega (arith, here)) ∙ sym (ap (λ (b : Bool). ltb x c || b) ((Decides-eqb u s).1 is) ∙ or-true (ltb x c))
  | inr n ↦
      let apart : eqb u s ≡ false = eqb-apart u s (λ f. n (ap (λ (k : ℕ). k - 1) f)) in
      let here : y ≡ cond (eqb x c) from x = e ∙ ap (λ (b : Bool). cond b c (cond (eqb x c) from x)) (eqb-apart (u - 1) (s - 1) n) in
      rest n here ∙ sym (ap (λ (b : Bool). ltb x c || b) apart ∙ or-false (ltb x c))
]
  where
    rest : (u - 1 ≢ s - 1) → y ≡ cond (eqb x c) from x → ltb y (c + 1) ≡ ltb x c
    rest n here = elim (cases_eq x c) [
      | inl f ↦
          let is : y ≡ from = here ∙ ap (λ (b : Bool). cond b from x) ((Decides-eqb x c).1 f) in
          let m : x ≢ from = λ g. n (one g) in
          let far : c ≤ from = grind (arith, nat_tests) in
          le-ltb y (c + 1) (omega (arith, is, far, m, f)) ∙ sym (le-ltb x c (omega (arith, f)))
      | inr m ↦
          let is : y ≡ x = here ∙ ap (λ (b : Bool). cond b from x) (eqb-apart x c m) in
          elim (cases_lt x c) [
            | inl l ↦ (Decides-ltb y (c + 1)).1 (omega (arith, is, l)) ∙ sym ((Decides-ltb x c).1 l)
            | inr l ↦ le-ltb y (c + 1) (omega (arith, is, l, m)) ∙ sym (le-ltb x c l)
          ]
    ]

-- one is listed no more: its place was among those that are listed, and is the last of them now
core-removed : (u s x y c from : ℕ) → 1 ≤ u → 1 ≤ s → y ≡ cond (eqb (u - 1) (s - 1)) (c - 1) (cond (eqb x (c - 1)) from x) → from < c → (x ≡ from → u - 1 ≡ s - 1) → ltb y (c - 1) ≡ (ltb x c && not (eqb u s))
core-removed u s x y c from some any e among one = elim (cases_eq (u - 1) (s - 1)) [
  | inl f ↦
      let is : u ≡ s = omega (arith, f, some, any) in
      let here : y ≡ c - 1 = e ∙ ap (λ (b : Bool). cond b (c - 1) (cond (eqb x (c - 1)) from x)) ((Decides-eqb (u - 1) (s - 1)).1 f) in
      le-ltb y (c - 1) (omega (arith, here)) ∙ sym (ap (λ (b : Bool). ltb x c && not b) ((Decides-eqb u s).1 is) ∙ and-false (ltb x c))
  | inr n ↦
      let apart : eqb u s ≡ false = eqb-apart u s (λ f. n (ap (λ (k : ℕ). k - 1) f)) in
      let here : y ≡ cond (eqb x (c - 1)) from x = e ∙ ap (λ (b : Bool). cond b (c - 1) (cond (eqb x (c - 1)) from x)) (eqb-apart (u - 1) (s - 1) n) in
      rest n here ∙ sym (ap (λ (b : Bool). ltb x c && not b) apart ∙ and-true (ltb x c))
]
  where
    rest : (u - 1 ≢ s - 1) → y ≡ cond (eqb x (c - 1)) from x → ltb y (c - 1) ≡ ltb x c
    rest n here = elim (cases_eq x (c - 1)) [
      | inl f ↦
          let is : y ≡ from = here ∙ ap (λ (b : Bool). cond b from x) ((Decides-eqb x (c - 1)).1 f) in
          let m : x ≢ from = λ g. n (one g) in
          (Decides-ltb y (c - 1)).1 (omega (arith, is, among, m, f)) ∙ sym ((Decides-ltb x c).1 (omega (arith, f, among)))
      | inr m ↦
          let is : y ≡ x = here ∙ ap (λ (b : Bool). cond b from x) (eqb-apart x (c - 1) m) in
          elim (cases_lt x c) [
            | inl l ↦ (Decides-ltb y (c - 1)).1 (omega (arith, is, l, m)) ∙ sym ((Decides-ltb x c).1 l)
            | inr l ↦ le-ltb y (c - 1) (omega (arith, is, l)) ∙ sym (le-ltb x c l)
          ]
    ]

module _ (ss ps : List ℕ) (h : ArePlaced ss ps) (s c : ℕ) (some : 1 ≤ s) (within : s ≤ length ps) (qs : List ℕ) (j : ℕ) (long : length qs ≡ length ps)
    (places : (q : ℕ) → q < length ps → get_or qs q 0 ≡ cond (eqb q (s - 1)) j (cond (eqb (get_or ps q 0) j) (get_or ps (s - 1) 0) (get_or ps q 0))) where
  abbrev place : ℕ
  place = get_or ps (s - 1) 0

  one : (u : ℕ) → 1 ≤ u → u ≤ length ps → get_or ps (u - 1) 0 ≡ place → u - 1 ≡ s - 1
  one u any l e = one-place ss ps h (u - 1) (s - 1) (omega (arith, any, l)) (omega (arith, some, within)) e

  -- beyond the range nothing is listed
  beyond : (u : ℕ) → (leb 1 u && leb u (length ps)) ≡ false → eqb u s ≡ false
  beyond u e = eqb-apart u s (λ f. not-in-range u (length ps) e (omega (arith, f, some)) (omega (arith, f, within)))

  still-beyond : (u : ℕ) → (leb 1 u && leb u (length qs)) ≡ (leb 1 u && leb u (length ps))
  still-beyond u = ap (λ (n : ℕ). leb 1 u && leb u n) long

  within-range : (u : ℕ) → (leb 1 u && leb u (length ps)) ≡ true → (1 ≤ u) × (u ≤ length ps)
  within-range u e = let p = and_parts (leb 1 u) (leb u (length ps)) e in (leb-true 1 u p.0, leb-true u (length ps) p.1)

  pub added : j ≡ c → ltb place c ≡ false → (u : ℕ) → is_ended (record { places = qs; count = c + 1 }) u ≡ (is_ended (record { places = ps; count = c }) u || eqb u s)
  added at behind u = ap (λ (b : Bool). b && ltb (get_or qs (u - 1) 0) (c + 1)) (still-beyond u) ∙ go (leb 1 u && leb u (length ps)) refl
    where
      go : (b : Bool) → (leb 1 u && leb u (length ps)) ≡ b → (b && ltb (get_or qs (u - 1) 0) (c + 1)) ≡ ((b && ltb (get_or ps (u - 1) 0) c) || eqb u s)
      go false e = sym (beyond u e)
      go true e =
          let r = within-range u e in
          core-added u s (get_or ps (u - 1) 0) (get_or qs (u - 1) 0) c place r.0 some
          (subst (λ (i : ℕ). get_or qs (u - 1) 0 ≡ cond (eqb (u - 1) (s - 1)) i (cond (eqb (get_or ps (u - 1) 0) i) place (get_or ps (u - 1) 0))) at (places (u - 1) (omega (arith, r.0, r.1)))) behind (one u r.0 r.1)

  pub removed : j ≡ c - 1 → place < c → (u : ℕ) → is_ended (record { places = qs; count = c - 1 }) u ≡ (is_ended (record { places = ps; count = c }) u && not (eqb u s))
  removed at among u = ap (λ (b : Bool). b && ltb (get_or qs (u - 1) 0) (c - 1)) (still-beyond u) ∙ go (leb 1 u && leb u (length ps)) refl
    where
      go : (b : Bool) → (leb 1 u && leb u (length ps)) ≡ b → (b && ltb (get_or qs (u - 1) 0) (c - 1)) ≡ ((b && ltb (get_or ps (u - 1) 0) c) && not (eqb u s))
      go false e = refl
      go true e =
          let r = within-range u e in
          core-removed u s (get_or ps (u - 1) 0) (get_or qs (u - 1) 0) c place r.0 some
          (subst (λ (i : ℕ). get_or qs (u - 1) 0 ≡ cond (eqb (u - 1) (s - 1)) i (cond (eqb (get_or ps (u - 1) 0) i) place (get_or ps (u - 1) 0))) at (places (u - 1) (omega (arith, r.0, r.1)))) among (one u r.0 r.1)

-- the list as it is handed out

-- it has exactly the sessions that are listed
pub handed : (ss ps : List ℕ) (c : ℕ) → ArePlaced ss ps → c ≤ length ps → (u : ℕ) → Contains (take c ss) u ↔ (is_ended (record { places = ps; count = c }) u ≡ true)
handed ss ps c h few u = (to, back_)
  where
    to : Contains (take c ss) u → is_ended (record { places = ps; count = c }) u ≡ true
    to k =
        let i = k.0 in
        let front : i < c = omega (arith, k.1, length-take-le c ss (omega (arith, few, h.long))) in
        let l : i < length ps = omega (arith, front, few) in
        let at : get_or ss i 0 ≡ u = get_or_default ss i 0 u (omega (arith, l, h.long)) ∙ (sym (get_or-take c ss i u front) ∙ k.2) in
        let back : get_or ps (u - 1) 0 ≡ i = ap (λ (v : ℕ). get_or ps (v - 1) 0) (sym at) ∙ h.back i l in
        and_from (leb 1 u && leb u (length ps)) (ltb (get_or ps (u - 1) 0) c) (in-range u (length ps) (omega (arith, h.some i l, at)) (omega (arith, h.within i l, at)))
        ((Decides-ltb (get_or ps (u - 1) 0) c).1 (omega (arith, back, front)))

    back_ : is_ended (record { places = ps; count = c }) u ≡ true → Contains (take c ss) u
    back_ e =
        let p = and_parts (leb 1 u && leb u (length ps)) (ltb (get_or ps (u - 1) 0) c) e in
        let r = and_parts (leb 1 u) (leb u (length ps)) p.0 in
        let some = leb-true 1 u r.0 in
        let within = leb-true u (length ps) r.1 in
        let i = get_or ps (u - 1) 0 in
        let front : i < c = (Decides-ltb i c).0 p.1 in
        let l : i < length ss = omega (arith, front, few, h.long) in
        (i, omega (arith, front, length-take-le c ss (omega (arith, few, h.long))), get_or-take c ss i u front ∙ (get_or_default ss i u 0 l ∙ omega (arith, h.there (u - 1) (omega (arith, some, within)), some)))

-- a session that is listed is in the range
pub waits_ended-within : (v : WokenListView) (u : ℕ) → is_ended v u ≡ true → (1 ≤ u) × (u ≤ length v.places)
waits_ended-within v u e =
    let p = and_parts (leb 1 u && leb u (length v.places)) (ltb (get_or v.places (u - 1) 0) v.count) e in
    let r = and_parts (leb 1 u) (leb u (length v.places)) p.0 in
    (leb-true 1 u r.0, leb-true u (length v.places) r.1)

-- nothing is listed once the list is cleared
pub none-waits_ended : (v : WokenListView) → v.count ≡ 0 → (u : ℕ) → is_ended v u ≡ false
none-waits_ended v e u =
    ap (λ (c : ℕ). (leb 1 u && leb u (length v.places)) && ltb (get_or v.places (u - 1) 0) c) e
    ∙ (ap (λ (b : Bool). (leb 1 u && leb u (length v.places)) && b) (le-ltb (get_or v.places (u - 1) 0) 0 (omega arith)) ∙ and-false (leb 1 u && leb u (length v.places)))

pub none-in : (v : WokenListView) → v.count ≡ 0 → ended_in v ≡ []
none-in v e = no-numbers (is_ended v) 1 (length v.places) (none-waits_ended v e)
