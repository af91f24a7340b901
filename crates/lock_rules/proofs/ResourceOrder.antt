-- Lists of resources that strictly rise in the order of resources.
use Rattle.std.proofs.Common.{◌≡◌, ℕ, suc, ◌+◌, ◌<◌, Bool, true, false, cond, eqb, ltb, ◌&&◌, ◌||◌, inl, inr, List, [], ◌∷◌, length, get_or, refl, sym, ◌∙◌, ap, subst, arith}
use Rattle.std.proofs.lemmas.Bool.{cases_Bool, and_parts, and_from}
use Rattle.std.proofs.lemmas.Cmp.{nat_list_cmp_total, tied_itself}
use Rattle.std.proofs.lemmas.Map.Keys.{IsDistinct-head, IsDistinct-tail}
use Rattle.std.specs.Cmp.{IsTotalOrder}
use Rattle.std.specs.List.{IsDistinct, list_any}
use Rattle.std.specs.Ordering.{is_lt, ordering_then, ordering_reverse}
use Rattle.std.specs.declared.cmp.Ordering.{Ordering}
use Rattle.std.specs.declared.cmp.Ordering.TheVariants.{Less, Equal, Greater}
use Rattle.lock_tree.specs.Paths.{path_cmp, same_path}
use Rattle.lock_rules.specs.Listing.{is_less, comes_before, with_path}
use Rattle.lock_rules.proofs.Lists.{same_path-refl, same_path-true, same_path_tells}

-- a test that passes and fails
pub contrary : (b : Bool) → b ≡ true → b ≡ false → ⊥
contrary b h k = cc

-- the order of resources

-- it is a total order
total : IsTotalOrder path_cmp
total = nat_list_cmp_total

-- the test for `Less` tells
pub less-tells : (o : Ordering) → is_less o ≡ true → o ≡ Less
less-tells Less h = refl
less-tells Equal h = absurd (cc)
less-tells Greater h = absurd (cc)

-- resources that tie are the same
tie-same : (a b : List ℕ) → path_cmp a b ≡ Equal → same_path a b ≡ true
tie-same [] [] h = refl
tie-same [] (y ∷ ys) h = absurd (cc)
tie-same (x ∷ xs) [] h = absurd (cc)
tie-same (x ∷ xs) (y ∷ ys) h = go (ltb x y) (eqb x y) refl h (tie-same xs ys)
  where
    go : (b c : Bool) → eqb x y ≡ c → ordering_then (cond b Less (cond c Equal Greater)) (path_cmp xs ys) ≡ Equal → (path_cmp xs ys ≡ Equal → same_path xs ys ≡ true) → (eqb x y && same_path xs ys) ≡ true
    go true c e k next = absurd (cc)
    go false true e k next = and_from (eqb x y) (same_path xs ys) e (next k)
    go false false e k next = absurd (cc)

-- no resource comes before itself
pub before-self : (a : List ℕ) → comes_before a a ≡ false
before-self a = ap is_less (tied_itself total a)

-- what comes before one comes before those behind it
pub before-then : (a b c : List ℕ) → comes_before a b ≡ true → comes_before b c ≡ true → comes_before a c ≡ true
before-then a b c h k = ap is_less (total.trans a b c (less-tells _ h) (less-tells _ k))

-- of two different resources, one comes before the other
pub before-other : (a b : List ℕ) → same_path a b ≡ false → comes_before a b ≡ false → comes_before b a ≡ true
before-other a b n h = go (path_cmp a b) refl h
  where
    go : (o : Ordering) → path_cmp a b ≡ o → is_less (path_cmp a b) ≡ false → comes_before b a ≡ true
    go Less e k = absurd (contrary (comes_before a b) (ap is_less e) k)
    go Equal e k = absurd (contrary (same_path a b) (tie-same a b e) n)
    go Greater e k = ap is_less (total.antisymm b a ∙ ap ordering_reverse e)

-- one comes before the other, and not the other before the one
before-back : (a b : List ℕ) → comes_before a b ≡ true → comes_before b a ≡ false
before-back a b h = elim (cases_Bool (comes_before b a)) [
  | inl k ↦ absurd (contrary (comes_before a a) (before-then a b a h k) (before-self a))
  | inr k ↦ k
]

-- lists that rise

-- resource `r` is in the list
abbrev pub is_among : List ℕ → List (List ℕ) → Bool
is_among r rs = list_any (λ q. same_path q r) rs

-- the resource comes before the first of the list, if there is one
abbrev pub precedes : List ℕ → List (List ℕ) → Bool
precedes r [] = true
precedes r (q ∷ qs) = comes_before r q

-- each resource of the list comes before the next
abbrev pub rise : List (List ℕ) → Bool
rise [] = true
rise (r ∷ rs) = precedes r rs && rise rs

-- a resource before the first of a list that rises comes before each of them
pub before-all : (r : List ℕ) (rs : List (List ℕ)) (q : List ℕ) → precedes r rs ≡ true → rise rs ≡ true → is_among q rs ≡ true → comes_before r q ≡ true
before-all r [] q p h k = absurd (cc)
before-all r (x ∷ rs) q p h k =
    let parts = and_parts (precedes x rs) (rise rs) h in
    elim (same_path_tells x q) [
      | inl e ↦ ap (comes_before r) (sym e.1) ∙ p
      | inr n ↦ before-then r x q p (before-all x rs q parts.0 parts.1 (sym (ap (λ (b : Bool). b || is_among q rs) n) ∙ k))
    ]

-- so it isn't one of them
pub not-behind : (r : List ℕ) (rs : List (List ℕ)) → precedes r rs ≡ true → rise rs ≡ true → is_among r rs ≡ false
not-behind r rs p h = elim (cases_Bool (is_among r rs)) [
  | inl k ↦ absurd (contrary (comes_before r r) (before-all r rs r p h k) (before-self r))
  | inr k ↦ k
]

-- two lists that rise and have the same resources are equal
pub same-lists : (xs ys : List (List ℕ)) → rise xs ≡ true → rise ys ≡ true → ((r : List ℕ) → is_among r xs ≡ is_among r ys) → xs ≡ ys
same-lists [] [] h k e = refl
same-lists [] (y ∷ ys) h k e = absurd (contrary (is_among y (y ∷ ys)) (ap (λ (b : Bool). b || is_among y ys) (same_path-refl y)) (sym (e y)))
same-lists (x ∷ xs) [] h k e = absurd (contrary (is_among x (x ∷ xs)) (ap (λ (b : Bool). b || is_among x xs) (same_path-refl x)) (e x))
same-lists (x ∷ xs) (y ∷ ys) h k e = λ i. first i ∷ same-lists xs ys p.1 q.1 rest i
  where
    p : (precedes x xs ≡ true) × (rise xs ≡ true)
    p = and_parts (precedes x xs) (rise xs) h

    q : (precedes y ys ≡ true) × (rise ys ≡ true)
    q = and_parts (precedes y ys) (rise ys) k

    -- the first of one list is the first of the other, or behind it
    x-there : (same_path y x || is_among x ys) ≡ true
    x-there = sym (e x) ∙ ap (λ (b : Bool). b || is_among x xs) (same_path-refl x)

    y-there : (same_path x y || is_among y xs) ≡ true
    y-there = e y ∙ ap (λ (b : Bool). b || is_among y ys) (same_path-refl y)

    first : x ≡ y
    first = elim (same_path_tells y x) [
      | inl s ↦ sym s.1
      | inr s ↦ elim (same_path_tells x y) [
        | inl t ↦ t.1
        | inr t ↦ absurd (contrary (comes_before x y)
            (before-all x xs y p.0 p.1 (sym (ap (λ (b : Bool). b || is_among y xs) t) ∙ y-there))
            (before-back y x (before-all y ys x q.0 q.1 (sym (ap (λ (b : Bool). b || is_among x ys) s) ∙ x-there))))
      ]
    ]

    rest : (r : List ℕ) → is_among r xs ≡ is_among r ys
    rest r = elim (same_path_tells x r) [
      | inl s ↦ ap (λ (z : List ℕ). is_among z xs) (sym s.1) ∙ (not-behind x xs p.0 p.1 ∙ (sym (not-behind y ys q.0 q.1) ∙ ap (λ (z : List ℕ). is_among z ys) (sym first ∙ s.1)))
      | inr s ↦ sym (ap (λ (b : Bool). b || is_among r xs) s) ∙ (e r ∙ ap (λ (b : Bool). b || is_among r ys) (sym (ap (λ (z : List ℕ). same_path z r) first) ∙ s))
    ]

-- a resource entered

-- the list has it and what it had
pub has-with : (q r : List ℕ) (rs : List (List ℕ)) → is_among q (with_path r rs) ≡ (same_path r q || is_among q rs)
has-with q r [] = refl
has-with q r (x ∷ rs) = go (same_path r x) (comes_before r x) refl (has-with q r rs)
  where
    go : (b c : Bool) → same_path r x ≡ b → is_among q (with_path r rs) ≡ (same_path r q || is_among q rs)
        → is_among q (cond b (x ∷ rs) (cond c (r ∷ x ∷ rs) (x ∷ with_path r rs))) ≡ (same_path r q || (same_path x q || is_among q rs))
    go true c e next = let same = same_path-true r x e in sym (ap (λ (z : List ℕ). same_path z q || (same_path x q || is_among q rs)) same ∙ twice (same_path x q) (is_among q rs))
      where
        twice : (b c : Bool) → (b || (b || c)) ≡ (b || c)
        twice true c = refl
        twice false c = refl
    go false true e next = refl
    go false false e next = ap (λ (b : Bool). same_path x q || b) next ∙ swap (same_path x q) (same_path r q) (is_among q rs)
      where
        swap : (a b c : Bool) → (a || (b || c)) ≡ (b || (a || c))
        swap true true c = refl
        swap true false c = refl
        swap false b c = refl

-- what comes before it and before the first of the list comes before the first of the list with it
precedes-with : (x r : List ℕ) (rs : List (List ℕ)) → comes_before x r ≡ true → precedes x rs ≡ true → precedes x (with_path r rs) ≡ true
precedes-with x r [] h k = h
precedes-with x r (y ∷ rs) h k = go (same_path r y) (comes_before r y)
  where
    go : (b c : Bool) → precedes x (cond b (y ∷ rs) (cond c (r ∷ y ∷ rs) (y ∷ with_path r rs))) ≡ true
    go true c = k
    go false true = h
    go false false = k

-- the list still rises
pub rise-with : (r : List ℕ) (rs : List (List ℕ)) → rise rs ≡ true → rise (with_path r rs) ≡ true
rise-with r [] h = refl
rise-with r (x ∷ rs) h = let p = and_parts (precedes x rs) (rise rs) h in go (same_path r x) (comes_before r x) refl refl p.0 (rise-with r rs p.1)
  where
    go : (b c : Bool) → same_path r x ≡ b → comes_before r x ≡ c → precedes x rs ≡ true → rise (with_path r rs) ≡ true → rise (cond b (x ∷ rs) (cond c (r ∷ x ∷ rs) (x ∷ with_path r rs))) ≡ true
    go true c e f p next = h
    go false true e f p next = and_from (comes_before r x) (precedes x rs && rise rs) f h
    go false false e f p next = and_from (precedes x (with_path r rs)) (rise (with_path r rs)) (precedes-with x r rs (before-other r x e f) p) next

-- a sorted list

-- different resources of which none comes before the one in front of it rise
pub rise-sorted : (xs : List (List ℕ)) → ((k : ℕ) (d : List ℕ) → k + 1 < length xs → is_lt (path_cmp (get_or xs (k + 1) d) (get_or xs k d)) ≡ false) → IsDistinct same_path xs → rise xs ≡ true
rise-sorted [] h d = refl
rise-sorted (x ∷ []) h d = refl
rise-sorted (x ∷ y ∷ xs) h d =
    and_from (comes_before x y) (rise (y ∷ xs))
    (before-first (h 0 x (omega arith)) (IsDistinct-head same_path x (y ∷ xs) d).0)
    (rise-sorted (y ∷ xs) (λ k e lt. let next : suc k + 1 ≡ suc (k + 1) = omega arith in
    subst (λ (n : ℕ). is_lt (path_cmp (get_or (x ∷ y ∷ xs) n e) (get_or (y ∷ xs) k e)) ≡ false) next (h (suc k) e (omega (arith, lt)))) (IsDistinct-tail same_path x (y ∷ xs) d))
  where
    before-first : is_lt (path_cmp y x) ≡ false → same_path x y ≡ false → comes_before x y ≡ true
    before-first g n = before-other y x (sym-false n) (lt-less (path_cmp y x) g)
      where
        sym-false : same_path x y ≡ false → same_path y x ≡ false
        sym-false k = elim (same_path_tells y x) [
          | inl s ↦ absurd (contrary (same_path x y) (ap (same_path x) s.1 ∙ same_path-refl x) k)
          | inr s ↦ s
        ]

        lt-less : (o : Ordering) → is_lt o ≡ false → is_less o ≡ false
        lt-less Less k = absurd (cc)
        lt-less Equal k = refl
        lt-less Greater k = refl
