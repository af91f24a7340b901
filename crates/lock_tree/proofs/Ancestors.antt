-- Ancestors are proper prefixes, and the parent is the longest one.
use Rattle.std.proofs.Common.{◌≡◌, ℕ, ◌<◌, ◌≤◌, ◌↔◌, true, false, eqb, ◌&&◌, ◌⊎◌, inl, inr, Bool, take, List, [], ◌∷◌, ◌++◌, length, refl, sym, ◌∙◌, ap, arith}
use lib.Pointwise.{pointwise}
use Rattle.std.proofs.lemmas.Bool.Decides.{nat_tests, Decides-eqb}
use Rattle.std.proofs.lemmas.Bool.{and_parts, and_from}
use Rattle.std.proofs.lemmas.List.{length-append}
use Rattle.lock_tree.specs.Paths.{is_proper_prefix, is_ancestor, IsAncestor, IsLongestAncestor, has_parent, parent_of}

-- a list that isn't longer has no such proper prefix
pub is_proper_prefix-short : (a r : List ℕ) → length r ≤ length a → is_proper_prefix a r ≡ false
is_proper_prefix-short [] [] h = refl
is_proper_prefix-short [] (y ∷ ys) h = absurd (omega (arith, h))
is_proper_prefix-short (x ∷ xs) [] h = refl
is_proper_prefix-short (x ∷ xs) (y ∷ ys) h = let shorter : length ys ≤ length xs = omega (arith, h) in grind (arith, nat_tests, is_proper_prefix-short xs ys shorter)

-- a proper prefix is compared with as many numbers of the longer list
pub is_proper_prefix-take : (a r : List ℕ) → length a < length r → is_proper_prefix a r ≡ pointwise eqb a (take (length a) r)
is_proper_prefix-take [] [] h = absurd (omega (arith, h))
is_proper_prefix-take [] (y ∷ ys) h = refl
is_proper_prefix-take (x ∷ xs) [] h = absurd (omega (arith, h))
is_proper_prefix-take (x ∷ xs) (y ∷ ys) h = ap (λ (b : Bool). eqb x y && b) (is_proper_prefix-take xs ys (omega (arith, h)))

-- a nonempty list is an ancestor exactly if it is a proper prefix, by the tests
pub ancestor-front : (a r : List ℕ) → 0 < length a → is_ancestor a r ≡ is_proper_prefix a r
ancestor-front [] r some = absurd (omega (arith, some))
ancestor-front (x ∷ xs) r some = refl

-- a list is its proper prefix followed by one or more numbers
front-rest : (a r : List ℕ) → is_proper_prefix a r ≡ true → (rest : List ℕ) × (0 < length rest) × (r ≡ a ++ rest)
front-rest [] [] h = absurd (cc)
front-rest [] (y ∷ ys) h = (y ∷ ys, omega arith, refl)
front-rest (x ∷ xs) [] h = absurd (cc)
front-rest (x ∷ xs) (y ∷ ys) h =
    let p = and_parts (eqb x y) (is_proper_prefix xs ys) h in
    let e = (Decides-eqb x y).0 p.0 in
    let w = front-rest xs ys p.1 in
    (w.0, w.1, ap (λ (n : ℕ). n ∷ ys) (sym e) ∙ ap (λ (ns : List ℕ). x ∷ ns) w.2)

-- a list followed by one or more numbers has it as a proper prefix
rest-front : (a rest : List ℕ) → 0 < length rest → is_proper_prefix a (a ++ rest) ≡ true
rest-front [] [] h = absurd (omega (arith, h))
rest-front [] (y ∷ ys) h = refl
rest-front (x ∷ xs) rest h = and_from (eqb x x) (is_proper_prefix xs (xs ++ rest)) ((Decides-eqb x x).1 refl) (rest-front xs rest h)

-- the test for an ancestor decides IsAncestor
pub ancestor_tests : (a r : List ℕ) → (is_ancestor a r ≡ true) ↔ IsAncestor a r
ancestor_tests [] r = (λ e. absurd cc, λ w. absurd (let some = w.0 in omega (arith, some)))
ancestor_tests (x ∷ xs) r = (λ e. (omega arith, front-rest (x ∷ xs) r e), λ w. ap (is_proper_prefix (x ∷ xs)) w.1.2 ∙ rest-front (x ∷ xs) w.1.0 w.1.1)

-- the empty list has no proper prefix
no-front : (a : List ℕ) → is_proper_prefix a [] ≡ true → ⊥
no-front [] h = cc
no-front (x ∷ xs) h = cc

-- a proper prefix is the parent or a proper prefix of it
front-parent : (a r : List ℕ) → is_proper_prefix a r ≡ true → (a ≡ parent_of r) ⊎ (is_proper_prefix a (parent_of r) ≡ true)
front-parent [] [] h = absurd (cc)
front-parent [] (y ∷ []) h = inl refl
front-parent [] (y ∷ z ∷ zs) h = inr refl
front-parent (x ∷ xs) [] h = absurd (cc)
front-parent (x ∷ xs) (y ∷ []) h = absurd (no-front xs (and_parts (eqb x y) (is_proper_prefix xs []) h).1)
front-parent (x ∷ xs) (y ∷ z ∷ zs) h =
    let p = and_parts (eqb x y) (is_proper_prefix xs (z ∷ zs)) h in
    elim (front-parent xs (z ∷ zs) p.1) [
      | inl e ↦ let f = (Decides-eqb x y).0 p.0 in inl (cc)
      | inr k ↦ inr (and_from (eqb x y) (is_proper_prefix xs (parent_of (z ∷ zs))) p.0 k)
    ]

-- an ancestor is the parent or an ancestor of it
pub ancestor-parent : (a r : List ℕ) → is_ancestor a r ≡ true → (a ≡ parent_of r) ⊎ (is_ancestor a (parent_of r) ≡ true)
ancestor-parent [] r h = absurd (cc)
ancestor-parent (x ∷ xs) r h = front-parent (x ∷ xs) r h

-- a parent is an ancestor
pub parent-ancestor : (r : List ℕ) → has_parent r ≡ true → is_ancestor (parent_of r) r ≡ true
parent-ancestor [] h = absurd cc
parent-ancestor (x ∷ []) h = absurd cc
parent-ancestor (x ∷ y ∷ []) h = and_from (eqb x x) true ((Decides-eqb x x).1 refl) refl
parent-ancestor (x ∷ y ∷ z ∷ zs) h = and_from (eqb x x) (is_proper_prefix (parent_of (y ∷ z ∷ zs)) (y ∷ z ∷ zs)) ((Decides-eqb x x).1 refl) (parent-ancestor (y ∷ z ∷ zs) refl)

-- of two proper prefixes of one list, they are equal or one is a proper prefix of the other
fronts-meet : (a b r : List ℕ) → is_proper_prefix a r ≡ true → is_proper_prefix b r ≡ true → (a ≡ b) ⊎ ((is_proper_prefix a b ≡ true) ⊎ (is_proper_prefix b a ≡ true))
fronts-meet [] [] r h k = inl refl
fronts-meet [] (y ∷ ys) r h k = inr (inl refl)
fronts-meet (x ∷ xs) [] r h k = inr (inr refl)
fronts-meet (x ∷ xs) (y ∷ ys) [] h k = absurd (cc)
fronts-meet (x ∷ xs) (y ∷ ys) (z ∷ zs) h k =
    let p = and_parts (eqb x z) (is_proper_prefix xs zs) h in
    let q = and_parts (eqb y z) (is_proper_prefix ys zs) k in
    let e = (Decides-eqb x z).0 p.0 in
    let f = (Decides-eqb y z).0 q.0 in
    elim (fronts-meet xs ys zs p.1 q.1) [
      | inl g ↦ inl (cc)
      | inr g ↦ inr (elim g [
        | inl m ↦ inl (and_from (eqb x y) (is_proper_prefix xs ys) ((Decides-eqb x y).1 (cc)) m)
        | inr m ↦ inr (and_from (eqb y x) (is_proper_prefix ys xs) ((Decides-eqb y x).1 (cc)) m)
      ])
    ]

-- of two ancestors of one resource, they are equal or one is an ancestor of the other
pub ancestors-meet : (a b r : List ℕ) → is_ancestor a r ≡ true → is_ancestor b r ≡ true → (a ≡ b) ⊎ ((is_ancestor a b ≡ true) ⊎ (is_ancestor b a ≡ true))
ancestors-meet [] b r h k = absurd (cc)
ancestors-meet (x ∷ xs) [] r h k = absurd (cc)
ancestors-meet (x ∷ xs) (y ∷ ys) r h k = fronts-meet (x ∷ xs) (y ∷ ys) r h k

-- an ancestor is the parent or an ancestor of it, by IsAncestor
pub above_parent : (a r : List ℕ) → IsAncestor a r → (a ≡ parent_of r) ⊎ IsAncestor a (parent_of r)
above_parent a r h = elim (ancestor-parent a r ((ancestor_tests a r).1 h)) [ inl e ↦ inl e | inr k ↦ inr ((ancestor_tests a (parent_of r)).0 k) ]

-- an ancestor is shorter
shorter : (a r : List ℕ) → IsAncestor a r → length a < length r
shorter a r h = let rest = h.1 in let e = ap length rest.2 ∙ length-append a rest.0 in omega (arith, e, rest.1)

-- the parent is the longest ancestor
pub longest_parent : (r : List ℕ) → has_parent r ≡ true → IsLongestAncestor (parent_of r) r
longest_parent r h = record {
  ancestor = (ancestor_tests (parent_of r) r).0 (parent-ancestor r h);
  longest = λ a is. elim (above_parent a r is) [ inl e ↦ let same = ap length e in omega (arith, same) | inr k ↦ let less = shorter a (parent_of r) k in omega (arith, less) ];
}

-- a resource has a parent exactly if it has an ancestor
pub parent_iff : (r : List ℕ) → (has_parent r ≡ true) ↔ ((a : List ℕ) × IsAncestor a r)
parent_iff r = (λ e. (parent_of r, (ancestor_tests (parent_of r) r).0 (parent-ancestor r e)), λ w. long r (let some = w.1.0 in let less = shorter w.0 r w.1 in omega (arith, some, less)))
  where
    long : (r : List ℕ) → 1 < length r → has_parent r ≡ true
    long [] lt = absurd (omega (arith, lt))
    long (x ∷ []) lt = absurd (omega (arith, lt))
    long (x ∷ y ∷ ys) lt = refl
