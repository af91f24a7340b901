-- The resources of a list that pass a test: which they are, and that they are in order and apart if all are.
use Rattle.std.proofs.Common.{◌≡◌, ℕ, Bool, true, false, cond, ◌&&◌, ◌||◌, inl, inr, List, [], ◌∷◌, ◌++◌, refl, sym, ◌∙◌, ap}
use Rattle.std.specs.Prelude.{filter}
use Rattle.std.specs.List.{list_all, IsDistinct, AllByRecursion}
use Rattle.std.proofs.Math.Bool.{and-false}
use Rattle.std.proofs.lemmas.Bool.{and_parts, and_from, or_parts}
use Rattle.std.proofs.lemmas.List.Elements.{filter-append}
use Rattle.lock_tree.specs.Paths.{same_path}
use Rattle.lock_rules.specs.Listing.{comes_before}
use Rattle.lock_rules.proofs.Lists.{same_path-refl, same_path_tells}
use Rattle.lock_rules.proofs.ResourceOrder.{precedes, rise, before-all}
use Rattle.session_locks.specs.Resources.{has_path, AreApart}
use Rattle.session_locks.proofs.ResourceLists.{same_path-equivalence}

-- a resource that comes before each of a list comes before its first
pub precedes-each : (r : List ℕ) (ys : List (List ℕ)) → ((q : List ℕ) → has_path q ys ≡ true → comes_before r q ≡ true) → precedes r ys ≡ true
precedes-each r [] h = refl
precedes-each r (y ∷ ys) h = h y (ap (λ (b : Bool). b || has_path y ys) (same_path-refl y))

module _ (p : List ℕ → Bool) where
  -- a resource is among those that pass exactly if it passes and is in the list
  pub has-filter : (r : List ℕ) (xs : List (List ℕ)) → has_path r (filter p xs) ≡ (p r && has_path r xs)
  has-filter r [] = sym (and-false (p r))
  has-filter r (x ∷ xs) = go (p x) refl (has-filter r xs)
    where
      go : (b : Bool) → p x ≡ b → has_path r (filter p xs) ≡ (p r && has_path r xs) → has_path r (cond b (x ∷ filter p xs) (filter p xs)) ≡ (p r && (same_path x r || has_path r xs))
      go true e next = elim (same_path_tells x r) [
        | inl s ↦ (let passes : p r ≡ true = ap p (sym s.1) ∙ e in
            ap (λ (b : Bool). b || has_path r (filter p xs)) s.0 ∙ sym (λ i. passes i && (s.0 i || has_path r xs)))
        | inr n ↦ ap (λ (b : Bool). b || has_path r (filter p xs)) n ∙ (next ∙ sym (ap (λ (b : Bool). p r && (b || has_path r xs)) n))
      ]
      go false e next = elim (same_path_tells x r) [
        | inl s ↦ (let fails : p r ≡ false = ap p (sym s.1) ∙ e in
            next ∙ (ap (λ (b : Bool). b && has_path r xs) fails ∙ sym (ap (λ (b : Bool). b && (same_path x r || has_path r xs)) fails)))
        | inr n ↦ next ∙ sym (ap (λ (b : Bool). p r && (b || has_path r xs)) n)
      ]

  -- those of a list that rises rise
  pub rise-filter : (xs : List (List ℕ)) → rise xs ≡ true → rise (filter p xs) ≡ true
  rise-filter [] h = refl
  rise-filter (x ∷ xs) h = go (p x) (rise-filter xs parts.1)
    where
      parts : (precedes x xs ≡ true) × (rise xs ≡ true)
      parts = and_parts (precedes x xs) (rise xs) h

      go : (b : Bool) → rise (filter p xs) ≡ true → rise (cond b (x ∷ filter p xs) (filter p xs)) ≡ true
      go true next = and_from (precedes x (filter p xs)) (rise (filter p xs))
          (precedes-each x (filter p xs) (λ q k. before-all x xs q parts.0 parts.1 (and_parts (p q) (has_path q xs) (sym (has-filter q xs) ∙ k)).1)) next
      go false next = next

  -- those of different resources are different
  pub apart-filter : (xs : List (List ℕ)) → AreApart xs → AreApart (filter p xs)
  apart-filter [] a = tt
  apart-filter (x ∷ xs) a = go (p x) (apart-filter xs a.1)
    where
      go : (b : Bool) → AreApart (filter p xs) → AreApart (cond b (x ∷ filter p xs) (filter p xs))
      go true next = (has-filter x xs ∙ (ap (λ (b : Bool). p x && b) a.0 ∙ and-false (p x)), next)
      go false next = next

  -- each of them passes
  pub all-filter : (xs : List (List ℕ)) → list_all p (filter p xs) ≡ true
  all-filter [] = refl
  all-filter (x ∷ xs) = go (p x) refl (all-filter xs)
    where
      go : (b : Bool) → p x ≡ b → list_all p (filter p xs) ≡ true → list_all p (cond b (x ∷ filter p xs) (filter p xs)) ≡ true
      go true e next = and_from (p x) (list_all p (filter p xs)) e next
      go false e next = next

-- a resource that is not in a list differs from each of it
differ : (r : List ℕ) (xs : List (List ℕ)) → has_path r xs ≡ false → AllByRecursion (λ y. same_path r y ≡ false) xs
differ r [] h = tt
differ r (x ∷ xs) h = let k = or_parts (same_path x r) (has_path r xs) h in (same_path-equivalence.symm r x ∙ k.0, differ r xs k.1)

-- resources none of which is there twice are different
pub apart-distinct : (xs : List (List ℕ)) → AreApart xs → IsDistinct same_path xs
unfolding IsDistinct
apart-distinct [] a = tt
apart-distinct (x ∷ xs) a = (differ x xs a.0, apart-distinct xs a.1)

-- those that pass of two lists, one gathered behind the other
pub gathered : (p : List ℕ → Bool) (start xs ys ks rs items : List (List ℕ)) → start ≡ [] → xs ≡ ks → ys ≡ rs → ks ++ rs ≡ items → (start ++ filter p xs) ++ filter p ys ≡ filter p items
gathered p start xs ys ks rs items none first second all = (λ i. (none i ++ filter p (first i)) ++ filter p (second i)) ∙ (sym (filter-append p ks rs) ∙ ap (filter p) all)
