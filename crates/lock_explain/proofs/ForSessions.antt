-- What is listed of each session, one session after another.
use Rattle.std.proofs.Common.{◌≡◌, ℕ, zero, suc, ◌+◌, ◌<◌, ◌≤◌, ◌⊎◌, Bool, true, false, cond, eqb, inl, inr, List, [], ◌∷◌, ◌++◌, refl, sym, subst, arith}
use Rattle.std.specs.List.{flat_map, range_with_len}
use Rattle.std.proofs.lemmas.Bool.{cases_Bool}
use Rattle.std.proofs.lemmas.Bool.Decides.{nat_tests, Decides-eqb}
use Rattle.std.proofs.lemmas.List.Concat.{flat_map-cons}
use Rattle.sequential.proofs.Members.{Member}

-- Members of such a list.

module _ {A : Type 0} where
  member-left : (a : A) (xs ys : List A) → Member a xs → Member a (xs ++ ys)
  member-left a [] ys m = absurd m
  member-left a (x ∷ xs) ys (inl e) = inl e
  member-left a (x ∷ xs) ys (inr m) = inr (member-left a xs ys m)

  member-right : (a : A) (xs ys : List A) → Member a ys → Member a (xs ++ ys)
  member-right a [] ys m = m
  member-right a (x ∷ xs) ys m = inr (member-right a xs ys m)

  member-either : (a : A) (xs ys : List A) → Member a (xs ++ ys) → Member a xs ⊎ Member a ys
  member-either a [] ys m = inr m
  member-either a (x ∷ xs) ys (inl e) = inl (inl e)
  member-either a (x ∷ xs) ys (inr m) = elim (member-either a xs ys m) [ inl k ↦ inl (inr k) | inr k ↦ inr k ]

  -- What is listed of one of the sessions is in the whole list.
  pub session-member : (f : ℕ → List A) (x : A) (a n u : ℕ) → a ≤ u → u < a + n → Member x (f u) → Member x (flat_map f (range_with_len a n))
  session-member f x a zero u from below m = absurd (omega (arith, from, below))
  session-member f x a (suc n) u from below m = rw (flat_map-cons f a (range_with_len (a + 1) n)) (elim (cases_Bool (eqb a u)) [
    | inl y ↦ (let e = (Decides-eqb a u).0 y in member-left x (f a) (flat_map f (range_with_len (a + 1) n)) (subst (λ (i : ℕ). Member x (f i)) (sym e) m))
    | inr k ↦ member-right x (f a) (flat_map f (range_with_len (a + 1) n)) (session-member f x (a + 1) n u (grind (arith, nat_tests, from, k)) (omega (arith, below)) m)
  ])

  -- Whatever is in the whole list is listed of one of the sessions.
  pub member-session : (f : ℕ → List A) (x : A) (a n : ℕ) → Member x (flat_map f (range_with_len a n)) → (u : ℕ) × Member x (f u)
  member-session f x a zero m = absurd m
  member-session f x a (suc n) m = elim (member-either x (f a) (flat_map f (range_with_len (a + 1) n)) (rw (flat_map-cons f a (range_with_len (a + 1) n)) at m)) [
    | inl k ↦ (a, k)
    | inr k ↦ member-session f x (a + 1) n k
  ]

  -- A list of one under a test.
  pub only : (b : Bool) (x y : A) → Member x (cond b (y ∷ []) []) → (b ≡ true) × (y ≡ x)
  only true x y (inl e) = (refl, e)
  only true x y (inr m) = absurd m
  only false x y m = absurd m

  pub there : (b : Bool) (x : A) → b ≡ true → Member x (cond b (x ∷ []) [])
  there true x e = inl refl
  there false x e = absurd (cc e)
