-- A list with one element more, split.
use Rattle.std.proofs.Common.{◌≡◌, ◌⊎◌, inl, inr, ⊎_elim, List, [], ◌∷◌, ◌++◌, refl}

module _ {A : Type 0} where
  nothing : (xs ys : List A) → [] ≡ xs ++ ys → (xs ≡ []) × (ys ≡ [])
  nothing [] [] e = (refl, refl)
  nothing [] (y ∷ ys) e = absurd (cc e)
  nothing (x ∷ xs) ys e = absurd (cc e)

  -- The first part is the whole list, or is within the list without its last element.
  pub last-split : (xs before after : List A) (x : A) → xs ++ x ∷ [] ≡ before ++ after → ((before ≡ xs ++ x ∷ []) × (after ≡ [])) ⊎ ((rest : List A) × (xs ≡ before ++ rest))
  last-split xs [] after x e = inr (xs, refl)
  last-split [] (b ∷ before) after x e = let z = nothing before after (cc e) in let f : x ≡ b = cc e in inl (let g = z.0 in cc (f, g), z.1)
  last-split (y ∷ xs) (b ∷ before) after x e = let f : y ≡ b = cc e in ⊎_elim
      (λ t. inl (let g = t.0 in cc (f, g), t.1))
      (λ t. inr (t.0, let g = t.1 in cc (f, g)))
      (last-split xs before after x (cc e))

  -- An element of the list is the last, or is one of those before it.
  pub snoc-split : (xs before after : List A) (x y : A) → xs ++ x ∷ [] ≡ before ++ y ∷ after → ((rest : List A) × (xs ≡ before ++ y ∷ rest)) ⊎ ((before ≡ xs) × (y ≡ x))
  snoc-split [] [] after x y e = inr (refl, cc e)
  snoc-split [] (b ∷ before) after x y e = let z = nothing before (y ∷ after) (cc e) in absurd (let g = z.1 in cc g)
  snoc-split (z ∷ xs) [] after x y e = inl (xs, cc e)
  snoc-split (z ∷ xs) (b ∷ before) after x y e = let f : z ≡ b = cc e in ⊎_elim
      (λ t. inl (t.0, let g = t.1 in cc (f, g)))
      (λ t. inr (let g = t.0 in cc (f, g), t.1))
      (snoc-split xs before after x y (cc e))
