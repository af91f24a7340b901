-- Members of a list, by recursion.
use Rattle.std.proofs.Common.{◌≡◌, ℕ, zero, suc, ◌<◌, ◌⊎◌, inl, inr, List, [], ◌∷◌, length, arith, slice_index_or, Contains}

-- a is in the list
abbrev pub Member : {A : Type 0} → A → List A → Type 0
Member a [] = ⊥
Member a (x ∷ xs) = (x ≡ a) ⊎ Member a xs

-- what a list contains is a member of it
pub contains-member : {A : Type 0} (a : A) (xs : List A) → Contains xs a → Member a xs
contains-member a [] h = let n = h.1 in absurd (omega (arith, n))
contains-member {A} a (x ∷ xs) h = at (contains-member a xs) h.0 h.1 h.2
  where
    at : (Contains xs a → Member a xs) → (k : ℕ) → k < length (x ∷ xs) → slice_index_or (x ∷ xs) k a ≡ a → Member a (x ∷ xs)
    at next zero l e = inl e
    at next (suc k) l e = inr (next (k, omega (arith, l), e))

-- a member of a list is contained in it
pub member-contains : {A : Type 0} (a : A) (xs : List A) → Member a xs → Contains xs a
member-contains a [] h = absurd h
member-contains a (x ∷ xs) h = elim h [
  | inl e ↦ (0, omega arith, e)
  | inr i ↦ let r = member-contains a xs i in (suc r.0, omega (arith, r.1), r.2)
]
