-- Lists of resources: what is in them after one more or one less, and that none is there twice.
use Rattle.std.proofs.Common.{◌≡◌, ℕ, ◌+◌, Bool, true, false, ◌||◌, inl, inr, List, [], ◌∷◌, ◌++◌, refl, sym, ◌∙◌, ap}
use Rattle.std.proofs.Math.Bool.{or-false, or_assoc}
use Rattle.std.proofs.lemmas.Bool.{or_parts}
use Rattle.lock_tree.specs.Paths.{same_path}
use Rattle.lock_rules.proofs.Lists.{same_path-refl, same_path_tells, same_path-true}
use Rattle.session_locks.specs.Resources.{has_path, AreApart}
use Rattle.std.specs.Cmp.{IsEquivalence}

-- the resources with one more at the end
pub has_path-push : (r q : List ℕ) (rs : List (List ℕ)) → has_path r (rs ++ q ∷ []) ≡ (has_path r rs || same_path q r)
has_path-push r q [] = or-false (same_path q r)
has_path-push r q (p ∷ rs) = ap (λ (b : Bool). same_path p r || b) (has_path-push r q rs) ∙ sym (or_assoc (same_path p r) (has_path r rs) (same_path q r))

-- a different resource at the end makes no difference
pub has_path-push_other : (r q : List ℕ) (rs : List (List ℕ)) → same_path q r ≡ false → has_path r (rs ++ q ∷ []) ≡ has_path r rs
has_path-push_other r q rs n = has_path-push r q rs ∙ (ap (λ (b : Bool). has_path r rs || b) n ∙ or-false (has_path r rs))

-- whether two resources differ doesn't depend on their order
pub same_path-swap : (a b : List ℕ) → same_path a b ≡ false → same_path b a ≡ false
same_path-swap a b h = elim (same_path_tells b a) [ inl k ↦ absurd (contra k.1) | inr k ↦ k ]
  where
    contra : b ≡ a → ⊥
    contra e = let k : same_path a b ≡ true = rw e (same_path-refl a) in cc

-- a list without repetition, with a new resource at the end
pub apart-push : (rs : List (List ℕ)) (q : List ℕ) → AreApart rs → has_path q rs ≡ false → AreApart (rs ++ q ∷ [])
apart-push [] q a h = (refl, tt)
apart-push (r ∷ rs) q a h =
    let p = or_parts (same_path r q) (has_path q rs) h in
    (has_path-push r q rs ∙ (ap (λ (b : Bool). b || same_path q r) a.0 ∙ same_path-swap r q p.0), apart-push rs q a.1 p.1)

-- the last resource of a list without repetition isn't in the rest
pub apart-pop : (rs : List (List ℕ)) (q : List ℕ) → AreApart (rs ++ q ∷ []) → AreApart rs × (has_path q rs ≡ false)
apart-pop [] q a = (tt, refl)
apart-pop (r ∷ rs) q a =
    let k = or_parts (has_path r rs) (same_path q r) (sym (has_path-push r q rs) ∙ a.0) in
    let p = apart-pop rs q a.1 in
    ((k.0, p.0), ap (λ (b : Bool). b || has_path q rs) (same_path-swap q r k.1) ∙ p.1)

-- being the same path is an equivalence relation
pub same_path-equivalence : IsEquivalence same_path
same_path-equivalence = record { refl = same_path-refl; symm = symm; congr = λ x y z h. ap (λ (w : List ℕ). same_path w z) (same_path-true x y h) }
  where
    symm : (x y : List ℕ) → same_path x y ≡ same_path y x
    symm x y = elim (same_path_tells x y) [
      | inl h ↦ h.0 ∙ sym (ap (λ (z : List ℕ). same_path z x) (sym h.1) ∙ same_path-refl x)
      | inr h ↦ elim (same_path_tells y x) [
        | inl k ↦ absurd (let e : same_path x y ≡ true = ap (λ (z : List ℕ). same_path x z) k.1 ∙ same_path-refl x in cc)
        | inr k ↦ h ∙ sym k
      ]
    ]
