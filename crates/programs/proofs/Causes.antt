-- Why a program ends.
use Rattle.std.proofs.Common.{◌≡◌, ◌⊎◌, inl, inr, ℕ, zero, suc, ◌+◌, ◌<◌, Bool, true, false, List, [], ◌∷◌, length, Some, slice_get, refl, sym, ap, ◌∙◌, arith}
use Rattle.programs.specs.Form.{Form}
use Rattle.programs.specs.Flat.{IsRun}

module _ {P A C R : Type 0} (form : Form P A C R) where
  -- it goes on behind each reply but the last
  pub goes-on : (cs : List C) (rs : List R) (x : Bool) → IsRun form cs rs x → (k : ℕ) (r : R) → k + 1 < length rs → slice_get rs k ≡ Some r → form.goes_on r ≡ true
  goes-on cs [] x h k r l g = absurd (omega (arith, l))
  goes-on [] (q ∷ rs) x h k r l g = absurd h
  goes-on (c ∷ cs) (q ∷ rs) x (inl h) zero r l g = let e : q ≡ r = cc in ap form.goes_on (sym e) ∙ h.0
  goes-on (c ∷ cs) (q ∷ rs) x (inl h) (suc k) r l g = goes-on cs rs x h.1 k r (omega (arith, l)) g
  goes-on (c ∷ cs) (q ∷ rs) x (inr h) k r l g = absurd (omega (arith, l, ap (λ (y : List R). length y) h.1))

  -- it stops at its last reply
  abbrev pub StopsAt : List R → Type 0
  StopsAt rs = (k : ℕ) × (r : R) × (k + 1 ≡ length rs) × (slice_get rs k ≡ Some r) × (form.goes_on r ≡ false)

  -- a program of which not all was served was refused memory, or stopped
  pub cause : (cs : List C) (rs : List R) (x : Bool) → IsRun form cs rs x → length rs < length cs → (x ≡ true) ⊎ StopsAt rs
  cause [] rs x h l = absurd (omega (arith, l))
  cause (c ∷ cs) [] x h l = inl h
  cause (c ∷ cs) (q ∷ rs) x (inl h) l = elim (cause cs rs x h.1 (omega (arith, l))) [
    | inl y ↦ inl y
    | inr s ↦ inr (suc s.0, s.1, omega (arith, s.2), s.3, s.4)
  ]
  cause (c ∷ cs) (q ∷ rs) x (inr h) l = inr (0, q, omega (arith, ap (λ (y : List R). length y) h.1), refl, h.0)

  -- one that was refused memory goes on behind all its replies, and has calls left
  pub cut : (cs : List C) (rs : List R) (x : Bool) → IsRun form cs rs x → x ≡ true → length rs < length cs
  cut [] [] x h e = absurd (cc)
  cut [] (q ∷ rs) x h e = absurd h
  cut (c ∷ cs) [] x h e = omega arith
  cut (c ∷ cs) (q ∷ rs) x (inl h) e = omega (arith, cut cs rs x h.1 e)
  cut (c ∷ cs) (q ∷ rs) x (inr h) e = absurd (let f = h.2 in cc)

  pub cut-goes-on : (cs : List C) (rs : List R) (x : Bool) → IsRun form cs rs x → x ≡ true → (k : ℕ) (r : R) → slice_get rs k ≡ Some r → form.goes_on r ≡ true
  cut-goes-on [] [] x h e k r g = absurd (cc)
  cut-goes-on [] (q ∷ rs) x h e k r g = absurd h
  cut-goes-on (c ∷ cs) [] x h e k r g = absurd (cc)
  cut-goes-on (c ∷ cs) (q ∷ rs) x (inl h) e zero r g = let f : q ≡ r = cc in ap form.goes_on (sym f) ∙ h.0
  cut-goes-on (c ∷ cs) (q ∷ rs) x (inl h) e (suc k) r g = cut-goes-on cs rs x h.1 e k r g
  cut-goes-on (c ∷ cs) (q ∷ rs) x (inr h) e k r g = absurd (let f = h.2 in cc)
