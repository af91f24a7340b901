-- The members of a range of numbers that pass a test.
use Rattle.std.proofs.Common.{◌≡◌, ◌≢◌, ℕ, zero, suc, ◌+◌, ◌<◌, ◌≤◌, ◌↔◌, Bool, true, false, cond, eqb, inl, inr, List, ◌∷◌, filter, refl, sym, ap, ◌∙◌, subst, arith}
use Rattle.std.specs.List.{range_with_len}
use Rattle.std.proofs.lemmas.Bool.{cases_Bool}
use Rattle.std.proofs.lemmas.Bool.Decides.{Decides-eqb}
use Rattle.sequential.proofs.Members.{Member}

pub true≢false : {b : Bool} → b ≡ true → b ≡ false → ⊥
true≢false h k = cc

-- u is a member of the range from a that passes the test
abbrev pub IsPassing : (ℕ → Bool) → ℕ → ℕ → ℕ → Type 0
IsPassing p a upto u = (a ≤ u) × (u < upto) × (p u ≡ true)

-- a number that passes the test is the first of the range or among the others
behind-first : (p : ℕ → Bool) (a upto u : ℕ) → eqb a u ≡ false → IsPassing p a upto u → IsPassing p (a + 1) upto u
behind-first p a upto u d h = let l = h.0 in let n : a ≢ u = λ e. true≢false ((Decides-eqb a u).1 e) d in (omega (arith, n, l), h.1, h.2)

-- the members of a range that pass a test, from those of the range behind its first number
member-more : (p : ℕ → Bool) (a upto u : ℕ) (xs : List ℕ) → a < upto → Member u xs ↔ IsPassing p (a + 1) upto u → (b : Bool) → p a ≡ b → Member u (cond b (a ∷ xs) xs) ↔ IsPassing p a upto u
member-more p a upto u xs some next b e = at b e
  where
    later : Member u xs → IsPassing p a upto u
    later m = let k = next.0 m in let l = k.0 in (omega (arith, l), k.1, k.2)

    first : a ≡ u → p a ≡ true → IsPassing p a upto u
    first f g = (omega (arith, f), subst (λ (x : ℕ). x < upto) f some, ap p (sym f) ∙ g)

    at : (b : Bool) → p a ≡ b → Member u (cond b (a ∷ xs) xs) ↔ IsPassing p a upto u
    at true g = (
      λ m. elim m [ inl f ↦ first f g | inr k ↦ later k ],
      λ h. elim (cases_Bool (eqb a u)) [ inl f ↦ inl ((Decides-eqb a u).0 f) | inr d ↦ inr (next.1 (behind-first p a upto u d h)) ],
    )
    at false g = (
      later,
      λ h. elim (cases_Bool (eqb a u)) [ inl f ↦ absurd (true≢false (ap p ((Decides-eqb a u).0 f) ∙ h.2) g) | inr d ↦ next.1 (behind-first p a upto u d h) ],
    )

-- the members of a range that pass a test
pub member-range : (p : ℕ → Bool) (n a u : ℕ) → Member u (filter p (range_with_len a n)) ↔ IsPassing p a (a + n) u
member-range p zero a u = (λ h. absurd h, λ h. let l = h.0 in let k = h.1 in absurd (omega (arith, l, k)))
member-range p (suc n) a u =
    let e : a + 1 + n ≡ a + suc n = omega arith in
    member-more p a (a + suc n) u (filter p (range_with_len (a + 1) n)) (omega arith)
    (subst (λ (m : ℕ). Member u (filter p (range_with_len (a + 1) n)) ↔ IsPassing p (a + 1) m u) e (member-range p n (a + 1) u)) (p a) refl
