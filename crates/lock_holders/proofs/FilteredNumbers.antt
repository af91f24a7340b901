-- The numbers of a range that pass a test.
use Rattle.std.proofs.Common.{◌≡◌, ℕ, zero, suc, ◌+◌, ◌<◌, ◌≤◌, ◌↔◌, Bool, true, false, cond, eqb, inl, inr, ⊎_elim, List, [], ◌∷◌, filter, Contains, refl, sym, ◌∙◌, ap, arith, subst}
use Rattle.std.specs.List.{range_with_len, list_any}
use Rattle.std.proofs.lemmas.Bool.{or_cases, or_left, or_right}
use Rattle.std.proofs.lemmas.Bool.Decides.{Decides-eqb}
use Rattle.sequential.proofs.Members.{Member, contains-member, member-contains}
use Rattle.sequential.proofs.Ranges.{true≢false, member-range}

-- the numbers from 1 to n that pass a test
pub among : (p : ℕ → Bool) (n u : ℕ) → Contains (filter p (range_with_len 1 n)) u ↔ ((1 ≤ u) × (u ≤ n) × (p u ≡ true))
among p n u =
    let m = member-range p n 1 u in (
      λ h. let k = m.0 (contains-member u (filter p (range_with_len 1 n)) h) in let l = k.1 in (k.0, omega (arith, l), k.2),
      λ h. let l = h.1 in member-contains u (filter p (range_with_len 1 n)) (m.1 (h.0, omega (arith, l), h.2)),
    )

-- the test whether a number is in a list
any-member : (xs : List ℕ) (u : ℕ) → list_any (λ x. eqb x u) xs ≡ true → Member u xs
any-member [] u h = absurd (cc h)
any-member (x ∷ xs) u h = ⊎_elim (λ e. inl ((Decides-eqb x u).0 e)) (λ k. inr (any-member xs u k)) (or_cases (eqb x u) (list_any (λ y. eqb y u) xs) h)

member-any : (xs : List ℕ) (u : ℕ) → Member u xs → list_any (λ x. eqb x u) xs ≡ true
member-any [] u h = absurd h
member-any (x ∷ xs) u h = ⊎_elim (λ e. or_left (eqb x u) (list_any (λ y. eqb y u) xs) ((Decides-eqb x u).1 e)) (λ k. or_right (eqb x u) (list_any (λ y. eqb y u) xs) (member-any xs u k)) h

pub any-contains : (xs : List ℕ) (u : ℕ) → (list_any (λ x. eqb x u) xs ≡ true) ↔ Contains xs u
any-contains xs u = (λ h. member-contains u xs (any-member xs u h), λ h. member-any xs u (contains-member u xs h))

-- a number of the range is in the list of those that pass a test if it passes
pub any-among : (p : ℕ → Bool) (n u : ℕ) → 1 ≤ u → u ≤ n → list_any (λ x. eqb x u) (filter p (range_with_len 1 n)) ≡ p u
any-among p n u some within = go (list_any (λ x. eqb x u) (filter p (range_with_len 1 n))) (p u) refl refl
  where
    to : list_any (λ x. eqb x u) (filter p (range_with_len 1 n)) ≡ true → p u ≡ true
    to h = ((among p n u).0 ((any-contains (filter p (range_with_len 1 n)) u).0 h)).2

    from : p u ≡ true → list_any (λ x. eqb x u) (filter p (range_with_len 1 n)) ≡ true
    from h = (any-contains (filter p (range_with_len 1 n)) u).1 ((among p n u).1 (some, within, h))

    go : (a b : Bool) → list_any (λ x. eqb x u) (filter p (range_with_len 1 n)) ≡ a → p u ≡ b → a ≡ b
    go true b f g = sym (sym g ∙ to f)
    go false true f g = absurd (true≢false (from g) f)
    go false false f g = refl

-- lists of the same numbers come from the same tests
pub same-tests : (p q : ℕ → Bool) (n : ℕ) → filter p (range_with_len 1 n) ≡ filter q (range_with_len 1 n) → (u : ℕ) → 1 ≤ u → u ≤ n → p u ≡ q u
same-tests p q n e u some within = go (p u) (q u) refl refl
  where
    from : (f g : ℕ → Bool) → filter f (range_with_len 1 n) ≡ filter g (range_with_len 1 n) → f u ≡ true → g u ≡ true
    from f g same h = ((among g n u).0 (subst (λ (xs : List ℕ). Contains xs u) same ((among f n u).1 (some, within, h)))).2

    go : (a b : Bool) → p u ≡ a → q u ≡ b → a ≡ b
    go true b f g = sym (sym g ∙ from p q e f)
    go false true f g = absurd (true≢false (from q p (sym e) g) f)
    go false false f g = refl

-- the same tests give lists of the same numbers
pub same-numbers : (p q : ℕ → Bool) (a n : ℕ) → ((u : ℕ) → a ≤ u → u < a + n → p u ≡ q u) → filter p (range_with_len a n) ≡ filter q (range_with_len a n)
same-numbers p q a zero h = refl
same-numbers p q a (suc n) h =
    ap (λ (b : Bool). cond b (a ∷ filter p (range_with_len (a + 1) n)) (filter p (range_with_len (a + 1) n))) (h a (omega arith) (omega arith))
    ∙ ap (λ (xs : List ℕ). cond (q a) (a ∷ xs) xs) (same-numbers p q (a + 1) n (λ u l k. h u (omega (arith, l)) (omega (arith, k))))

-- no number passes a test that fails
pub no-numbers : (p : ℕ → Bool) (a n : ℕ) → ((u : ℕ) → p u ≡ false) → filter p (range_with_len a n) ≡ []
no-numbers p a zero h = refl
no-numbers p a (suc n) h = ap (λ (b : Bool). cond b (a ∷ filter p (range_with_len (a + 1) n)) (filter p (range_with_len (a + 1) n))) (h a) ∙ no-numbers p (a + 1) n h
