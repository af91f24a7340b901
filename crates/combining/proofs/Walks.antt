-- A walk along its route: the records ahead, and those visited.
use Rattle.std.proofs.Common.{◌≡◌, ◌≢◌, inl, inr, ⊎_elim, ℕ, ◌<◌, Bool, cond, Option, Some, List, [], ◌∷◌, length, refl, sym, ap, ◌∙◌, subst, arith, eq-eqb, ne_eqb}
use mathlib.Core.Logic.{dite}
use native.Mathlib.Decide.{ℕ_discrete}
use Rattle.publication.specs.Views.{TicketView}
use Rattle.publication.specs.List.{IsOn, AreApart, first_of, behind}
use Rattle.publication.proofs.Routes.{on_behind}
use Rattle.combining.specs.inner.Passes.{IsVisited, ahead, IsNext, HasMet}

-- The records behind the first record, and behind any other.
behind-first : (x : ℕ) (xs : List ℕ) → behind x (x ∷ xs) ≡ xs
behind-first x xs = ap (λ (b : Bool). cond b xs (behind x xs)) (eq-eqb x x refl)

behind-other : (q x : ℕ) (xs : List ℕ) → q ≢ x → behind q (x ∷ xs) ≡ behind q xs
behind-other q x xs ne = ap (λ (b : Bool). cond b xs (behind q xs)) (ne_eqb q x ne)

behind-next : (q b : ℕ) (route ys : List ℕ) → AreApart route → behind q route ≡ b ∷ ys → behind b route ≡ ys
behind-next q b [] ys apart is = absurd (cc is)
behind-next q b (x ∷ xs) ys apart is = dite (ℕ_discrete q x)
    (λ e. let xs_is : xs ≡ b ∷ ys = sym (ap (λ (t : Bool). cond t xs (behind q xs)) (eq-eqb q x e)) ∙ is in
    let ne : b ≢ x = λ z. apart.0 (subst (λ (l : List ℕ). IsOn x l) (sym xs_is) (inl (sym z))) in
    behind-other b x xs ne ∙ (ap (λ (l : List ℕ). behind b l) xs_is ∙ behind-first b ys))
    (λ other. let later : behind q xs ≡ b ∷ ys = sym (behind-other q x xs other) ∙ is in
    let on : IsOn b xs = on_behind b q xs (subst (λ (l : List ℕ). IsOn b l) (sym later) (inl refl)) in
    let ne : b ≢ x = λ z. apart.0 (subst (λ (n : ℕ). IsOn n xs) z on) in
    behind-other b x xs ne ∙ behind-next q b xs ys apart.1 later)

-- After a record was visited, the records behind it are ahead.
pub ahead-next : (q : ℕ) (route : List ℕ) → AreApart route → ahead (first_of (behind q route)) route ≡ behind q route
ahead-next q route apart = by_rest (behind q route) refl
  where
    by_rest : (l : List ℕ) → behind q route ≡ l → ahead (first_of l) route ≡ l
    by_rest [] e = refl
    by_rest (b ∷ ys) e = ap (λ (r : List ℕ). b ∷ r) (behind-next q b route ys apart e)

-- The record behind q on a route is on the route.
pub next-on : (q : ℕ) (route : List ℕ) → IsNext (first_of (behind q route)) route
next-on q route = by_rest (behind q route) (λ p on. on_behind p q route on)
  where
    by_rest : (l : List ℕ) → ((p : ℕ) → IsOn p l → IsOn p route) → IsNext (first_of l) route
    by_rest [] all = tt
    by_rest (b ∷ ys) all = all b (inl refl)

module _ {C R : Type 0} where
  -- Visiting record q takes the walk on to the record behind it.
  pub met-next : (q : ℕ) (t u : TicketView C R) → AreApart t.route → u.route ≡ t.route → ((j : ℕ) → IsVisited j t → IsVisited j u) → IsVisited q u → HasMet (Some q) t → HasMet (first_of (behind q t.route)) u
  met-next q t u apart same later here met j on =
      let rest : ahead (first_of (behind q t.route)) u.route ≡ behind q t.route = ap (λ (r : List ℕ). ahead (first_of (behind q t.route)) r) same ∙ ahead-next q t.route apart in
      ⊎_elim (λ front. ⊎_elim (λ (e : j ≡ q). inr (subst (λ (n : ℕ). IsVisited n u) (sym e) here))
      (λ more. inl (subst (λ (l : List ℕ). IsOn j l) (sym rest) more)) front)
      (λ v. inr (later j v)) (met j (subst (λ (r : List ℕ). IsOn j r) same on))

-- With each record visited, fewer records are ahead.
pub ahead-smaller : (next later : Option ℕ) (route after : List ℕ) (q : ℕ) → AreApart route → next ≡ Some q → later ≡ first_of (behind q route) → after ≡ route
    → length (ahead later after) < length (ahead next route)
ahead-smaller next later route after q apart is next_is same =
    let a : ahead later after ≡ behind q route = ap (λ (n : Option ℕ). ahead n after) next_is ∙ (ap (λ (r : List ℕ). ahead (first_of (behind q route)) r) same ∙ ahead-next q route apart) in
    let b : ahead next route ≡ q ∷ behind q route = ap (λ (n : Option ℕ). ahead n route) is in
    omega (arith, ap (λ (l : List ℕ). length l) a, ap (λ (l : List ℕ). length l) b)
