-- Events that all sessions have noted are determined by what each has noted.
use Rattle.std.proofs.Common.{◌≡◌, ◌≢◌, ℕ, ◌+◌, ◌≤◌, Bool, true, false, cond, eqb, List, [], ◌∷◌, ◌++◌, length, refl, sym, ap, subst, ◌∙◌, arith, eq-eqb, ne_eqb, append-nil}
use mathlib.Core.Logic.{dite}
use native.Mathlib.Decide.{ℕ_discrete}
use Rattle.sequential.specs.Linearizable.{Event}
use Rattle.publication.specs.Moments.{session_of, noted_from, noted_by}
use Rattle.publication.proofs.Moments.{noted-append}

module _ {A : Type 0} where
  pub nothing-more : (xs ys : List A) → xs ++ ys ≡ xs → ys ≡ []
  nothing-more [] ys e = e
  nothing-more (x ∷ xs) ys e = nothing-more xs ys (cc e)

  pub same-rest : (xs ys zs : List A) → xs ++ ys ≡ xs ++ zs → ys ≡ zs
  same-rest [] ys zs e = e
  same-rest (x ∷ xs) ys zs e = same-rest xs ys zs (cc e)

  same-tail : (b : Bool) (x : A) (ps qs more : List A) → cond b (x ∷ ps) ps ≡ cond b (x ∷ qs) qs ++ more → ps ≡ qs ++ more
  same-tail true x ps qs more e = cc e
  same-tail false x ps qs more e = e

module _ {C R : Type 0} where
  -- The first event of a session, and of another.
  pub here : (i at : ℕ) (e : Event C R) (es : List (Event C R)) → session_of e ≡ i → noted_from i at (e ∷ es) ≡ (at, e) ∷ noted_from i (at + 1) es
  here i at e es is = ap (λ (b : Bool). cond b ((at, e) ∷ noted_from i (at + 1) es) (noted_from i (at + 1) es)) (eq-eqb (session_of e) i is)

  pub else : (i at : ℕ) (e : Event C R) (es : List (Event C R)) → session_of e ≢ i → noted_from i at (e ∷ es) ≡ noted_from i (at + 1) es
  else i at e es ne = ap (λ (b : Bool). cond b ((at, e) ∷ noted_from i (at + 1) es) (noted_from i (at + 1) es)) (ne_eqb (session_of e) i ne)

  -- No event has an earlier moment than the first.
  late : (i at k : ℕ) (es : List (Event C R)) (e : Event C R) (rest : List (ℕ × Event C R)) → noted_from i at es ≡ (k, e) ∷ rest → at ≤ k
  late i at k [] e rest is = absurd (cc is)
  late i at k (x ∷ es) e rest is = go (eqb (session_of x) i) (late i (at + 1) k es e rest) is
    where
      go : (b : Bool) → (noted_from i (at + 1) es ≡ (k, e) ∷ rest → at + 1 ≤ k) → cond b ((at, x) ∷ noted_from i (at + 1) es) (noted_from i (at + 1) es) ≡ (k, e) ∷ rest → at ≤ k
      go true f is = let y : (at, x) ≡ (k, e) = cc is in let z = ap (λ (p : ℕ × Event C R). p.0) y in omega (arith, z)
      go false f is = let n = f is in omega (arith, n)

  -- Events of which each session has noted at least as much begin with the others.
  pub begins : (at : ℕ) (E F : List (Event C R)) → ((i : ℕ) → (more : List (ℕ × Event C R)) × (noted_from i at F ≡ noted_from i at E ++ more)) → (rest : List (Event C R)) × (F ≡ E ++ rest)
  begins at [] F h = (F, refl)
  begins at (e ∷ E) [] h = let t = h (session_of e) in absurd (let z = t.1 ∙ ap (λ (l : List (ℕ × Event C R)). l ++ t.0) (here (session_of e) at e E refl) in cc z)
  begins at (e ∷ E) (f ∷ F) h =
      let t = begins (at + 1) E F tails in (t.0, let x = t.1 in cc (x, same))
    where
      i : ℕ
      i = session_of e

      first : noted_from i at (f ∷ F) ≡ (at, e) ∷ (noted_from i (at + 1) E ++ (h i).0)
      first = (h i).1 ∙ ap (λ (l : List (ℕ × Event C R)). l ++ (h i).0) (here i at e E refl)

      same : f ≡ e
      same = dite (ℕ_discrete (session_of f) i)
          (λ is. let y : (at, f) ≡ (at, e) = (let z = sym (here i at f F is) ∙ first in cc z) in ap (λ (p : ℕ × Event C R). p.1) y)
          (λ ne. absurd (let n = late i (at + 1) at F e (noted_from i (at + 1) E ++ (h i).0) (sym (else i at f F ne) ∙ first) in omega (arith, n)))

      tails : (j : ℕ) → (more : List (ℕ × Event C R)) × (noted_from j (at + 1) F ≡ noted_from j (at + 1) E ++ more)
      tails j = (
        (h j).0,
        same-tail (eqb (session_of e) j) (at, e) (noted_from j (at + 1) F) (noted_from j (at + 1) E) (h j).0
            (subst (λ (x : Event C R). cond (eqb (session_of x) j) ((at, x) ∷ noted_from j (at + 1) F) (noted_from j (at + 1) F) ≡ noted_from j at (e ∷ E) ++ (h j).0) same (h j).1),
      )

  -- No events are noted of none.
  none-noted : (at : ℕ) (rs : List (Event C R)) → ((i : ℕ) → noted_from i at rs ≡ []) → rs ≡ []
  none-noted at [] h = refl
  none-noted at (r ∷ rs) h = absurd (let z = sym (here (session_of r) at r rs refl) ∙ h (session_of r) in cc z)

  -- Events of which each session has noted the same are the same.
  pub only : (E F : List (Event C R)) → ((i : ℕ) → noted_by i F ≡ noted_by i E) → F ≡ E
  only E F h =
      let t = begins 0 E F (λ i. ([], h i ∙ sym (append-nil (noted_by i E)))) in
      let none = none-noted (0 + length E) t.0 (λ i. nothing-more (noted_by i E) (noted_from i (0 + length E) t.0) (sym (noted-append i 0 E t.0) ∙ (ap (noted_by i) (sym t.1) ∙ h i))) in
      t.1 ∙ (ap (λ (l : List (Event C R)). E ++ l) none ∙ append-nil E)

module _ {A : Type 0} where
  -- What is noted of one list of events but not of the other is told by nobody.
  pub told-so : (l m : List A) → (l ≢ [] → l ≡ m) → (m ≢ [] → m ≡ l) → l ≡ m
  told-so [] [] f g = refl
  told-so (x ∷ l) m f g = f (λ z. cc z)
  told-so [] (x ∷ m) f g = sym (g (λ z. cc z))
