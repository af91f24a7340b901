-- Each program has an answer.
use Rattle.std.specs.Prelude.{◌≡◌, ℕ, zero, suc, ◌+◌, Bool, true, false, List, [], ◌∷◌, ◌++◌, length, Some, slice_get}
use Rattle.std.proofs.Common.{inl, inr, length-append, append_assoc, append-nil, refl, sym, subst, arith}
use Rattle.sequential.specs.declared.entry.Entry.{Entry}
use Rattle.programs.specs.Form.{Form}
use Rattle.programs.specs.Flat.{entry, entries, entries_of, flat, IsRun, IsAnswer, AreRun, IsLegal}
use Rattle.programs.specs.Answers.{RepliesFit, AreTold}
use Rattle.programs.specs.Determined.{flat-push}

module _ {P A C R : Type 0} (form : Form P A C R) where
  -- One answer more, which is one that its program can have.
  pub are_run-push : (place : ℕ) (h : List (Entry P A)) (e : Entry P A) → AreRun form place h → form.first e.reply ≡ place + length (flat form h)
      → IsAnswer form e.call e.reply → AreRun form place (h ++ e ∷ [])
  are_run-push place [] e h f r = (omega (arith, f), r, tt)
  are_run-push place (x ∷ xs) e h f r =
      (h.0, h.1, are_run-push (place + length (entries_of form x)) xs e h.2 (omega (arith, f, length-append (entries_of form x) (flat form xs))) r)

  -- One program more, whose calls follow those of a legal history.
  pub legal-push : (is_legal : List (Entry C R) → Type 0) (s : ℕ) (p : P) (a : A) (h : List (Entry P A)) → IsLegal form is_legal h → is_legal (flat form h ++ entries_of form (entry s p a))
      → form.first a ≡ length (flat form h) → IsAnswer form p a → IsLegal form is_legal (h ++ entry s p a ∷ [])
  legal-push is_legal s p a h l n f r =
      let q : form.first a ≡ 0 + length (flat form h) = omega (arith, f) in
      (subst is_legal (sym (flat-push form h (entry s p a))) n, are_run-push 0 h (entry s p a) l.1 q r)

module _ {P A C R : Type 0} (form : Form P A C R) (is_legal : List (Entry C R) → Type 0) (fits : C → R → Type 0) where
  -- Replies to these calls behind this history, which fit.
  record HasReplies (s : ℕ) (cs : List C) (f : List (Entry C R)) : Type 0 where
    replies : List R
    legal : is_legal (f ++ entries s cs replies)
    run : IsRun form cs replies false
    fit : RepliesFit form fits cs replies

  -- A call behind which the program goes on, and the rest.
  more : (s : ℕ) (c : C) (cs : List C) (f : List (Entry C R)) (r : R) → fits c r → form.goes_on r ≡ true → HasReplies s cs (f ++ entry s c r ∷ []) → HasReplies s (c ∷ cs) f
  more s c cs f r x e h = record {
    replies = r ∷ h.replies;
    legal = subst is_legal (append_assoc f (entry s c r ∷ []) (entries s cs h.replies)) h.legal;
    run = inl (e, h.run);
    fit = fit;
  }
    where
      fit : (k : ℕ) (d : C) (q : R) → slice_get (c ∷ cs) k ≡ Some d → slice_get (r ∷ h.replies) k ≡ Some q → fits d q
      fit zero d q a b = let u : c ≡ d = cc in let v : r ≡ q = cc in subst (λ (y : C). fits y q) u (subst (fits c) v x)
      fit (suc k) d q a b = h.fit k d q a b

  -- A call at whose reply the program stops.
  stops : (s : ℕ) (c : C) (cs : List C) (f : List (Entry C R)) (r : R) → fits c r → form.goes_on r ≡ false → is_legal (f ++ entry s c r ∷ []) → HasReplies s (c ∷ cs) f
  stops s c cs f r x e l = record {
    replies = r ∷ [];
    legal = subst (λ (y : List (Entry C R)). is_legal (f ++ (entry s c r ∷ y))) (sym (none cs)) l;
    run = inr (e, refl, refl);
    fit = fit;
  }
    where
      none : (ds : List C) → entries {R = R} s ds [] ≡ []
      none [] = refl
      none (d ∷ ds) = refl

      fit : (k : ℕ) (d : C) (q : R) → slice_get (c ∷ cs) k ≡ Some d → slice_get (r ∷ []) k ≡ Some q → fits d q
      fit zero d q a b = let u : c ≡ d = cc in let v : r ≡ q = cc in subst (λ (y : C). fits y q) u (subst (fits c) v x)
      fit (suc k) d q a b = absurd (cc)

  has-replies : ((front : List (Entry C R)) (s : ℕ) (c : C) → is_legal front → (r : R) × is_legal (front ++ entry s c r ∷ []))
      → ((front : List (Entry C R)) (e : Entry C R) → is_legal (front ++ e ∷ []) → fits e.call e.reply)
      → (s : ℕ) (cs : List C) (f : List (Entry C R)) → is_legal f → HasReplies s cs f
  has-replies total fit s [] f l = record { replies = []; legal = subst is_legal (sym (append-nil f)) l; run = refl; fit = λ k c r a b. absurd (cc) }
  has-replies total fit s (c ∷ cs) f l =
      let t = total f s c l in
      at c cs f t.0 t.1 (form.goes_on t.0) refl (has-replies total fit s cs (f ++ entry s c t.0 ∷ []) t.1)
    where
      at : (d : C) (ds : List C) (g : List (Entry C R)) (r : R) → is_legal (g ++ entry s d r ∷ []) → (b : Bool) → form.goes_on r ≡ b → HasReplies s ds (g ++ entry s d r ∷ []) → HasReplies s (d ∷ ds) g
      at d ds g r m true e h = more s d ds g r (fit g (entry s d r) m) e h
      at d ds g r m false e h = stops s d ds g r (fit g (entry s d r) m) e m

  -- Each program has a legal answer behind each legal history.
  pub answers_are_total : ((front : List (Entry C R)) (s : ℕ) (c : C) → is_legal front → (r : R) × is_legal (front ++ entry s c r ∷ []))
      → AreTold form fits → ((front : List (Entry C R)) (e : Entry C R) → is_legal (front ++ e ∷ []) → fits e.call e.reply)
      → (h : List (Entry P A)) (s : ℕ) (p : P) → IsLegal form is_legal h → (a : A) × IsLegal form is_legal (h ++ entry s p a ∷ [])
  answers_are_total total told fit h s p l =
      let r : HasReplies s (form.calls p) (flat form h) = has-replies total fit s (form.calls p) (flat form h) l.0 in
      let a = told p (length (flat form h)) r.replies r.run r.fit in (
        a.0,
        legal-push form is_legal s p a.0 h l
            (subst (λ (rs : List R). is_legal (flat form h ++ entries s (form.calls p) rs)) (sym a.1) r.legal)
            a.2 (
              subst (λ (rs : List R). IsRun form (form.calls p) rs (form.refused a.0)) (sym a.1) (subst (IsRun form (form.calls p) r.replies) (sym a.3) r.run),
              λ (e : form.refused a.0 ≡ true). absurd (let f = a.3 in cc),
            ),
      )
