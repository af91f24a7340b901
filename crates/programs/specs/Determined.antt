-- The answers to one program behind one history.
use Rattle.std.specs.Prelude.{◌≡◌, ℕ, ◌+◌, Bool, true, false, List, [], ◌∷◌, ◌++◌, length}
use Rattle.std.proofs.Common.{inl, inr, length-append, append_assoc, append-nil, sym, ap, subst, ◌∙◌, arith}
use Rattle.sequential.specs.declared.entry.Entry.{Entry}
use Rattle.programs.specs.Form.{Form}
use Rattle.programs.specs.Flat.{entry, entries, entries_of, flat, IsRun, IsAnswer, AreRun, IsLegal}
use Rattle.programs.specs.Answers.{RepliesAgree, AnswersAgree, AreSame}
use Rattle.programs.specs.Fronts.{flat-append}

module _ {P A C R : Type 0} (form : Form P A C R) where
  -- The calls of one program more follow the others.
  pub flat-push : (h : List (Entry P A)) (e : Entry P A) → flat form (h ++ e ∷ []) ≡ flat form h ++ entries_of form e
  flat-push h e = flat-append form h (e ∷ []) ∙ ap (λ (l : List (Entry C R)). flat form h ++ l) (append-nil (entries_of form e))

  -- The last answer of a history, by what is told of it.
  pub last-run : (place : ℕ) (h : List (Entry P A)) (e : Entry P A) → AreRun form place (h ++ e ∷ []) → (form.first e.reply ≡ place + length (flat form h)) × IsAnswer form e.call e.reply
  last-run place [] e r = (omega (arith, r.0), r.1)
  last-run place (x ∷ xs) e r =
      let n = last-run (place + length (entries_of form x)) xs e r.2 in
      (omega (arith, n.0, length-append (entries_of form x) (flat form xs)), n.1)

module _ {P A C R : Type 0} (form : Form P A C R) (agree : C → R → R → Type 0) where
  none-agree : (cs : List C) (qs : List R) (x y : Bool) → IsRun form cs [] x → IsRun form cs qs y → RepliesAgree agree cs [] qs x y
  none-agree cs [] x y h k = tt
  none-agree [] (q ∷ qs) x y h k = absurd k
  none-agree (c ∷ cs) (q ∷ qs) x y h k = h

  agree-none : (cs : List C) (rs : List R) (x y : Bool) → IsRun form cs rs x → IsRun form cs [] y → RepliesAgree agree cs rs [] x y
  agree-none cs [] x y h k = tt
  agree-none [] (r ∷ rs) x y h k = absurd h
  agree-none (c ∷ cs) (r ∷ rs) x y h k = k

  -- Two answers to the same calls behind the same history.
  run-agree : (is_legal : List (Entry C R) → Type 0) → ((front rest : List (Entry C R)) → is_legal (front ++ rest) → is_legal front)
      → ((front : List (Entry C R)) (s : ℕ) (c : C) (r q : R) → is_legal (front ++ entry s c r ∷ []) → is_legal (front ++ entry s c q ∷ []) → agree c r q)
      → (s : ℕ) (cs : List C) (rs qs : List R) (x y : Bool) (f : List (Entry C R)) → is_legal (f ++ entries s cs rs) → is_legal (f ++ entries s cs qs)
      → IsRun form cs rs x → IsRun form cs qs y → RepliesAgree agree cs rs qs x y
  run-agree is_legal fronts det s cs [] qs x y f l m h k = none-agree cs qs x y h k
  run-agree is_legal fronts det s cs (r ∷ rs) [] x y f l m h k = agree-none cs (r ∷ rs) x y h k
  run-agree is_legal fronts det s [] (r ∷ rs) (q ∷ qs) x y f l m h k = absurd h
  run-agree is_legal fronts det s (c ∷ cs) (r ∷ rs) (q ∷ qs) x y f l m h k = (
    det f s c r q (fronts (f ++ entry s c r ∷ []) (entries s cs rs) (first r rs l)) (fronts (f ++ entry s c q ∷ []) (entries s cs qs) (first q qs m)),
    λ same. rest same h k (λ a b. run-agree is_legal fronts det s cs rs qs x y (f ++ entry s c r ∷ []) (first r rs l) (second same) a b),
  )
    where
      first : (v : R) (vs : List R) → is_legal (f ++ (entry s c v ∷ entries s cs vs)) → is_legal ((f ++ entry s c v ∷ []) ++ entries s cs vs)
      first v vs e = subst is_legal (sym (append_assoc f (entry s c v ∷ []) (entries s cs vs))) e

      second : r ≡ q → is_legal ((f ++ entry s c r ∷ []) ++ entries s cs qs)
      second same = subst (λ (v : R). is_legal ((f ++ entry s c v ∷ []) ++ entries s cs qs)) (sym same) (first q qs m)

      rest : r ≡ q → IsRun form (c ∷ cs) (r ∷ rs) x → IsRun form (c ∷ cs) (q ∷ qs) y → (IsRun form cs rs x → IsRun form cs qs y → RepliesAgree agree cs rs qs x y) → RepliesAgree agree cs rs qs x y
      rest same (inl a) (inl b) next = next a.1 b.1
      rest same (inl a) (inr b) next = absurd (let u : true ≡ false = sym a.0 ∙ ap form.goes_on same ∙ b.0 in cc)
      rest same (inr a) (inl b) next = absurd (let u : true ≡ false = sym b.0 ∙ ap form.goes_on (sym same) ∙ a.0 in cc)
      rest same (inr a) (inr b) next =
          subst (λ (vs : List R). RepliesAgree agree cs vs qs x y) (sym a.1) (subst (λ (vs : List R). RepliesAgree agree cs [] vs x y) (sym b.1) tt)

  -- The answer to a program is determined by the programs before it: any two that are legal there agree.
  pub answers_are_determined : (is_legal : List (Entry C R) → Type 0) → ((front rest : List (Entry C R)) → is_legal (front ++ rest) → is_legal front)
      → ((front : List (Entry C R)) (s : ℕ) (c : C) (r q : R) → is_legal (front ++ entry s c r ∷ []) → is_legal (front ++ entry s c q ∷ []) → agree c r q)
      → (h : List (Entry P A)) (s : ℕ) (p : P) (a b : A) → IsLegal form is_legal (h ++ entry s p a ∷ []) → IsLegal form is_legal (h ++ entry s p b ∷ []) → AnswersAgree form agree p a b
  answers_are_determined is_legal fronts det h s p a b l m =
      let v = last-run form 0 h (entry s p a) l.1 in
      let w = last-run form 0 h (entry s p b) m.1 in (
        v.0 ∙ sym w.0,
        run-agree is_legal fronts det s (form.calls p) (form.replies p a) (form.replies p b) (form.refused a) (form.refused b) (flat form h)
            (subst is_legal (flat-push form h (entry s p a)) l.0) (subst is_legal (flat-push form h (entry s p b)) m.0) v.1.0 w.1.0,
      )

  -- If only equal replies agree, those that agree are the same.
  pub agree-same : ((c : C) (r q : R) → agree c r q → r ≡ q) → (cs : List C) (rs qs : List R) (x y : Bool) → RepliesAgree agree cs rs qs x y → AreSame rs qs x y
  agree-same eq cs [] [] x y h = tt
  agree-same eq cs [] (q ∷ qs) x y h = h
  agree-same eq cs (r ∷ rs) [] x y h = h
  agree-same eq [] (r ∷ rs) (q ∷ qs) x y h = absurd h
  agree-same eq (c ∷ cs) (r ∷ rs) (q ∷ qs) x y h = let e = eq c r q h.0 in (e, agree-same eq cs rs qs x y (h.1 e))
