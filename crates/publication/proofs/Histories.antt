-- Histories, their fronts, and the calls of one session.
use Rattle.std.proofs.Common.{◌≡◌, ◌≢◌, ℕ, zero, suc, ◌+◌, ◌<◌, ◌≤◌, Bool, true, false, cond, eqb, List, [], ◌∷◌, ◌++◌, length, take, refl, ap, sym, subst, ◌∙◌, arith, eq-eqb, ne_eqb, append-nil}
use mathlib.Core.List.{IsPrefix}
use Rattle.sequential.specs.declared.entry.Entry.{Entry}
use Rattle.sequential.specs.Histories.{Answered, calls_from, calls_of}
use Rattle.sequential.proofs.SessionCalls.{calls_of-push}
use Rattle.publication.specs.Views.{entry, answer}
use Rattle.sequential.specs.Meaning.{AreFrontsLegal}
use Rattle.sequential.specs.declared.object.Sequential.{Ghosts}

module _ {O C R : Type 0} (obj : Ghosts O C R) where
  -- A front of a legal history is legal.
  pub legal-begins : AreFrontsLegal obj → (f h : List (Entry C R)) → IsPrefix f h → obj.is_legal h → obj.is_legal f
  legal-begins fronts f h p legal = fronts f p.0 (subst obj.is_legal (sym p.1) legal)

module _ {C R : Type 0} where
  -- A front is at most as long as the history.
  pub length-begins : (f h : List (Entry C R)) → IsPrefix f h → length f ≤ length h
  length-begins f h p = subst (λ (l : List (Entry C R)). length f ≤ length l) p.1 (longer f p.0)
    where
      longer : (f r : List (Entry C R)) → length f ≤ length (f ++ r)
      longer [] r = omega arith
      longer (x ∷ xs) r = omega (arith, longer xs r)

  -- a history with one more entry

  -- An entry of session i adds its call to the session's calls.
  pub calls-mine : (i : ℕ) (h : List (Entry C R)) (call : C) (reply : R) → calls_of i (h ++ entry i call reply ∷ []) ≡ calls_of i h ++ answer (length h) call reply ∷ []
  calls-mine i h call reply = calls_of-push i h (entry i call reply) ∙ ap (λ (b : Bool). calls_of i h ++ cond b (answer (length h) call reply ∷ []) []) (eq-eqb i i refl)

  -- An entry of another session doesn't change the session's calls.
  pub calls-other : (i j : ℕ) (h : List (Entry C R)) (call : C) (reply : R) → j ≢ i → calls_of i (h ++ entry j call reply ∷ []) ≡ calls_of i h
  calls-other i j h call reply ne = calls_of-push i h (entry j call reply)
      ∙ (ap (λ (b : Bool). calls_of i h ++ cond b (answer (length h) call reply ∷ []) []) (ne_eqb j i ne) ∙ append-nil (calls_of i h))

  -- fronts of a history

  -- The entry's call as answered at this place.
  abbrev at : ℕ → Entry C R → Answered C R
  at place e = answer place e.call e.reply

  -- The last call of a session has a place not below the first.
  place_late : (i k : ℕ) (h : List (Entry C R)) (cs : List (Answered C R)) (x : Answered C R) → calls_from i k h ≡ cs ++ x ∷ [] → k ≤ x.place
  place_late i k [] [] x e = absurd (cc e)
  place_late i k [] (c ∷ cs) x e = absurd (cc e)
  place_late i k (y ∷ ys) cs x e =
      let later : List (Answered C R) = calls_from i (k + 1) ys in
      let deep : (ds : List (Answered C R)) → later ≡ ds ++ x ∷ [] → k ≤ x.place = λ ds is. let t = place_late i (k + 1) ys ds x is in omega arith in
      let here : (ds : List (Answered C R)) → at k y ∷ later ≡ ds ++ x ∷ [] → k ≤ x.place = elim [
        | [] ↦ λ is. let p : at k y ≡ x = cc is in let q : k ≡ x.place = ap (λ (z : Answered C R). z.place) p in omega arith
        | d ∷ ds ↦ λ is. deep ds (cc is)
      ] in
      (elim (eqb y.session i) as (λ b. cond b (at k y ∷ later) later ≡ cs ++ x ∷ [] → k ≤ x.place) [ true ↦ here cs | false ↦ deep cs ]) e

  calls_none : (i k n : ℕ) (h : List (Entry C R)) → calls_from i k h ≡ [] → calls_from i k (take n h) ≡ []
  calls_none i k zero h e = refl
  calls_none i k (suc n) [] e = refl
  calls_none i k (suc n) (x ∷ xs) e =
      let later : List (Answered C R) = calls_from i (k + 1) xs in
      let later_cut : List (Answered C R) = calls_from i (k + 1) (take n xs) in
      (elim (eqb x.session i) as (λ b. cond b (at k x ∷ later) later ≡ [] → cond b (at k x ∷ later_cut) later_cut ≡ [])
      [ true ↦ λ is. absurd (cc is) | false ↦ calls_none i (k + 1) n xs ]) e

  -- A front that has the last call of a session has all its calls.
  pub calls-cut : (i k n : ℕ) (h : List (Entry C R)) (cs : List (Answered C R)) (x : Answered C R) → calls_from i k h ≡ cs ++ x ∷ [] → x.place < k + n → calls_from i k (take n h) ≡ calls_from i k h
  calls-cut i k n [] cs x e small = absurd (elim cs as (λ ds. [] ≡ ds ++ x ∷ [] → ⊥) [ [] ↦ λ is. cc is | d ∷ ds ↦ λ is. cc is ] e)
  calls-cut i k zero (y ∷ ys) cs x e small = let late = place_late i k (y ∷ ys) cs x e in absurd (omega arith)
  calls-cut i k (suc n) (y ∷ ys) cs x e small =
      let c : Answered C R = at k y in
      let later : List (Answered C R) = calls_from i (k + 1) ys in
      let later_cut : List (Answered C R) = calls_from i (k + 1) (take n ys) in
      let deep : (ds : List (Answered C R)) → later ≡ ds ++ x ∷ [] → later_cut ≡ later = λ ds is. calls-cut i (k + 1) n ys ds x is (omega arith) in
      let here : (ds : List (Answered C R)) → c ∷ later ≡ ds ++ x ∷ [] → c ∷ later_cut ≡ c ∷ later = elim [
        | [] ↦ λ is. let none : later ≡ [] = cc is in ap (λ (l : List (Answered C R)). c ∷ l) (calls_none i (k + 1) n ys none ∙ sym none)
        | d ∷ ds ↦ λ is. ap (λ (l : List (Answered C R)). c ∷ l) (deep ds (cc is))
      ] in
      (elim (eqb y.session i) as (λ b. cond b (c ∷ later) later ≡ cs ++ x ∷ [] → cond b (c ∷ later_cut) later_cut ≡ cond b (c ∷ later) later) [ true ↦ here cs | false ↦ deep cs ]) e

  -- A front has at most as many calls of a session as the whole history.
  calls_append : (i k : ℕ) (f r : List (Entry C R)) → length (calls_from i k f) ≤ length (calls_from i k (f ++ r))
  calls_append i k [] r = omega arith
  calls_append i k (x ∷ xs) r =
      let later : List (Answered C R) = calls_from i (k + 1) xs in
      let longer : List (Answered C R) = calls_from i (k + 1) (xs ++ r) in
      let t = calls_append i (k + 1) xs r in
      elim (eqb x.session i) as (λ b. length (cond b (at k x ∷ later) later) ≤ length (cond b (at k x ∷ longer) longer)) [ true ↦ omega arith | false ↦ t ]

  -- A front of a history has at most as many calls of a session.
  pub calls-fewer : (i : ℕ) (f h : List (Entry C R)) → IsPrefix f h → length (calls_of i f) ≤ length (calls_of i h)
  calls-fewer i f h p = subst (λ (l : List (Entry C R)). length (calls_of i f) ≤ length (calls_of i l)) p.1 (calls_append i 0 f p.0)
