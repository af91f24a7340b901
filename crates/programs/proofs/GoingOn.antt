-- For objects that tell by a list whose waits their calls have ended: what the list has to be so that they go on telling.
use Rattle.std.proofs.Common.{◌≡◌, ℕ, zero, suc, ◌≤◌, ◌↔◌, ◌⊎◌, inl, inr, ⊎_elim, List, [], ◌∷◌, ◌++◌, length, append_assoc, append-nil, take, drop, Contains, refl, sym, ap, subst, ◌∙◌, arith}
use Rattle.std.proofs.lemmas.List.{take-append-le, take-append-drop}
use Rattle.sequential.specs.declared.entry.Entry.{Entry}
use Rattle.sequential.specs.EndedWaits.{HasEndedIn}
use Rattle.programs.proofs.Waits.{not-empty, split}

module _ {C R : Type 0} (ends : List (Entry C R) → Entry C R → ℕ → Type 0) where
  -- the object with this history tells by this list of whose waits the entries from a place on have ended
  abbrev pub TellsBy : ℕ → List ℕ → List (Entry C R) → ℕ → Type 0
  TellsBy n list h from = (u : ℕ) → Contains list u ↔ ((1 ≤ u) × (u ≤ n) × HasEndedIn ends (take from h) (drop from h) u)

  -- what follows a place, with one entry more
  drop-push : (from : ℕ) (h : List (Entry C R)) (e : Entry C R) → from ≤ length h → drop from (h ++ e ∷ []) ≡ drop from h ++ e ∷ []
  drop-push zero h e l = refl
  drop-push (suc from) [] e l = absurd (omega (arith, l))
  drop-push (suc from) (x ∷ xs) e l = drop-push from xs e (omega (arith, l))

  -- one entry more has ended what the others have ended, and what it ends itself
  ended-push : (front es : List (Entry C R)) (e : Entry C R) (u : ℕ) → HasEndedIn ends front (es ++ e ∷ []) u ↔ (HasEndedIn ends front es u ⊎ ends (front ++ es) e u)
  ended-push front es e u = (
    λ h. ⊎_elim
        (λ l. inl (record { earlier = h.earlier; entry = h.entry; later = l.0; entries_are = l.1; ended = h.ended }))
        (λ r. inr (last r.0 h.earlier h.later h.entry r.1 r.2 h.ended))
        (split es (e ∷ []) h.earlier h.later h.entry h.entries_are),
    λ k. ⊎_elim
        (λ a. record { earlier = a.earlier; entry = a.entry; later = a.later ++ e ∷ []; entries_are = ap (λ (l : List (Entry C R)). l ++ e ∷ []) a.entries_are ∙ append_assoc a.earlier (a.entry ∷ a.later) (e ∷ []); ended = a.ended })
        (λ b. record { earlier = es; entry = e; later = []; entries_are = refl; ended = b })
        k,
  )
    where
      last : (more earlier later : List (Entry C R)) (x : Entry C R) → earlier ≡ es ++ more → e ∷ [] ≡ more ++ x ∷ later → ends (front ++ earlier) x u → ends (front ++ es) e u
      last [] earlier later x p q d =
          let same : x ≡ e = cc q in
          subst (λ (y : Entry C R). ends (front ++ es) y u) same (subst (λ (l : List (Entry C R)). ends (front ++ l) x u) (p ∙ append-nil es) d)
      last (y ∷ ys) earlier later x p q d = absurd (not-empty ys later x (let z : [] ≡ ys ++ x ∷ later = cc q in z))

  -- after one call more, the list has those besides whose wait it has ended
  pub tells-more : (n : ℕ) (list longer : List ℕ) (h : List (Entry C R)) (e : Entry C R)
      → ((u : ℕ) → Contains longer u ↔ (Contains list u ⊎ ((1 ≤ u) × (u ≤ n) × ends h e u)))
      → (from : ℕ) → from ≤ length h → TellsBy n list h from → TellsBy n longer (h ++ e ∷ []) from
  tells-more n list longer h e grown from few told u =
      let front : take from (h ++ e ∷ []) ≡ take from h = take-append-le from h (e ∷ []) few in
      let behind : drop from (h ++ e ∷ []) ≡ drop from h ++ e ∷ [] = drop-push from h e few in
      let whole : take from h ++ drop from h ≡ h = take-append-drop from h in
      let p = ended-push (take from h) (drop from h) e u in (
        λ c. ⊎_elim
            (λ a. let t = (told u).0 a in (t.0, t.1, there front behind (p.1 (inl t.2))))
            (λ b. (b.0, b.1, there front behind (p.1 (inr (subst (λ (l : List (Entry C R)). ends l e u) (sym whole) b.2)))))
            ((grown u).0 c),
        λ d. (grown u).1 (⊎_elim
            (λ a. inl ((told u).1 (d.0, d.1, a)))
            (λ b. inr (d.0, d.1, subst (λ (l : List (Entry C R)). ends l e u) whole b))
            (p.0 (back front behind d.2))),
      )
    where
      there : take from (h ++ e ∷ []) ≡ take from h → drop from (h ++ e ∷ []) ≡ drop from h ++ e ∷ [] → HasEndedIn ends (take from h) (drop from h ++ e ∷ []) u → HasEndedIn ends (take from (h ++ e ∷ [])) (drop from (h ++ e ∷ [])) u
      there a b k = subst (λ (l : List (Entry C R)). HasEndedIn ends l (drop from (h ++ e ∷ [])) u) (sym a) (subst (λ (l : List (Entry C R)). HasEndedIn ends (take from h) l u) (sym b) k)

      back : take from (h ++ e ∷ []) ≡ take from h → drop from (h ++ e ∷ []) ≡ drop from h ++ e ∷ [] → HasEndedIn ends (take from (h ++ e ∷ [])) (drop from (h ++ e ∷ [])) u → HasEndedIn ends (take from h) (drop from h ++ e ∷ []) u
      back a b k = subst (λ (l : List (Entry C R)). HasEndedIn ends (take from h) l u) b (subst (λ (l : List (Entry C R)). HasEndedIn ends l (drop from (h ++ e ∷ [])) u) a k)

  -- an empty list tells of no call
  pub tells-none : (n : ℕ) (h : List (Entry C R)) → TellsBy n [] h (length h)
  tells-none n h u = (
    λ c. let l = c.1 in absurd (omega (arith, l)),
    λ d. absurd (none (drop-all h) d.2),
  )
    where
      drop-all : (xs : List (Entry C R)) → drop (length xs) xs ≡ []
      drop-all [] = refl
      drop-all (x ∷ xs) = drop-all xs

      none : drop (length h) h ≡ [] → HasEndedIn ends (take (length h) h) (drop (length h) h) u → ⊥
      none z k = not-empty k.earlier k.later k.entry (sym z ∙ k.entries_are)
