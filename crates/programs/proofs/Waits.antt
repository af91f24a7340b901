-- Programs end the waits that their calls end.
use Rattle.std.proofs.Common.{◌≡◌, ℕ, ◌≤◌, ◌↔◌, ◌⊎◌, inl, inr, ⊎_elim, List, [], ◌∷◌, ◌++◌, append_assoc, append-nil, take, drop, refl, sym, ap, subst, ◌∙◌, arith}
use Rattle.std.proofs.Math.Seq.{take-append_seam, drop-append_seam}
use Rattle.sequential.specs.declared.entry.Entry.{Entry}
use Rattle.sequential.specs.EndedWaits.{HasEndedIn}
use Rattle.programs.specs.Form.{Form}
use Rattle.programs.specs.Flat.{entries_of, flat}
use Rattle.programs.specs.Fronts.{flat-append}
use Rattle.programs.specs.Determined.{flat-push}
use Rattle.programs.specs.Ended.{EndsWait}
use Rattle.programs.specs.Views.{place_of}
use Rattle.programs.proofs.Pushes.{flat-split}

module _ {T : Type 0} where
  -- a list with an item isn't empty
  pub not-empty : (xs ys : List T) (e : T) → [] ≡ xs ++ e ∷ ys → ⊥
  not-empty [] ys e p = absurd (cc p)
  not-empty (x ∷ xs) ys e p = absurd (cc p)

  -- an item of two lists, one behind the other, is in the first or in the second
  pub split : (xs ys earlier later : List T) (e : T) → xs ++ ys ≡ earlier ++ e ∷ later
      → ((rest : List T) × (xs ≡ earlier ++ e ∷ rest)) ⊎ ((more : List T) × (earlier ≡ xs ++ more) × (ys ≡ more ++ e ∷ later))
  split [] ys earlier later e p = inr (earlier, refl, p)
  split (x ∷ xs) ys [] later e p = let q : x ≡ e = cc p in inl (xs, ap (λ (w : T). w ∷ xs) q)
  split (x ∷ xs) ys (z ∷ zs) later e p =
      let first : x ≡ z = cc p in
      let behind : xs ++ ys ≡ zs ++ e ∷ later = cc p in
      ⊎_elim (λ l. inl (l.0, ap (λ (w : T). w ∷ xs) first ∙ ap (λ (v : List T). z ∷ v) l.1))
      (λ r. inr (r.0, ap (λ (w : T). w ∷ zs) (sym first) ∙ ap (λ (v : List T). x ∷ v) r.1, r.2))
      (split xs ys zs later e behind)

module _ {P A C R : Type 0} (form : Form P A C R) (ends : List (Entry C R) → Entry C R → ℕ → Type 0) where
  -- a wait that a program has ended, one of its calls has ended
  flat-ended : (front programs : List (Entry P A)) (u : ℕ) → HasEndedIn (EndsWait form ends) front programs u → HasEndedIn ends (flat form front) (flat form programs) u
  flat-ended front programs u h =
      let i = h.ended in record {
        earlier = flat form h.earlier ++ i.earlier;
        entry = i.entry;
        later = i.later ++ flat form h.later;
        entries_are = ap (flat form) h.entries_are ∙ flat-append form h.earlier (h.entry ∷ h.later)
            ∙ ap (λ (l : List (Entry C R)). flat form h.earlier ++ (l ++ flat form h.later)) i.entries_are
            ∙ ap (λ (l : List (Entry C R)). flat form h.earlier ++ l) (append_assoc i.earlier (i.entry ∷ i.later) (flat form h.later))
            ∙ sym (append_assoc (flat form h.earlier) i.earlier (i.entry ∷ (i.later ++ flat form h.later)));
        ended = subst (λ (l : List (Entry C R)). ends l i.entry u)
            (ap (λ (l : List (Entry C R)). l ++ i.earlier) (flat-append form front h.earlier) ∙ append_assoc (flat form front) (flat form h.earlier) i.earlier)
            i.ended;
      }

  -- a wait that a call has ended, its program has ended
  ended-flat : (front programs : List (Entry P A)) (u : ℕ) → HasEndedIn ends (flat form front) (flat form programs) u → HasEndedIn (EndsWait form ends) front programs u
  ended-flat front [] u h = absurd (not-empty h.earlier h.later h.entry h.entries_are)
  ended-flat front (x ∷ xs) u h =
      ⊎_elim (λ l. record {
        earlier = [];
        entry = x;
        later = xs;
        entries_are = refl;
        ended = record {
          earlier = h.earlier;
          entry = h.entry;
          later = l.0;
          entries_are = l.1;
          ended = subst (λ (f : List (Entry P A)). ends (flat form f ++ h.earlier) h.entry u) (sym (append-nil front)) h.ended;
        };
      })
      (λ r.
      let next : HasEndedIn ends (flat form (front ++ x ∷ [])) (flat form xs) u = record {
        earlier = r.0;
        entry = h.entry;
        later = h.later;
        entries_are = r.2;
        ended = subst (λ (l : List (Entry C R)). ends l h.entry u)
            (ap (λ (l : List (Entry C R)). flat form front ++ l) r.1
            ∙ sym (append_assoc (flat form front) (entries_of form x) r.0)
            ∙ ap (λ (l : List (Entry C R)). l ++ r.0) (sym (flat-push form front x)))
            h.ended;
      } in
      let k = ended-flat (front ++ x ∷ []) xs u next in record {
        earlier = x ∷ k.earlier;
        entry = k.entry;
        later = k.later;
        entries_are = ap (λ (l : List (Entry P A)). x ∷ l) k.entries_are;
        ended = subst (λ (f : List (Entry P A)). EndsWait form ends f k.entry u) (append_assoc front (x ∷ []) k.earlier) k.ended;
      })
      (split (entries_of form x) (flat form xs) h.earlier h.later h.entry h.entries_are)

  -- programs have ended the waits that their calls have ended
  pub same-waits : (front programs : List (Entry P A)) (u : ℕ) → HasEndedIn (EndsWait form ends) front programs u ↔ HasEndedIn ends (flat form front) (flat form programs) u
  same-waits front programs u = (flat-ended front programs u, ended-flat front programs u)

  -- who is told of the calls from a place on is told of the programs from theirs on
  pub tells-programs : (H : List (Entry C R)) (h : List (Entry P A)) → H ≡ flat form h → (from u n m : ℕ) (IsTold : Type 0) → n ≡ m
      → IsTold ↔ ((1 ≤ u) × (u ≤ n) × HasEndedIn ends (take (place_of form from h) H) (drop (place_of form from h) H) u)
      → IsTold ↔ ((1 ≤ u) × (u ≤ m) × HasEndedIn (EndsWait form ends) (take from h) (drop from h) u)
  tells-programs H h is from u n m IsTold same t = (
    λ a. let k = t.0 a in let l = k.1 in (k.0, omega (arith, l, same), ended-flat (take from h) (drop from h) u (there k.2)),
    λ b. let l = b.1 in t.1 (b.0, omega (arith, l, same), back (flat-ended (take from h) (drop from h) u b.2)),
  )
    where
      parts : H ≡ flat form (take from h) ++ flat form (drop from h)
      parts = is ∙ flat-split form from h

      ahead : take (place_of form from h) H ≡ flat form (take from h)
      ahead = ap (take (place_of form from h)) parts ∙ take-append_seam (flat form (take from h)) (flat form (drop from h))

      behind : drop (place_of form from h) H ≡ flat form (drop from h)
      behind = ap (drop (place_of form from h)) parts ∙ drop-append_seam (flat form (take from h)) (flat form (drop from h))

      there : HasEndedIn ends (take (place_of form from h) H) (drop (place_of form from h) H) u → HasEndedIn ends (flat form (take from h)) (flat form (drop from h)) u
      there k = subst (λ (l : List (Entry C R)). HasEndedIn ends l (flat form (drop from h)) u) ahead
          (subst (λ (l : List (Entry C R)). HasEndedIn ends (take (place_of form from h) H) l u) behind k)

      back : HasEndedIn ends (flat form (take from h)) (flat form (drop from h)) u → HasEndedIn ends (take (place_of form from h) H) (drop (place_of form from h) H) u
      back k = subst (λ (l : List (Entry C R)). HasEndedIn ends l (drop (place_of form from h) H) u) (sym ahead)
          (subst (λ (l : List (Entry C R)). HasEndedIn ends (flat form (take from h)) l u) (sym behind) k)
