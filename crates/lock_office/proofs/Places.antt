-- The places that the calls of programs have in the history of calls.
use Rattle.std.proofs.Common.{◌≡◌, ℕ, zero, suc, ◌+◌, ◌-◌, ◌<◌, ◌≤◌, ◌↔◌, ◌⊎◌, inl, inr, ⊎_elim, List, [], ◌∷◌, ◌++◌, length, take, Contains, refl, sym, ap, ◌∙◌, subst, arith, length-append, append_assoc}
use Rattle.std.specs.List.{range_with_len, flat_map}
use Rattle.std.proofs.lemmas.List.{length-take-le}
use Rattle.std.proofs.lemmas.List.Elements.{Contains-append_left, Contains-append_right, Contains-append_cases}
use Rattle.std.proofs.Math.Seq.{take-append_seam}
use mathlib.Core.Option as opt
use lib.ListN.{get_elem?}
use Rattle.sequential.specs.declared.entry.Entry.{Entry}
use Rattle.sequential.specs.EndedWaits.{HasEndedIn, HasEndedAt}
use Rattle.sequential.proofs.Members.{Member, contains-member, member-contains}
use Rattle.programs.specs.Form.{Form}
use Rattle.programs.specs.Flat.{entries_of, flat}
use Rattle.programs.specs.Fronts.{flat-append}
use Rattle.programs.specs.Determined.{flat-push}
use Rattle.programs.specs.Ended.{EndsWait}
use Rattle.programs.specs.Views.{place_of}
use Rattle.programs.proofs.Waits.{split}
use Rattle.publication.proofs.Lists.{at_there}
use Rattle.combining.proofs.EndedWaits.{split-at, elem-seam, in-range, of-range}

module _ {A B : Type 0} (f : A → List B) where
  -- what an element of a list brings is in the whole, and nothing else is
  in-each : (xs : List A) (x : A) (y : B) → Member x xs → Contains (f x) y → Contains (flat_map f xs) y
  in-each [] x y m has = absurd m
  in-each (z ∷ zs) x y (inl e) has = Contains-append_left (f z) (flat_map f zs) y (subst (λ (w : A). Contains (f w) y) (sym e) has)
  in-each (z ∷ zs) x y (inr m) has = Contains-append_right (f z) (flat_map f zs) y (in-each zs x y m has)

  of-each : (xs : List A) (y : B) → Contains (flat_map f xs) y → (x : A) × Member x xs × Contains (f x) y
  of-each [] y h = absurd (contains-member y [] h)
  of-each (z ∷ zs) y h =
      ⊎_elim (λ here. (z, inl refl, here)) (λ more. let r = of-each zs y more in (r.0, inr r.1, r.2)) (Contains-append_cases (f z) (flat_map f zs) y h)

module _ {A : Type 0} where
  -- one element more
  take-one : (l : List A) (i : ℕ) (e : A) → get_elem? l i ≡ opt.some e → take (i + 1) l ≡ take i l ++ e ∷ []
  take-one l i e is =
      let s = split-at l i e is in
      let few : i < length l = (at_there l i e e is).1 in
      let long : length (take i l ++ e ∷ []) ≡ i + 1 = omega (arith, length-append (take i l) (e ∷ []), length-take-le i l (omega (arith, few))) in
      let whole : l ≡ (take i l ++ e ∷ []) ++ s.0 = s.1 ∙ sym (append_assoc (take i l) (e ∷ []) s.0) in
      ap (λ (n : ℕ). take n l) (sym long) ∙ (ap (λ (k : List A). take (length (take i l ++ e ∷ [])) k) whole ∙ take-append_seam (take i l ++ e ∷ []) s.0)

  -- there is none behind the end
  pub take-past : (l : List A) (i : ℕ) → length l ≤ i → take i l ≡ l
  take-past [] zero few = refl
  take-past [] (suc i) few = refl
  take-past (x ∷ l) zero few = absurd (omega (arith, few))
  take-past (x ∷ l) (suc i) few = ap (λ (k : List A). x ∷ k) (take-past l i (omega (arith, few)))

  take-none : (l : List A) (i : ℕ) → length l ≤ i → take (i + 1) l ≡ take i l
  take-none l i few = take-past l (i + 1) (omega (arith, few)) ∙ sym (take-past l i few)

  -- an element at each place, or none from there on
  elem-or : (l : List A) (i : ℕ) → ((e : A) × (get_elem? l i ≡ opt.some e)) ⊎ (length l ≤ i)
  elem-or [] i = inr (omega arith)
  elem-or (x ∷ l) zero = inl (x, refl)
  elem-or (x ∷ l) (suc i) = ⊎_elim (λ h. inl h) (λ few. inr (omega (arith, few))) (elem-or l i)

module _ {P A C R : Type 0} (form : Form P A C R) where
  abbrev first : List (Entry P A) → ℕ → ℕ
  first h p = place_of form p h

  -- the calls of the program at a place, and those before and behind it
  record IsSplit (h : List (Entry P A)) (p : ℕ) (e : Entry P A) : Type 0 where
    behind : List (Entry C R)
    calls : flat form h ≡ flat form (take p h) ++ (entries_of form e ++ behind)
    next : first h (p + 1) ≡ first h p + length (entries_of form e)

  split-calls : (h : List (Entry P A)) (p : ℕ) (e : Entry P A) → get_elem? h p ≡ opt.some e → IsSplit h p e
  split-calls h p e is = let s = split-at h p e is in record {
    behind = flat form s.0;
    calls = ap (flat form) s.1 ∙ flat-append form (take p h) (e ∷ s.0);
    next = ap (λ (l : List (Entry P A)). length (flat form l)) (take-one h p e is) ∙ (ap (λ (l : List (Entry C R)). length l) (flat-push form (take p h) e) ∙ length-append (flat form (take p h)) (entries_of form e));
  }

  -- the places of the calls of the program at a place
  abbrev within : List (Entry P A) → ℕ → List ℕ
  within h p = range_with_len (first h p) (first h (p + 1) - first h p)

  module _ (ends : List (Entry C R) → Entry C R → ℕ → Type 0) where
    -- a wait that a program at one of the places has ended was ended at one of the places of its calls
    by-calls : (h : List (Entry P A)) (places : List ℕ) (u : ℕ) → HasEndedAt (EndsWait form ends) h places u → HasEndedAt ends (flat form h) (flat_map (within h) places) u
    by-calls h places u k =
        let e = k.entry in
        let s = split-calls h k.place e k.stands in
        let i = k.ended in
        let n : ℕ = length i.earlier in
        let ahead : List (Entry C R) = flat form (take k.place h) ++ i.earlier in
        let long : length ahead ≡ first h k.place + n = length-append (flat form (take k.place h)) i.earlier in
        let calls : length (entries_of form e) ≡ length i.earlier + length (i.entry ∷ i.later) = ap (λ (l : List (Entry C R)). length l) i.entries_are ∙ length-append i.earlier (i.entry ∷ i.later) in
        let few : n < first h (k.place + 1) - first h k.place = omega (arith, s.next, calls) in
        let whole : flat form h ≡ ahead ++ i.entry ∷ (i.later ++ s.behind)
        = s.calls ∙ (ap (λ (l : List (Entry C R)). flat form (take k.place h) ++ (l ++ s.behind)) i.entries_are
        ∙ (ap (λ (l : List (Entry C R)). flat form (take k.place h) ++ l) (append_assoc i.earlier (i.entry ∷ i.later) s.behind)
        ∙ sym (append_assoc (flat form (take k.place h)) i.earlier (i.entry ∷ (i.later ++ s.behind))))) in
        let here : Contains (within h k.place) (length ahead)
        = subst (λ (q : ℕ). Contains (within h k.place) q) (sym long) (in-range (first h k.place) (first h (k.place + 1) - first h k.place) n few) in
        record {
          place = length ahead;
          among = in-each (within h) places k.place (length ahead) (contains-member k.place places k.among) here;
          entry = i.entry;
          stands = ap (λ (l : List (Entry C R)). get_elem? l (length ahead)) whole ∙ elem-seam ahead i.entry (i.later ++ s.behind);
          ended = subst (λ (l : List (Entry C R)). ends l i.entry u) (sym (ap (take (length ahead)) whole ∙ take-append_seam ahead (i.entry ∷ (i.later ++ s.behind)))) i.ended;
        }

    -- a call at one of the places of a program is among those that it made
    among-calls : (h : List (Entry P A)) (p q : ℕ) (e : Entry P A) (c : Entry C R) (u : ℕ) → get_elem? h p ≡ opt.some e → first h p ≤ q → q < first h (p + 1)
        → get_elem? (flat form h) q ≡ opt.some c → ends (take q (flat form h)) c u → HasEndedIn ends (flat form (take p h)) (entries_of form e) u
    among-calls h p q e c u is low high stands ended =
        let s = split-calls h p e is in
        let at = split-at (flat form h) q c stands in
        let few : q < length (flat form h) = (at_there (flat form h) q c c stands).1 in
        let long : length (take q (flat form h)) ≡ q = length-take-le q (flat form h) (omega (arith, few)) in
        ⊎_elim
        (λ early. absurd (let n = ap (λ (l : List (Entry C R)). length l) early.1 in omega (arith, n, long, low, length-append (take q (flat form h)) (c ∷ early.0))))
        (λ later.
        let front = later.1 in
        let n : q ≡ first h p + length later.0 = sym long ∙ (ap (λ (l : List (Entry C R)). length l) front ∙ length-append (flat form (take p h)) later.0) in
        ⊎_elim
        (λ mine. record { earlier = later.0; entry = c; later = mine.0; entries_are = mine.1; ended = subst (λ (l : List (Entry C R)). ends l c u) front ended })
        (λ others.
        let m : length later.0 ≡ length (entries_of form e) + length others.0 = ap (λ (l : List (Entry C R)). length l) others.1 ∙ length-append (entries_of form e) others.0 in
        absurd (omega (arith, s.next, n, m, high)))
        (split (entries_of form e) s.behind later.0 at.0 c later.2))
        (split (flat form (take p h)) (entries_of form e ++ s.behind) (take q (flat form h)) at.0 c (sym s.calls ∙ at.1))

    -- a wait that a call at one of these places has ended was ended by its program
    by-programs : (h : List (Entry P A)) (places : List ℕ) (u : ℕ) → HasEndedAt ends (flat form h) (flat_map (within h) places) u → HasEndedAt (EndsWait form ends) h places u
    by-programs h places u k =
        let from = of-each (within h) places k.place k.among in
        let p = from.0 in
        let r = of-range (first h p) (first h (p + 1) - first h p) k.place from.2 in
        let few = r.1 in
        let is = r.2 in
        ⊎_elim
        (λ there. record {
          place = p;
          among = member-contains p places from.1;
          entry = there.0;
          stands = there.1;
          ended = among-calls h p k.place there.0 k.entry u there.1 (omega (arith, is)) (omega (arith, is, few)) k.stands k.ended;
        })
        (λ past. absurd (let none = ap (λ (l : List (Entry P A)). length (flat form l)) (take-none h p past) in omega (arith, none, few)))
        (elem-or h p)

    -- programs at places end the waits that their calls at theirs end
    pub ended-by-calls : (h : List (Entry P A)) (places : List ℕ) (u : ℕ) → HasEndedAt (EndsWait form ends) h places u ↔ HasEndedAt ends (flat form h) (flat_map (within h) places) u
    ended-by-calls h places u = (by-calls h places u, by-programs h places u)
