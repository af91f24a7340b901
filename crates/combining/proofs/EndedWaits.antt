-- Whose waits the calls of a session's passes have ended, by the places that it entered.
use Rattle.std.proofs.Common.{◌≡◌, ℕ, zero, suc, ◌+◌, ◌<◌, ◌≤◌, ◌↔◌, ◌⊎◌, inl, inr, ⊎_elim, List, [], ◌∷◌, ◌++◌, length, take, drop, Contains, refl, sym, ap, ◌∙◌, subst, arith, length-append}
use Rattle.std.proofs.Math.Seq.{take-append_seam}
use Rattle.std.proofs.lemmas.List.{length-drop}
use Rattle.std.proofs.lemmas.List.Elements.{Contains-append_left, Contains-append_right, Contains-append_cases}
use Rattle.std.proofs.lemmas.List.FromFn.{length-range_with_len, get_or-range_with_len}
use Rattle.std.specs.List.{range_with_len}
use mathlib.Core.Option as opt
use mathlib.Core.List.{IsPrefix}
use lib.ListN.{get_elem?}
use Rattle.sequential.specs.declared.entry.Entry.{Entry}
use Rattle.sequential.specs.EndedWaits.{HasEndedIn, HasEndedAt}
use Rattle.publication.specs.Views.{TicketView}
use Rattle.combining.specs.Woken.{IsEndedFrom, AreToldBy, IsOnce, entered_since}
use Rattle.combining.specs.Woken.{HasAddedTold}
use Rattle.combining.proofs.Places.{entered-none, entered-both}

-- What an empty list has once these were added.
pub into-empty : {P : ℕ → Type 0} (old new : List ℕ) → old ≡ [] → ((u : ℕ) → Contains new u ↔ (Contains old u ⊎ P u)) → (u : ℕ) → Contains new u ↔ P u
into-empty old new none same u = (
  λ h. ⊎_elim (λ o. absurd (nobody (subst (λ (l : List ℕ). Contains l u) none o))) (λ p. p) ((same u).0 h),
  λ p. (same u).1 (inr p),
)
  where
    nobody : Contains {X = ℕ} [] u → ⊥
    nobody h = let few = h.1 in omega (arith, few)

-- And it has none twice.
pub once-empty : (old : List ℕ) → old ≡ [] → IsOnce old
once-empty old none = subst (λ (l : List ℕ). IsOnce l) (sym none) (λ j k lt few. absurd (omega (arith, few)))

module _ {A : Type 0} where
  -- Where an element stands in a list, seen from a place on.

  pub elem-drop : (l : List A) (a i : ℕ) → get_elem? l (a + i) ≡ get_elem? (drop a l) i
  elem-drop l zero i = ap (get_elem? l) (omega arith)
  elem-drop [] (suc a) i = refl
  elem-drop (x ∷ l) (suc a) i = ap (get_elem? (x ∷ l)) (let e : suc a + i ≡ suc (a + i) = omega arith in e) ∙ elem-drop l a i

  pub take-add : (l : List A) (a i : ℕ) → take (a + i) l ≡ take a l ++ take i (drop a l)
  take-add l zero i = ap (λ (k : ℕ). take k l) (let e : 0 + i ≡ i = omega arith in e)
  take-add [] (suc a) i = nothing (suc a + i) ∙ sym (nothing i)
    where
      nothing : (k : ℕ) → take {A = A} k [] ≡ []
      nothing zero = refl
      nothing (suc k) = refl
  take-add (x ∷ l) (suc a) i = ap (λ (k : ℕ). take k (x ∷ l)) (let e : suc a + i ≡ suc (a + i) = omega arith in e) ∙ ap (λ (m : List A). x ∷ m) (take-add l a i)

  -- A list in front of the element at a place, the element, and what is behind it.
  pub split-at : (l : List A) (i : ℕ) (e : A) → get_elem? l i ≡ opt.some e → (later : List A) × (l ≡ take i l ++ e ∷ later)
  split-at [] i e is = absurd (opt.some-ne-none e (sym is))
  split-at (x ∷ l) zero e is = (l, ap (λ (y : A). y ∷ l) (opt.some-injective x e is))
  split-at (x ∷ l) (suc i) e is = let r = split-at l i e is in (r.0, ap (λ (m : List A). x ∷ m) r.1)

  pub elem-seam : (xs : List A) (e : A) (ys : List A) → get_elem? (xs ++ e ∷ ys) (length xs) ≡ opt.some e
  elem-seam [] e ys = refl
  elem-seam (x ∷ xs) e ys = elem-seam xs e ys

  -- What stands in a front stands there in the whole.

  front-elem : (f ys : List A) (p : ℕ) → p < length f → get_elem? (f ++ ys) p ≡ get_elem? f p
  front-elem [] ys p lt = absurd (omega (arith, lt))
  front-elem (x ∷ f) ys zero lt = refl
  front-elem (x ∷ f) ys (suc p) lt = front-elem f ys p (omega (arith, lt))

  front-take : (f ys : List A) (p : ℕ) → p < length f → take p (f ++ ys) ≡ take p f
  front-take [] ys p lt = absurd (omega (arith, lt))
  front-take (x ∷ f) ys zero lt = refl
  front-take (x ∷ f) ys (suc p) lt = ap (λ (l : List A). x ∷ l) (front-take f ys p (omega (arith, lt)))

-- Which places are in a row.

pub in-range : (a n i : ℕ) → i < n → Contains (range_with_len a n) (a + i)
in-range a n i lt = (i, omega (arith, lt, length-range_with_len a n), get_or-range_with_len a n i (a + i) lt)

pub of-range : (a n p : ℕ) → Contains (range_with_len a n) p → (i : ℕ) × (i < n) × (p ≡ a + i)
of-range a n p h = let few = h.1 in let lt : h.0 < n = omega (arith, few, length-range_with_len a n) in (h.0, lt, sym h.2 ∙ get_or-range_with_len a n h.0 p lt)

module _ {C R : Type 0} {ends : List (Entry C R) → Entry C R → ℕ → Type 0} where
  -- No entry has ended nobody's wait.
  none-ended : (front : List (Entry C R)) (u : ℕ) → HasEndedIn ends front [] u → ⊥
  none-ended front u h = empty_is h.earlier h.entry h.later h.entries_are
    where
      empty_is : (xs : List (Entry C R)) (e : Entry C R) (ys : List (Entry C R)) → [] ≡ xs ++ e ∷ ys → ⊥
      empty_is [] e ys is = absurd (cc is)
      empty_is (x ∷ xs) e ys is = absurd (cc is)

  -- Nor have the entries from the end of the history on.
  pub none-from : (n : ℕ) (history : List (Entry C R)) (from u : ℕ) → length history ≤ from → IsEndedFrom ends n history from u → ⊥
  none-from n history from u late h = none-ended (take from history) u (subst (λ (l : List (Entry C R)). HasEndedIn ends (take from history) l u) (nothing history from late) h.2)
    where
      nothing : (l : List (Entry C R)) (k : ℕ) → length l ≤ k → drop k l ≡ []
      nothing [] zero few = refl
      nothing [] (suc k) few = refl
      nothing (x ∷ xs) zero few = absurd (omega (arith, few))
      nothing (x ∷ xs) (suc k) few = nothing xs k (omega (arith, few))

  -- Whose wait was ended from a place on was ended at one of the places from there on.
  pub ended-at : (history : List (Entry C R)) (from count u : ℕ) → length history ≡ from + count
      → HasEndedIn ends (take from history) (drop from history) u ↔ HasEndedAt ends history (range_with_len from count) u
  ended-at history from count u long = (
    λ h. let n = length h.earlier in
        let whole = ap (λ (l : List (Entry C R)). length l) h.entries_are in
        let few : n < count = omega (arith, whole, length-drop from history, long, length-append h.earlier (h.entry ∷ h.later)) in
        let ahead : take n (drop from history) ≡ h.earlier = ap (λ (l : List (Entry C R)). take n l) h.entries_are ∙ take-append_seam h.earlier (h.entry ∷ h.later) in record {
          place = from + n;
          among = in-range from count n few;
          entry = h.entry;
          stands = elem-drop history from n ∙ (ap (λ (l : List (Entry C R)). get_elem? l n) h.entries_are ∙ elem-seam h.earlier h.entry h.later);
          ended = subst (λ (l : List (Entry C R)). ends l h.entry u) (sym (take-add history from n ∙ ap (λ (l : List (Entry C R)). take from history ++ l) ahead)) h.ended;
        },
    λ h. let r = of-range from count h.place h.among in
        let i = r.0 in
        let there = split-at (drop from history) i h.entry (sym (elem-drop history from i) ∙ (ap (get_elem? history) (sym r.2) ∙ h.stands)) in record {
          earlier = take i (drop from history);
          entry = h.entry;
          later = there.0;
          entries_are = there.1;
          ended = subst (λ (l : List (Entry C R)). ends l h.entry u) (ap (λ (k : ℕ). take k history) r.2 ∙ take-add history from i) h.ended;
        },
  )

  -- What an entry of a front has ended, it has ended in the whole.
  at-later : (f g : List (Entry C R)) (places : List ℕ) (u : ℕ) → IsPrefix f g → ((p : ℕ) → Contains places p → p < length f) → HasEndedAt ends f places u ↔ HasEndedAt ends g places u
  at-later f g places u longer within = (
    λ h. let lt = within h.place h.among in record {
      place = h.place;
      among = h.among;
      entry = h.entry;
      stands = ap (λ (l : List (Entry C R)). get_elem? l h.place) (sym longer.1) ∙ (front-elem f longer.0 h.place lt ∙ h.stands);
      ended = subst (λ (l : List (Entry C R)). ends l h.entry u) (sym (ap (λ (l : List (Entry C R)). take h.place l) (sym longer.1) ∙ front-take f longer.0 h.place lt)) h.ended;
    },
    λ h. let lt = within h.place h.among in record {
      place = h.place;
      among = h.among;
      entry = h.entry;
      stands = sym (ap (λ (l : List (Entry C R)). get_elem? l h.place) (sym longer.1) ∙ front-elem f longer.0 h.place lt) ∙ h.stands;
      ended = subst (λ (l : List (Entry C R)). ends l h.entry u) (ap (λ (l : List (Entry C R)). take h.place l) (sym longer.1) ∙ front-take f longer.0 h.place lt) h.ended;
    },
  )

  -- What was ended at some places was ended at the ones or the others.
  at-either : (history : List (Entry C R)) (some others : List ℕ) (u : ℕ) → HasEndedAt ends history (some ++ others) u ↔ (HasEndedAt ends history some u ⊎ HasEndedAt ends history others u)
  at-either history some others u = (
    λ h. ⊎_elim
        (λ a. inl (record { place = h.place; among = a; entry = h.entry; stands = h.stands; ended = h.ended }))
        (λ a. inr (record { place = h.place; among = a; entry = h.entry; stands = h.stands; ended = h.ended }))
        (Contains-append_cases some others h.place h.among),
    λ h. ⊎_elim
        (λ k. record { place = k.place; among = Contains-append_left some others k.place k.among; entry = k.entry; stands = k.stands; ended = k.ended })
        (λ k. record { place = k.place; among = Contains-append_right some others k.place k.among; entry = k.entry; stands = k.stands; ended = k.ended })
        h,
  )

  -- Nobody's was ended at no place.
  at-none : (history : List (Entry C R)) (u : ℕ) → HasEndedAt ends history [] u → ⊥
  at-none history u h = let few = h.among.1 in omega (arith, few)

  -- After calls were served, the object that served them told whose waits they have ended.
  pub told-step : (n m : ℕ) (history known : List (Entry C R)) (from count : ℕ) (places old new : List ℕ) → history ≡ known → m ≡ n → length known ≡ from + count → places ≡ range_with_len from count
      → ((u : ℕ) → Contains new u ↔ (Contains old u ⊎ IsEndedFrom ends m history from u)) → (IsOnce old → IsOnce new) → HasAddedTold ends n known places old new
  told-step n m history known from count places old new same many long are members once = record {
    members = λ u.
        let there : HasEndedIn ends (take from history) (drop from history) u ↔ HasEndedAt ends known places u
        = subst (λ (l : List ℕ). HasEndedIn ends (take from history) (drop from history) u ↔ HasEndedAt ends known l u) (sym are)
        (subst (λ (l : List (Entry C R)). HasEndedIn ends (take from l) (drop from l) u ↔ HasEndedAt ends known (range_with_len from count) u) (sym same) (ended-at known from count u long)) in (
          λ h. ⊎_elim (λ o. inl o) (λ e. inr (e.0, subst (λ (k : ℕ). u ≤ k) many e.1, there.0 e.2)) ((members u).0 h),
          λ h. (members u).1 (⊎_elim (λ o. inl o) (λ e. inr (e.0, subst (λ (k : ℕ). u ≤ k) (sym many) e.1, there.1 e.2)) h),
        );
    once = once;
    within = λ p among. let r = of-range from count p (subst (λ (l : List ℕ). Contains l p) are among) in let e = r.2 in let lt = r.1 in omega (arith, e, lt, long);
  }

  -- After no step, nobody more.
  pub told-none : (n : ℕ) (known : List (Entry C R)) (places old new : List ℕ) → places ≡ [] → new ≡ old → HasAddedTold ends n known places old new
  told-none n known places old new none same = record {
    members = λ u. (
      λ h. inl (subst (λ (l : List ℕ). Contains l u) same h),
      λ h. ⊎_elim (λ o. subst (λ (l : List ℕ). Contains l u) (sym same) o) (λ e. absurd (at-none known u (subst (λ (l : List ℕ). HasEndedAt ends known l u) none e.2))) h,
    );
    once = λ o. subst (λ (l : List ℕ). IsOnce l) (sym same) o;
    within = λ p among. absurd (nowhere p (subst (λ (l : List ℕ). Contains l p) none among));
  }
    where
      nowhere : (p : ℕ) → Contains {X = ℕ} [] p → ⊥
      nowhere p h = let few = h.1 in omega (arith, few)

  -- What was told is told of a longer history.
  pub told-later : (n : ℕ) (f g : List (Entry C R)) (places old new : List ℕ) → IsPrefix f g → HasAddedTold ends n f places old new → HasAddedTold ends n g places old new
  told-later n f g places old new longer t = record {
    members = λ u. let there = at-later f g places u longer t.within in (
      λ h. ⊎_elim (λ o. inl o) (λ e. inr (e.0, e.1, there.0 e.2)) ((t.members u).0 h),
      λ h. (t.members u).1 (⊎_elim (λ o. inl o) (λ e. inr (e.0, e.1, there.1 e.2)) h),
    );
    once = t.once;
    within = λ p among. let lt = t.within p among in omega (arith, lt, ap (λ (l : List (Entry C R)). length l) longer.1, length-append f longer.0);
  }

  -- After two steps, whose waits either has ended.
  pub told-both : (n : ℕ) (f g : List (Entry C R)) (some others places old mid new : List ℕ) → IsPrefix f g → places ≡ some ++ others → HasAddedTold ends n f some old mid → HasAddedTold ends n g others mid new
      → HasAddedTold ends n g places old new
  told-both n f g some others places old mid new longer are one two = subst (λ (l : List ℕ). HasAddedTold ends n g l old new) (sym are) (record {
    members = λ u. let either = at-either g some others u in (
      λ h. ⊎_elim
          (λ m. ⊎_elim (λ o. inl o) (λ e. inr (e.0, e.1, either.1 (inl e.2))) ((first.members u).0 m))
          (λ e. inr (e.0, e.1, either.1 (inr e.2)))
          ((two.members u).0 h),
      λ h. (two.members u).1 (⊎_elim
          (λ o. inl ((first.members u).1 (inl o)))
          (λ e. ⊎_elim (λ k. inl ((first.members u).1 (inr (e.0, e.1, k)))) (λ k. inr (e.0, e.1, k)) (either.0 e.2))
          h),
    );
    once = λ o. two.once (one.once o);
    within = λ p among. ⊎_elim (λ a. first.within p a) (λ b. two.within p b) (Contains-append_cases some others p among);
  })
    where
      first : HasAddedTold ends n g some old mid
      first = told-later n f g some old mid longer one

  -- A list that was empty has exactly these sessions.
  pub told-all : (n : ℕ) (known : List (Entry C R)) (places old new : List ℕ) → old ≡ [] → HasAddedTold ends n known places old new → AreToldBy ends n known places new
  told-all n known places old new none t = record { members = into-empty old new none t.members; once = t.once (once-empty old none) }

module _ {C R : Type 0} {ends : List (Entry C R) → Entry C R → ℕ → Type 0} where
  -- A session that knows as much and has entered no more.
  pub told-same : (n : ℕ) (t u v : TicketView C R) (old new : List ℕ) → v.front ≡ u.front → v.entered ≡ u.entered → HasAddedTold ends n u.front (entered_since t u) old new → HasAddedTold ends n v.front (entered_since t v) old new
  told-same n t u v old new front entered told =
      subst (λ (l : List ℕ). HasAddedTold ends n v.front (drop (length t.entered) l) old new) (sym entered)
      (subst (λ (f : List (Entry C R)). HasAddedTold ends n f (entered_since t u) old new) (sym front) told)

  -- One that knows more.
  pub told-knowing : (n : ℕ) (t u v : TicketView C R) (old new : List ℕ) → IsPrefix u.front v.front → v.entered ≡ u.entered → HasAddedTold ends n u.front (entered_since t u) old new → HasAddedTold ends n v.front (entered_since t v) old new
  told-knowing n t u v old new longer entered told =
      subst (λ (l : List ℕ). HasAddedTold ends n v.front (drop (length t.entered) l) old new) (sym entered) (told-later n u.front v.front (entered_since t u) old new longer told)

  -- One that entered more.
  pub told-on : (n : ℕ) (t u v : TicketView C R) (old mid new : List ℕ) → IsPrefix t.entered u.entered → IsPrefix u.front v.front → IsPrefix u.entered v.entered
      → HasAddedTold ends n u.front (entered_since t u) old mid → HasAddedTold ends n v.front (entered_since u v) mid new → HasAddedTold ends n v.front (entered_since t v) old new
  told-on n t u v old mid new first longer later one two =
      told-both n u.front v.front (entered_since t u) (entered_since u v) (entered_since t v) old mid new longer (entered-both t u v first later) one two

  -- One that hasn't entered anything.
  pub told-self : (n : ℕ) (t u : TicketView C R) (list : List ℕ) → u.entered ≡ t.entered → HasAddedTold ends n u.front (entered_since t u) list list
  told-self n t u list same = told-none n u.front (entered_since t u) list list (entered-none t u same) refl
