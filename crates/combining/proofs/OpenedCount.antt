-- At most as many records are opened as there are sessions, so the row has room for one more call.
use Rattle.std.proofs.Common.{◌≡◌, ℕ, zero, suc, ◌+◌, ◌<◌, ◌≤◌, Option, Some, None, List, [], ◌∷◌, length, get_or, set, refl, sym, ap, ◌∙◌, arith, get_or-set_other, get_or-set_same}
use Rattle.std.proofs.Math.Arith.{le_of_le-suc-ne}
use mathlib.Core.Logic.{dite}
use native.Mathlib.Decide.{ℕ_discrete}
use Rattle.sequential.specs.declared.entry.Item.{Item}
use Rattle.combining.specs.inner.Passes.{AreOpened}
use Rattle.combining.proofs.OpenedRow.{Calls}

module _ {C : Type 0} where
  -- 1 if a call is opened, else 0.
  abbrev one_if : Option C → ℕ
  one_if None = 0
  one_if (Some c) = 1

  few_if : (x : Option C) → one_if x ≤ 1
  few_if None = omega arith
  few_if (Some c) = omega arith

  -- How many of the records 1 to n are opened.
  abbrev count : Calls C → ℕ → ℕ
  count l zero = 0
  count l (suc n) = count l n + one_if (get_or l (suc n) None)

  count-most : (l : Calls C) (n : ℕ) → count l n ≤ n
  count-most l zero = omega arith
  count-most l (suc n) = omega (arith, count-most l n, few_if (get_or l (suc n) None))

  count-none : (l : Calls C) (n j : ℕ) → get_or l j None ≡ None → 0 < j → j ≤ n → count l n < n
  count-none l zero j none some few = absurd (omega arith)
  count-none l (suc n) j none some few = dite (ℕ_discrete j (suc n))
      (λ e. let z : one_if (get_or l (suc n) None) ≡ 0 = ap one_if (sym (ap (λ (k : ℕ). get_or l k None) e) ∙ none) in omega (arith, z, count-most l n))
      (λ ne. omega (arith, count-none l n j none some (le_of_le-suc-ne few ne), few_if (get_or l (suc n) None)))

  count-past : (l : Calls C) (n j : ℕ) (x : Option C) → n < j → count (set l j x) n ≡ count l n
  count-past l zero j x past = refl
  count-past l (suc n) j x past =
      let same : one_if (get_or (set l j x) (suc n) None) ≡ one_if (get_or l (suc n) None) = ap one_if (get_or-set_other l j (suc n) x None (λ e. omega arith)) in
      omega (arith, same, count-past l n j x (omega arith))

  count-set : (l : Calls C) (n j : ℕ) (c : C) → get_or l j None ≡ Some c → j < length l → 0 < j → j ≤ n → count (set l j None) n + 1 ≡ count l n
  count-set l zero j c shown there some few = absurd (omega arith)
  count-set l (suc n) j c shown there some few = dite (ℕ_discrete j (suc n))
      (λ e. let here : one_if (get_or l (suc n) None) ≡ 1 = ap one_if (sym (ap (λ (k : ℕ). get_or l k None) e) ∙ shown) in
      let gone : one_if (get_or (set l j None) (suc n) None) ≡ 0 = ap one_if (sym (ap (λ (k : ℕ). get_or (set l j None) k None) e) ∙ get_or-set_same l j None None there) in
      omega (arith, here, gone, count-past l n j None (omega arith)))
      (λ ne. let same : one_if (get_or (set l j None) (suc n) None) ≡ one_if (get_or l (suc n) None) = ap one_if (get_or-set_other l j (suc n) None None (λ e. ne (sym e))) in
      omega (arith, same, count-set l n j c shown there some (le_of_le-suc-ne few ne)))

  there : (l : Calls C) (j : ℕ) (c : C) → get_or l j None ≡ Some c → j < length l
  there [] j c e = absurd (cc e)
  there (x ∷ xs) zero c e = omega arith
  there (x ∷ xs) (suc j) c e = omega (arith, there xs j c e)

module _ {C R : Type 0} where
  row-count : (n : ℕ) (l : Calls C) (row : List (Item C R)) → AreOpened n l row → length row ≤ count l n
  row-count n l [] all = omega arith
  row-count n l (i ∷ is) all =
      let t = row-count n (set l i.session None) is all.2 in
      let s = count-set l n i.session i.call all.1 (there l i.session i.call all.1) all.0.some all.0.within in omega (arith, t, s)

  -- The row has at most as many items as there are sessions.
  pub row-few : (n : ℕ) (l : Calls C) (row : List (Item C R)) → AreOpened n l row → length row ≤ n
  row-few n l row all = omega (arith, row-count n l row all, count-most l n)

  -- The row has fewer items than there are sessions if a session's record isn't opened.
  pub row-room : (n : ℕ) (l : Calls C) (row : List (Item C R)) (w : ℕ) → AreOpened n l row → get_or l w None ≡ None → 0 < w → w ≤ n → length row < n
  row-room n l row w all none some few = omega (arith, row-count n l row all, count-none l n w none some few)
