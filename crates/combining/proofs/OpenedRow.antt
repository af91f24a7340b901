-- The row of opened calls, with one call more or one fewer.
use Rattle.std.proofs.Common.{◌≡◌, ◌≢◌, ℕ, zero, suc, ◌<◌, Option, Some, None, List, [], ◌∷◌, ◌++◌, length, get_or, set, take, drop, sym, ap, ◌∙◌, subst, arith, get_or-set_other, get_or-set_same}
use Rattle.std.proofs.lemmas.List.{length-set, set-set, set-get_or, set_comm, ext_get_or}
use Rattle.sequential.specs.declared.entry.Item.{Item}
use Rattle.sequential.specs.Batches.{IsItemWithin}
use Rattle.combining.specs.inner.Passes.{AreOpened}

-- At each record's number, its call if it is opened.
abbrev pub Calls : Type 0 → Type 0
Calls C = List (Option C)

module _ {C : Type 0} where
  -- Opening and closing a record changes nothing.
  set-undone : (l : Calls C) (w : ℕ) (x : Option C) → get_or l w None ≡ None → set (set l w x) w None ≡ l
  set-undone l w x none = set-set l w x None ∙ (ap (λ (y : Option C). set l w y) (sym none) ∙ set-get_or l w None)

module _ {C R : Type 0} where
  -- The item of a newly opened record is inserted at the front of the row.
  opened-first : (n : ℕ) (l : Calls C) (row : List (Item C R)) (i : Item C R) → IsItemWithin n i → get_or l i.session None ≡ None → i.session < length l
      → AreOpened n l row → AreOpened n (set l i.session (Some i.call)) (i ∷ row)
  opened-first n l row i within none few all = (
    within,
    get_or-set_same l i.session (Some i.call) None few,
    subst (λ (m : Calls C). AreOpened n m row) (sym (set-undone l i.session (Some i.call) none)) all,
  )

  -- The item of a newly opened record is inserted at any index of the row.
  pub opened-insert : (n : ℕ) (l : Calls C) (row : List (Item C R)) (k : ℕ) (i : Item C R) → IsItemWithin n i → get_or l i.session None ≡ None → i.session < length l
      → AreOpened n l row → AreOpened n (set l i.session (Some i.call)) (take k row ++ i ∷ drop k row)
  opened-insert n l [] zero i within none few all = opened-first n l [] i within none few all
  opened-insert n l [] (suc k) i within none few all = opened-first n l [] i within none few all
  opened-insert n l (x ∷ xs) zero i within none few all = opened-first n l (x ∷ xs) i within none few all
  opened-insert n l (x ∷ xs) (suc k) i within none few all =
      let apart : x.session ≢ i.session = λ e. let p : Some x.call ≡ None = sym all.1 ∙ (ap (λ (w : ℕ). get_or l w None) e ∙ none) in absurd (cc p) in
      let back : i.session ≢ x.session = λ e. apart (sym e) in
      let here : get_or (set l x.session None) i.session None ≡ None = get_or-set_other l x.session i.session None None back ∙ none in
      let few' : i.session < length (set l x.session None) = let e = length-set l x.session None in omega (arith, e) in (
        all.0,
        get_or-set_other l i.session x.session (Some i.call) None apart ∙ all.1,
        subst (λ (m : Calls C). AreOpened n m (take k xs ++ i ∷ drop k xs)) (sym (set_comm l i.session x.session (Some i.call) None back))
            (opened-insert n (set l x.session None) xs k i within here few' all.2),
      )

module _ {C : Type 0} where
  -- A number at which a written call is found is in range.
  pub opened-in_range : (l : Calls C) (w : ℕ) (c : C) → get_or (set l w (Some c)) w None ≡ Some c → w < length l
  opened-in_range [] w c e = absurd (cc e)
  opened-in_range (x ∷ xs) zero c e = omega arith
  opened-in_range (x ∷ xs) (suc w) c e = omega (arith, opened-in_range xs w c e)

  -- Two lists of equal length, both with nothing opened, are equal.
  pub none-opened : (l m : Calls C) → length l ≡ length m → ((j : ℕ) → get_or l j None ≡ None) → ((j : ℕ) → get_or m j None ≡ None) → l ≡ m
  none-opened l m same none none' = ext_get_or None l m same (λ j h. none j ∙ sym (none' j))
