-- One more program.
use Rattle.std.proofs.Common.{◌≡◌, ℕ, ◌≤◌, List, [], ◌∷◌, ◌++◌, length, length-append, take, drop, sym, ap, subst, ◌∙◌, arith}
use Rattle.std.specs.Prelude.{All}
use Rattle.std.proofs.lemmas.List.Elements.{All-push}
use Rattle.std.proofs.lemmas.List.{take-append-le, take-append-drop}
use Rattle.sequential.specs.declared.entry.Entry.{Entry}
use Rattle.sequential.specs.Histories.{IsEntryWithin}
use Rattle.programs.specs.Form.{Form}
use Rattle.programs.specs.Flat.{entry, entries_of, flat, IsLegal}
use Rattle.programs.specs.Fronts.{flat-append}
use Rattle.programs.specs.Determined.{flat-push}
use Rattle.programs.specs.Total.{legal-push}
use Rattle.programs.specs.Views.{ProgramsView, place_of}
use Rattle.programs.specs.Runs.{HasRun}

-- no fewer items
pub longer-push : {T : Type 0} (n : ℕ) (xs ys : List T) (x : T) → ys ≡ xs ++ x ∷ [] → n ≤ length xs → n ≤ length ys
longer-push {T} n xs ys x e h = omega (arith, h, ap (λ (l : List T). length l) e, length-append xs (x ∷ []))

-- one more entry of one of the sessions
pub within-push : {C R : Type 0} (n m s : ℕ) (c : C) (r : R) (h longer : List (Entry C R)) → m ≡ n → longer ≡ h ++ entry s c r ∷ [] → 1 ≤ s → s ≤ n
    → All (IsEntryWithin n) h → All (IsEntryWithin m) longer
within-push {C} {R} n m s c r h longer same f some few all =
    subst (λ (k : ℕ). All (IsEntryWithin k) longer) (sym same)
    (subst (λ (l : List (Entry C R)). All (IsEntryWithin n) l) (sym f) (All-push (IsEntryWithin n) h (entry s c r) all (record { some = some; within = few })))

module _ {P A C R : Type 0} (form : Form P A C R) where
  -- the history with one more program that was run
  pub flat-run : (s : ℕ) (p : P) (a : A) (old new : List (Entry C R)) (h longer : List (Entry P A)) → HasRun form s p old new a → old ≡ flat form h
      → longer ≡ h ++ entry s p a ∷ [] → new ≡ flat form longer
  flat-run s p a old new h longer r e f =
      r.history ∙ ap (λ (l : List (Entry C R)). l ++ entries_of form (entry s p a)) e ∙ sym (ap (flat form) f ∙ flat-push form h (entry s p a))

  -- it is legal
  pub legal-run : (is_legal : List (Entry C R) → Type 0) (s : ℕ) (p : P) (a : A) (old new : List (Entry C R)) (h longer : List (Entry P A)) → HasRun form s p old new a → old ≡ flat form h
      → longer ≡ h ++ entry s p a ∷ [] → IsLegal form is_legal h → is_legal new → IsLegal form is_legal longer
  legal-run is_legal s p a old new h longer r e f l n =
      let here : new ≡ flat form h ++ entries_of form (entry s p a) = r.history ∙ ap (λ (x : List (Entry C R)). x ++ entries_of form (entry s p a)) e in
      subst (IsLegal form is_legal) (sym f)
      (legal-push form is_legal s p a h l (subst is_legal here n) (r.first ∙ ap (λ (x : List (Entry C R)). length x) e) r.run)

  -- an earlier place stays where it is
  pub place-front : (from : ℕ) (h longer : List (Entry P A)) (e : Entry P A) → from ≤ length h → longer ≡ h ++ e ∷ [] → place_of form from h ≡ place_of form from longer
  place-front from h longer e few f =
      ap (λ (l : List (Entry P A)). length (flat form l)) (sym (ap (take from) f ∙ take-append-le from h (e ∷ []) few))

  -- the calls before and behind a place
  pub flat-split : (from : ℕ) (h : List (Entry P A)) → flat form h ≡ flat form (take from h) ++ flat form (drop from h)
  flat-split from h = ap (flat form) (sym (take-append-drop from h)) ∙ flat-append form (take from h) (drop from h)

  -- a place is within the history of calls
  pub place-within : (from : ℕ) (H : List (Entry C R)) (h : List (Entry P A)) → H ≡ flat form h → place_of form from h ≤ length H
  place-within from H h is =
      let n : length H ≡ length (flat form (take from h) ++ flat form (drop from h)) = ap (λ (l : List (Entry C R)). length l) (is ∙ flat-split from h) in
      omega (arith, n, length-append (flat form (take from h)) (flat form (drop from h)))

module _ {O P A C R : Type 0} (form : Form P A C R) (tells_from : O → ℕ → Type 0) where
  -- an object that goes on telling of calls goes on telling of programs
  pub tells-on : (H : List (Entry C R)) (o new : O) (view : ProgramsView O P A) (h longer : List (Entry P A)) (e : Entry P A) → record { object = o; history = h } ≡ view → H ≡ flat form h → longer ≡ h ++ e ∷ []
      → ((from : ℕ) → from ≤ length H → tells_from o from → tells_from new from)
      → (from : ℕ) → from ≤ length view.history → tells_from view.object (place_of form from view.history) → tells_from new (place_of form from longer)
  tells-on H o new view h longer e seen is f on from =
      subst (λ (v : ProgramsView O P A). from ≤ length v.history → tells_from v.object (place_of form from v.history) → tells_from new (place_of form from longer)) seen
      (λ few told. subst (tells_from new) (place-front form from h longer e few f) (on (place_of form from h) (place-within form from H h is) told))
