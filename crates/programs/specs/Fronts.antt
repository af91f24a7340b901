-- Fronts of legal histories of programs.
use Rattle.std.specs.Prelude.{◌≡◌, ℕ, ◌+◌, List, [], ◌∷◌, ◌++◌, length, refl}
use Rattle.std.proofs.Common.{sym, ap, subst, ◌∙◌, append_assoc}
use Rattle.sequential.specs.declared.entry.Entry.{Entry}
use Rattle.programs.specs.Form.{Form}
use Rattle.programs.specs.Flat.{entries_of, flat, AreRun, IsLegal}

module _ {P A C R : Type 0} (form : Form P A C R) where
  -- The calls of two histories, one behind the other.
  pub flat-append : (xs ys : List (Entry P A)) → flat form (xs ++ ys) ≡ flat form xs ++ flat form ys
  flat-append [] ys = refl
  flat-append (x ∷ xs) ys = ap (λ (l : List (Entry C R)). entries_of form x ++ l) (flat-append xs ys) ∙ sym (append_assoc (entries_of form x) (flat form xs) (flat form ys))

  run-front : (place : ℕ) (front rest : List (Entry P A)) → AreRun form place (front ++ rest) → AreRun form place front
  run-front place [] rest h = tt
  run-front place (x ∷ xs) rest h = (h.0, h.1, run-front (place + length (entries_of form x)) xs rest h.2)

  -- A front of a legal history of programs is legal.
  pub fronts_are_legal : (is_legal : List (Entry C R) → Type 0) → ((front rest : List (Entry C R)) → is_legal (front ++ rest) → is_legal front)
      → (front rest : List (Entry P A)) → IsLegal form is_legal (front ++ rest) → IsLegal form is_legal front
  fronts_are_legal is_legal fronts front rest h =
      (fronts (flat form front) (flat form rest) (subst is_legal (flat-append front rest) h.0), run-front 0 front rest h.1)

  -- As a history of programs grows, what is written down of its calls grows at its end.
  pub lines_grow : {L : Type 0} (lines : List (Entry C R) → List L) → ((front rest : List (Entry C R)) → (more : List L) × (lines (front ++ rest) ≡ lines front ++ more))
      → (front rest : List (Entry P A)) → (more : List L) × (lines (flat form (front ++ rest)) ≡ lines (flat form front) ++ more)
  lines_grow lines grow front rest =
      let g = grow (flat form front) (flat form rest) in (g.0, ap lines (flat-append front rest) ∙ g.1)
