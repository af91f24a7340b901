-- Which answers to one program count as the same, and which there have to be.
use Rattle.std.specs.Prelude.{◌≡◌, ℕ, Bool, true, false, List, [], ◌∷◌, Some, slice_get}
use Rattle.programs.specs.Form.{Form}
use Rattle.programs.specs.Flat.{IsRun}

module _ {C R : Type 0} (agree : C → R → R → Type 0) where
  -- Replies to these calls agree pair by pair: up to the first pair that differs, since what follows it stands behind other
  -- calls, and up to where memory was refused to one of the two.
  abbrev pub RepliesAgree : List C → List R → List R → Bool → Bool → Type 0
  RepliesAgree cs [] [] x y = Unit {0}
  RepliesAgree cs [] (q ∷ qs) x y = x ≡ true
  RepliesAgree cs (r ∷ rs) [] x y = y ≡ true
  RepliesAgree [] (r ∷ rs) (q ∷ qs) x y = ⊥
  RepliesAgree (c ∷ cs) (r ∷ rs) (q ∷ qs) x y = agree c r q × (r ≡ q → RepliesAgree cs rs qs x y)

module _ {P A C R : Type 0} (form : Form P A C R) (agree : C → R → R → Type 0) where
  -- Two answers to one program at one place count as the same: the places of their first calls are equal, and their replies agree.
  abbrev pub AnswersAgree : P → A → A → Type 0
  AnswersAgree p a b =
      (form.first a ≡ form.first b)
      × RepliesAgree agree (form.calls p) (form.replies p a) (form.replies p b) (form.refused a) (form.refused b)

-- Replies to one program are equal, but for those behind where memory was refused to one of the two.
abbrev pub AreSame : {R : Type 0} → List R → List R → Bool → Bool → Type 0
AreSame [] [] x y = Unit {0}
AreSame [] (q ∷ qs) x y = x ≡ true
AreSame (r ∷ rs) [] x y = y ≡ true
AreSame (r ∷ rs) (q ∷ qs) x y = (r ≡ q) × AreSame rs qs x y

module _ {P A C R : Type 0} (form : Form P A C R) (fits : C → R → Type 0) where
  -- Each reply fits its call.
  abbrev pub RepliesFit : List C → List R → Type 0
  RepliesFit cs rs = (k : ℕ) (c : C) (r : R) → slice_get cs k ≡ Some c → slice_get rs k ≡ Some r → fits c r

  -- Each run of a program to its end or to a stop, with replies that fit, is told by some answer.
  abbrev pub AreTold : Type 0
  AreTold =
      (p : P) (first : ℕ) (rs : List R) → IsRun form (form.calls p) rs false → RepliesFit (form.calls p) rs
      → (a : A) × (form.replies p a ≡ rs) × (form.first a ≡ first) × (form.refused a ≡ false)
