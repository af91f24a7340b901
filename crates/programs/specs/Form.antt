-- How programs of calls and their answers are read.
use Rattle.std.specs.Prelude.{◌≡◌, ℕ, Bool, true, false, List, [], ◌∷◌}

-- How programs (P) of calls (C) and the answers (A) to them, of replies (R), are read.
pub record Form (P A C R : Type 0) : Type 0 where
  -- the calls of a program, in order
  pub calls : P → List C
  -- the replies to the calls that were served, in order
  pub replies : P → A → List R
  -- the place of the first call in the history of calls
  pub first : A → ℕ
  -- memory was refused to the call behind those that were served
  pub refused : A → Bool
  -- a program goes on behind this reply
  pub goes_on : R → Bool

module _ {P A C R : Type 0} (form : Form P A C R) where
  -- A program goes on behind each of these replies.
  abbrev pub AllGoOn : List R → Type 0
  AllGoOn [] = Unit {0}
  AllGoOn (r ∷ rs) = (form.goes_on r ≡ true) × AllGoOn rs

-- Whether a combiner serves a program of these calls ahead of the others of its pass, if it does so with these calls.
abbrev pub first_goes_first : {C : Type 0} → (C → Bool) → List C → Bool
first_goes_first goes_first [] = false
first_goes_first goes_first (c ∷ cs) = goes_first c
