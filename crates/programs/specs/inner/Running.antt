-- Internal to this crate, cited by no public contract: a program while it runs.
use Rattle.std.specs.Prelude.{◌≡◌, ℕ, false, List, [], ◌∷◌, ◌++◌, length, Some, slice_get}
use Rattle.sequential.specs.declared.entry.Entry.{Entry}
use Rattle.programs.specs.Form.{Form, AllGoOn}
use Rattle.programs.specs.Flat.{entry, entries}

module _ {P A C R : Type 0} (form : Form P A C R) where
  -- The first call of the program was served with this reply, which the answer doesn't have yet.
  pub record HasBegun (s : ℕ) (p : P) (old new : List (Entry C R)) (a : A) (reply : R) : Type 0 where
    pub call : C
    pub is_first : slice_get (form.calls p) 0 ≡ Some call
    pub history : new ≡ old ++ entry s call reply ∷ []
    pub first : form.first a ≡ length old
    pub none : form.replies p a ≡ []
    pub refused : form.refused a ≡ false

  -- The calls of the program before the `at`-th were served, and it goes on.
  pub record IsRunning (s : ℕ) (p : P) (old new : List (Entry C R)) (a : A) (at : ℕ) : Type 0 where
    pub first : form.first a ≡ length old
    pub history : new ≡ old ++ entries s (form.calls p) (form.replies p a)
    pub count : length (form.replies p a) ≡ at
    pub going : AllGoOn form (form.replies p a)
    pub refused : form.refused a ≡ false
