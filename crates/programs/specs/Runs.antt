-- What a session does that runs a program.
use Rattle.std.specs.Prelude.{◌≡◌, ℕ, List, ◌++◌, length}
use Rattle.sequential.specs.declared.entry.Entry.{Entry}
use Rattle.programs.specs.Form.{Form}
use Rattle.programs.specs.Flat.{entries, IsAnswer}

module _ {P A C R : Type 0} (form : Form P A C R) where
  -- Session s ran the program, with this answer: its calls that were served follow the history of calls that was there before, from
  -- the place that the answer tells.
  pub record HasRun (s : ℕ) (p : P) (old new : List (Entry C R)) (a : A) : Type 0 where
    pub first : form.first a ≡ length old
    pub history : new ≡ old ++ entries s (form.calls p) (form.replies p a)
    pub run : IsAnswer form p a
