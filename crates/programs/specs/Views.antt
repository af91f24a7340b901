-- What contracts see of an object whose calls are programs.
use Rattle.std.specs.Prelude.{ℕ, List, length, take}
use Rattle.sequential.specs.declared.entry.Entry.{Entry}
use Rattle.programs.specs.Form.{Form}
use Rattle.programs.specs.Flat.{flat}

-- The object that serves the calls of the programs, and all programs with their answers, oldest first.
pub record ProgramsView (O P A : Type 0) : Type 0 where
  pub object : O
  pub history : List (Entry P A)

module _ {P A C R : Type 0} (form : Form P A C R) where
  -- The place of the first call of the programs from this place on.
  abbrev pub place_of : ℕ → List (Entry P A) → ℕ
  place_of from h = length (flat form (take from h))
