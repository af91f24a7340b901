-- Internal to this crate, cited by no public contract: what the fields of an object whose calls are programs say.
use Rattle.std.specs.Prelude.{◌≡◌, ℕ, List, All}
use Rattle.sequential.specs.declared.entry.Entry.{Entry}
use Rattle.sequential.specs.Histories.{IsEntryWithin}
use Rattle.programs.specs.Form.{Form}
use Rattle.programs.specs.Views.{ProgramsView}
use Rattle.programs.specs.Flat.{flat, IsLegal}
use Rattle.programs.specs.declared.programs.Programs.TheInside.{Inside}

module _ {O P A C R : Type 0} where
  -- What contracts see.
  abbrev pub programs_view_of : Inside O P A C R → ProgramsView O P A
  programs_view_of p = record { object = p.object; history = p.history }

  -- The history of the object is that of the programs, laid end to end.
  pub record IsWhole (sessions : O → ℕ) (history : O → List (Entry C R)) (is_legal : List (Entry C R) → Type 0) (form : Form P A C R) (p : Inside O P A C R) : Type 0 where
    pub flat : history p.object ≡ flat form p.history
    pub legal : IsLegal form is_legal p.history
    pub within : All (IsEntryWithin (sessions p.object)) p.history
