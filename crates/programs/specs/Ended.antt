-- Whose waits programs have ended.
use Rattle.std.specs.Prelude.{ℕ, List}
use Rattle.sequential.specs.declared.entry.Entry.{Entry}
use Rattle.sequential.specs.EndedWaits.{HasEndedIn}
use Rattle.programs.specs.Form.{Form}
use Rattle.programs.specs.Flat.{entries_of, flat}

module _ {P A C R : Type 0} (form : Form P A C R) (ends : List (Entry C R) → Entry C R → ℕ → Type 0) where
  -- The program, which follows this front of the history, has ended the wait of session u: one of its calls has.
  abbrev pub EndsWait : List (Entry P A) → Entry P A → ℕ → Type 0
  EndsWait front e u = HasEndedIn ends (flat form front) (entries_of form e) u
