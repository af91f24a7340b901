-- A session that makes single calls and programs, as it is kept.
use Rattle.std.specs.Prelude.{◌≡◌, ℕ, Some, List, ◌∷◌}
use Rattle.lock_rules.specs.declared.calls.Call.{Call}
use Rattle.lock_programs.specs.declared.program.Program.{Program}
use Rattle.lock_programs.specs.Calls.{calls_of}
use Rattle.publication.specs.Views.{asks}
use Rattle.lock_office.specs.ProgramBoards.{TicketView}
use Rattle.lock_office.specs.Seen.{number_of_calls}
use Rattle.lock_office.specs.declared.session.Session.TheInside.{Inside}

-- what contracts see of the session
abbrev pub session_of : Inside → TicketView
session_of s = s.session

-- the program makes a call
abbrev pub MakesACall : Program → Type 0
MakesACall program = (first : Call) × (rest : List Call) × (calls_of program ≡ first ∷ rest)

-- the pending program is the one that is kept, so that its answer can be read, and makes a call, so that there is a last reply
abbrev pub IsReadable : Inside → Type 0
IsReadable s = (program : Program) (floor : ℕ) → s.session.pending ≡ Some (asks program floor)
    → (program ≡ s.asked) × MakesACall program

-- How a session is kept: it can read its pending program's answer, and counts the calls that it knows.
pub record IsKept (s : Inside) : Type 0 where
  pub readable : IsReadable s
  pub counted : s.seen ≡ number_of_calls s.session.front
