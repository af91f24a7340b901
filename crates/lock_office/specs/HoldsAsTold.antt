-- What a session was told that it holds, by the answers to its programs that it collected and its pending program alone.
use Rattle.std.specs.Prelude.{◌≡◌, ℕ, Option, Some, None, List, [], ◌∷◌, All}
use Rattle.lock_modes.specs.declared.Mode.{Mode}
use Rattle.lock_programs.specs.declared.program.Program.{Program}
use Rattle.lock_programs.specs.Calls.{calls_of}
use Rattle.lock_office.specs.by_calls.HoldsAsTold.{KeepsLock as KeepsLockByCall, KeptLock as KeptLockByCall, HoldsAsTold as HoldsAsToldByCalls, MayReadAsTold, MayWriteAsTold}
use Rattle.lock_office.specs.Exclusion.{DoToldModesGoTogether, IsExclusiveAsTold, IsAccessApartAsTold}
use Rattle.lock_office.specs.ProgramBoards.{AnsweredProgram, Pending, BoardState, calls_answered}

-- No call of the program gives the resource back.
abbrev pub KeepsLock : List ℕ → Program → Type 0
KeepsLock r program = All (KeepsLockByCall r) (calls_of program)

-- None of the calls that the answered program made gave the resource back.
abbrev pub KeptLock : List ℕ → AnsweredProgram → Type 0
KeptLock r a = All (KeptLockByCall r) (calls_answered (a ∷ []))

-- A session with these answers and this pending program was told that it holds the resource in this mode, by the replies to the
-- calls that its programs made, and has published no program since that may give it back.
pub record HoldsAsTold (answers : List AnsweredProgram) (pending : Option Pending) (r : List ℕ) (m : Mode) : Type 0 where
  pub told : HoldsAsToldByCalls (calls_answered answers) None r m
  pub kept : (p : Pending) → pending ≡ Some p → KeepsLock r p.call

-- The session was told that it holds the resource, or an ancestor of it, in a mode in which it may read or write the resource.

abbrev pub ReadsAsTold : List AnsweredProgram → Option Pending → List ℕ → Type 0
ReadsAsTold answers pending = MayReadAsTold (HoldsAsTold answers pending)

abbrev pub WritesAsTold : List AnsweredProgram → Option Pending → List ℕ → Type 0
WritesAsTold answers pending = MayWriteAsTold (HoldsAsTold answers pending)

-- What goes together of what the sessions of a board were told.

abbrev pub ToldModesGoTogether : BoardState → Type 0
ToldModesGoTogether = DoToldModesGoTogether HoldsAsTold

abbrev pub IsToldExclusive : BoardState → Type 0
IsToldExclusive = IsExclusiveAsTold HoldsAsTold

abbrev pub IsToldAccessCompatible : BoardState → Type 0
IsToldAccessCompatible = IsAccessApartAsTold HoldsAsTold
