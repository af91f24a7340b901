-- Programs of calls and their answers as the numbers of C's structs, and the outcome of a program on a book.
use Rattle.std.specs.Prelude.{◌≡◌, ◌≢◌, ℕ, ◌+◌, ◌-◌, ◌<◌, ◌≤◌, ◌⊎◌, if◌then◌else◌, List, [], ◌∷◌, ◌++◌, length, replicate}
use Rattle.lock_modes.specs.declared.Mode.{Mode}
use Rattle.lock_modes.specs.Codes.{code_of}
use Rattle.lock_rules.specs.declared.calls.Call.{Call}
use Rattle.lock_rules.specs.declared.calls.Call.TheVariants as call
use Rattle.lock_rules.specs.declared.calls.Reply.{Reply}
use Rattle.lock_rules.specs.declared.kinds.Op.{Op}
use Rattle.lock_rules.specs.declared.kinds.Op.TheVariants as op
use Rattle.lock_rules.specs.Kinds.{ops_with_resource, ops_with_mode, kind_of_reply, number_of_kind}
use Rattle.lock_rules.specs.Legal.{IsLegal}
use Rattle.programs.specs.Flat.{entries, IsAnswer}
use Rattle.lock_programs.specs.declared.program.TheConstants.{CALLS}
use Rattle.lock_programs.specs.declared.program.Start.{Start}
use Rattle.lock_programs.specs.declared.program.Start.TheVariants.{Nothing, Begins, Commits, Aborts, CommitsAndBegins, AbortsAndBegins, Restarts}
use Rattle.lock_programs.specs.declared.program.Last.{Last}
use Rattle.lock_programs.specs.declared.program.Last.TheVariants.{Locks, Converts, Tries, Releases}
use Rattle.lock_programs.specs.declared.program.Program.{Program}
use Rattle.lock_programs.specs.declared.answer.ProgramAnswer.{ProgramAnswer}
use Rattle.lock_programs.specs.Starts.{start_calls, path_calls}
use Rattle.lock_programs.specs.Calls.{calls_of}
use Rattle.lock_programs.specs.Fits.{goes_on_behind}
use Rattle.lock_programs.specs.Answers.{replies_of, program_form}
use Rattle.lock_desk.specs.BookView.{BookView}
use Rattle.lock_desk.specs.Batches.{TellsFrom}
use Rattle.library_books.specs.declared.program_numbers.ProgramNumbers.{ProgramNumbers}
use Rattle.library_books.specs.declared.program_numbers.ProgramAnswerNumbers.{ProgramAnswerNumbers}
use Rattle.library_books.specs.declared.program_numbers.TheConstants.{NO_CALL}
use Rattle.library_books.specs.declared.status.TheConstants.{NO_SUCH_OP, NO_SUCH_LEVEL, NO_SUCH_MODE, NO_SUCH_START, NOT_ON_PATH, NO_SUCH_ABOVE}
use Rattle.library_books.specs.Calls.{are_written}
use Rattle.library_books.specs.Claims.{number_of_bool}
use Rattle.library_books.specs.Numbers.{IsOp, IsOneOf, IsLevel, IsModeCode, IsPath, IsCall, numbers_of_reply}

-- the number of what a program does with the session's transaction first
abbrev pub number_of_start : Start → ℕ
number_of_start Nothing = 0
number_of_start Begins = 1
number_of_start Commits = 2
number_of_start Aborts = 3
number_of_start CommitsAndBegins = 4
number_of_start AbortsAndBegins = 5
number_of_start Restarts = 6

abbrev pub IsStart : ℕ → Type 0
IsStart number = (s : Start) × (number ≡ number_of_start s)

-- behind so many levels of the path to resource r another one follows
abbrev pub IsOnPath : ℕ → List ℕ → Type 0
IsOnPath level r = level < length r

-- the calls of the path to resource r, of which the numbers say how many levels are locked already, and the mode above the resource
abbrev pub IsPathTo : ProgramNumbers → List ℕ → Last → List Call → Type 0
IsPathTo n r last path = IsOnPath n.level r × ((above : Mode) × (n.above ≡ code_of above) × (path ≡ path_calls r above last (n.level + 1) (length r - n.level)))

-- the calls of the path that has this call at its end: the numbers of the path are read if the call has a resource. A call that begins,
-- ends or restarts a transaction is at the end of none
abbrev pub IsPathBefore : ProgramNumbers → Call → List Call → Type 0
IsPathBefore n (call.Lock r m) path = IsPathTo n r (Locks m) path
IsPathBefore n (call.Convert r m) path = IsPathTo n r (Converts m) path
IsPathBefore n (call.Try r m) path = IsPathTo n r (Tries m) path
IsPathBefore n (call.Release r) path = IsPathTo n r Releases path
IsPathBefore n call.Poll path = path ≡ call.Poll ∷ []
IsPathBefore n call.Withdraw path = path ≡ call.Withdraw ∷ []
IsPathBefore n call.Begin path = ⊥
IsPathBefore n call.Commit path = ⊥
IsPathBefore n call.Abort path = ⊥
IsPathBefore n call.Restart path = ⊥

-- the calls behind the start: none, or a path
abbrev pub AreBehindStart : ProgramNumbers → List Call → Type 0
AreBehindStart n path = ((n.last.op ≡ NO_CALL) × (path ≡ [])) ⊎ ((c : Call) × IsCall n.last c × IsPathBefore n c path)

-- the program that the numbers encode, by its calls
pub record IsProgram (n : ProgramNumbers) (p : Program) : Type 0 where
  pub start : Start
  pub path : List Call
  pub begins : n.start ≡ number_of_start start
  pub behind : AreBehindStart n path
  pub calls : calls_of p ≡ start_calls start ++ path

-- the operations that begin, end or restart a transaction
abbrev pub ops_of_start : List Op
ops_of_start = op.Begin ∷ op.Commit ∷ op.Abort ∷ op.Restart ∷ []

-- the last call is one on resource r
abbrev pub LeadsTo : ProgramNumbers → List ℕ → Type 0
LeadsTo n r = IsOneOf ops_with_resource n.last.op × IsPath n.last.resource r × ((c : Call) × IsCall n.last c)

-- the status for numbers that encode no program: that of the first test that fails
pub record IsProgramFault (n : ProgramNumbers) (fault : ℕ) : Type 0 where
  pub known : ((NO_SUCH_OP ≤ fault) × (fault ≤ NO_SUCH_MODE)) ⊎ ((NO_SUCH_START ≤ fault) × (fault ≤ NO_SUCH_ABOVE))
  pub start : (fault ≡ NO_SUCH_START → ¬ (IsStart n.start)) × (fault ≢ NO_SUCH_START → IsStart n.start)
  pub op : fault ≡ NO_SUCH_OP → (n.last.op ≢ NO_CALL) × (¬ (IsOp n.last.op) ⊎ IsOneOf ops_of_start n.last.op)
  pub level : fault ≡ NO_SUCH_LEVEL → IsOneOf ops_with_resource n.last.op × ¬ (IsLevel n.last.resource.level)
  pub mode : fault ≡ NO_SUCH_MODE → IsOneOf ops_with_mode n.last.op × IsLevel n.last.resource.level × ¬ (IsModeCode n.last.mode)
  pub path : fault ≡ NOT_ON_PATH → (r : List ℕ) × LeadsTo n r × ¬ (IsOnPath n.level r)
  pub above : fault ≡ NO_SUCH_ABOVE → (r : List ℕ) × LeadsTo n r × IsOnPath n.level r × ¬ (IsModeCode n.above)

-- the kind of a reply at which a program stops, otherwise 0
abbrev pub stop_number : Reply → ℕ
stop_number reply = if goes_on_behind reply then 0 else number_of_kind (kind_of_reply reply)

-- of the last of these replies, 0 if there is none
abbrev pub stop_of : List Reply → ℕ
stop_of [] = 0
stop_of (r ∷ []) = stop_number r
stop_of (r ∷ q ∷ rs) = stop_of (q ∷ rs)

-- the value of a reply, as its numbers have it
abbrev pub value_of_reply : Reply → ℕ
value_of_reply reply = (numbers_of_reply reply).value

-- the numbers of the answer to a program
abbrev pub numbers_of_answer : Program → ProgramAnswer → ProgramAnswerNumbers
numbers_of_answer p a = record {
  place = a.first;
  served = length (replies_of p a);
  starved = number_of_bool a.is_refused;
  stop = stop_of (replies_of p a);
  values = are_written value_of_reply (replies_of p a) (replicate CALLS 0);
}

-- session s ran the program on the book: its calls were served one after another, up to the first reply behind which it doesn't go on, or
-- to one for which memory was refused. Each reply is that of the sequential lock manager, since the history is legal, and the book tells
-- whose wait these calls have ended
pub record HasRun (before after : BookView) (s : ℕ) (p : Program) (a : ProgramAnswer) : Type 0 where
  pub place : a.first ≡ length before.history
  pub run : IsAnswer program_form p a
  pub history : after ≡ record before { history = before.history ++ entries s (calls_of p) (replies_of p a); ended = after.ended }
  pub legal : IsLegal after.history
  pub ended : TellsFrom after (length before.history)

-- the program that the numbers encode was run, and the answer tells of it
pub record IsProgramRun (before after : BookView) (session : ℕ) (asked : ProgramNumbers) (answer : ProgramAnswerNumbers) : Type 0 where
  pub program : Program
  pub made : ProgramAnswer
  pub is_asked : IsProgram asked program
  pub ran : HasRun before after session program made
  pub told : answer ≡ numbers_of_answer program made
