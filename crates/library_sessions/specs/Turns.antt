-- The outcomes of one turn of what a session asks by numbers, a call or a program, as the exports state them. A call is a program of one
-- call. `is_asked` says which program the numbers encode, and `tells` which numbers tell its answer.
use Rattle.std.specs.Prelude.{◌≡◌, ◌≢◌, ℕ, ◌<◌, ◌≤◌, ◌⊎◌, Bool, true, false, Some, None, length}
use Rattle.lock_rules.specs.declared.calls.Call.{Call}
use Rattle.lock_rules.specs.declared.calls.Reply.{Reply}
use Rattle.publication.specs.Views.{asks}
use Rattle.lock_programs.specs.declared.program.Program.{Program}
use Rattle.lock_programs.specs.declared.answer.ProgramAnswer.{ProgramAnswer}
use Rattle.lock_programs.specs.Calls.{calls_of}
use Rattle.lock_office.specs.ProgramBoards.{TicketView}
use Rattle.lock_office.specs.Sessions.{IsIdle}
use Rattle.lock_office.specs.ProgramTurns.{IsCalled, IsAnswered}
use Rattle.lock_office.specs.SingleCalls.{MakesOneCall, IsLastReply}
use Rattle.combining.specs.Calls.{IsCalling, IsWaitingOn}
use Rattle.library_books.specs.declared.numbers.CallNumbers.{CallNumbers}
use Rattle.library_books.specs.declared.numbers.AnswerNumbers.{AnswerNumbers}
use Rattle.library_books.specs.declared.program_numbers.ProgramNumbers.{ProgramNumbers}
use Rattle.library_books.specs.declared.program_numbers.ProgramAnswerNumbers.{ProgramAnswerNumbers}
use Rattle.library_books.specs.declared.status.TheConstants.{OK, NO_MEMORY, NO_SUCH_OP, NO_SUCH_MODE, PENDING, NOTHING_PENDING, NOT_SERVED, RETIRED, NO_SUCH_START, NO_SUCH_ABOVE}
use Rattle.library_books.specs.Numbers.{IsCall, numbers_of_reply}
use Rattle.library_books.specs.Programs.{IsProgram, IsProgramFault, numbers_of_answer}
use Rattle.library_sessions.specs.declared.session_share.SessionShare.{SessionShare}
use Rattle.library_sessions.specs.declared.turn_calls.TheConstants.{NEITHER}
use Rattle.library_sessions.specs.Bounds.{HasServedWithin}
use Rattle.library_sessions.specs.Sessions.{IsSameOffice, AreToWake}

-- the numbers encode a call, and the program makes this one call
abbrev pub IsOfCall : CallNumbers → Program → Type 0
IsOfCall asked program = (call : Call) × IsCall asked call × MakesOneCall program call

-- the numbers encode a program, which makes a call
abbrev pub IsOfCalls : ProgramNumbers → Program → Type 0
IsOfCalls asked program = IsProgram asked program × (0 < length (calls_of program))

-- the status for numbers that encode no program, or one of no calls
abbrev pub IsRunFault : ProgramNumbers → ℕ → Type 0
IsRunFault asked fault = IsProgramFault asked fault ⊎ ((fault ≡ NO_SUCH_OP) × ((program : Program) × IsProgram asked program × (length (calls_of program) ≡ 0)))

-- a status for numbers that encode no call or no program
abbrev pub IsFaultNumber : ℕ → Type 0
IsFaultNumber fault = ((NO_SUCH_OP ≤ fault) × (fault ≤ NO_SUCH_MODE)) ⊎ ((NO_SUCH_START ≤ fault) × (fault ≤ NO_SUCH_ABOVE))

-- the numbers tell the last reply, and the place of its entry in the history: of a program of one call the reply to this call
abbrev pub TellsLast : Program → ProgramAnswer → AnswerNumbers → Type 0
TellsLast program made answer = (reply : Reply) × IsLastReply program made answer.place reply × (answer.reply ≡ numbers_of_reply reply)

-- the numbers tell the whole answer
abbrev pub TellsAll : Program → ProgramAnswer → ProgramAnswerNumbers → Type 0
TellsAll program made answer = answer ≡ numbers_of_answer program made

-- the turn was made
abbrev pub IsMade : ℕ → Type 0
IsMade status = (status ≡ OK) ⊎ ((status ≡ NO_MEMORY) ⊎ (status ≡ NOT_SERVED))

-- an idle session has begun this program. The numbers of the answer are written, and how many sessions are to be woken
pub record HasBegun {N : Type 0} (tells : Program → ProgramAnswer → N → Type 0) (before after : SessionShare) (program : Program) (tries : ℕ) (unanswered answer : N) (told status : ℕ) : Type 0 where
  -- the session was idle, and has entered at most one call more than a pass may serve
  pub idle : IsIdle before.session
  pub few : HasServedWithin 1 before after
  -- the program is answered
  pub ok : status ≡ OK → ((at : ℕ) × (reply : ProgramAnswer) × IsCalled before.session after.session program at reply × tells program reply answer) × IsIdle after.session
  -- memory was refused in a pass of the session, and the program is pending
  pub memory : status ≡ NO_MEMORY → IsCalling before.session after.session program
  -- the program was tried at once, another session had the lock table, and nothing has changed
  pub tried : status ≡ NOT_SERVED → tries ≢ 0 → (after.session ≡ before.session) × (2 ≤ before.sessions)
  -- it was not tried, and is published
  pub published : tries ≡ 0 → (status ≡ NOT_SERVED) × IsCalling before.session after.session program
  pub failed : status ≢ OK → answer ≡ unanswered
  pub told_is : AreToWake before after told
  pub office : IsSameOffice before after
  pub statuses : IsMade status

-- a session with a program pending has made a turn of it. It writes as that of an idle one
pub record HasResumed {N : Type 0} (tells : Program → ProgramAnswer → N → Type 0) (before after : SessionShare) (tries : ℕ) (unanswered answer : N) (told status : ℕ) : Type 0 where
  -- a program was pending, and the session has entered at most as many calls as a pass may serve
  pub pending : before.session.pending ≢ None
  pub few : HasServedWithin 0 before after
  -- the program is answered
  pub ok : status ≡ OK → ((at : ℕ) × (reply : ProgramAnswer) × (is : IsAnswered before.session after.session at reply) × tells is.0 reply answer) × IsIdle after.session
  -- memory was refused in a pass of the session, and the program is still pending
  pub memory : status ≡ NO_MEMORY → IsWaitingOn before.session after.session × (before.session.put_backs < after.session.put_backs)
  -- there is no answer yet. If the session tried to serve, the office has other sessions
  pub waits : status ≡ NOT_SERVED → IsWaitingOn before.session after.session
  pub others : status ≡ NOT_SERVED → tries ≢ 0 → 2 ≤ before.sessions
  pub failed : status ≢ OK → answer ≡ unanswered
  pub told_is : AreToWake before after told
  pub office : IsSameOffice before after
  pub statuses : IsMade status

-- nothing is changed or written
abbrev pub IsUntouched : {S N : Type 0} → S → S → N → N → ℕ → ℕ → Type 0
IsUntouched before after unanswered answer untold told = (after ≡ before) × (answer ≡ unanswered) × (told ≡ untold)

-- the session may not begin what the numbers ask: the status is that of the first test that fails
pub record IsRefused {Q : Type 0} (is_asked : Q → Program → Type 0) (is_fault : Q → ℕ → Type 0) (session : TicketView) (asked : Q) (status : ℕ) : Type 0 where
  pub fault : status ≢ RETIRED → status ≢ PENDING → is_fault asked status
  pub retired : status ≡ RETIRED → (session.retired ≡ true) × ((program : Program) × is_asked asked program)
  pub pending : status ≡ PENDING → (session.pending ≢ None) × ((program : Program) × is_asked asked program)

-- the session has begun the program that the numbers ask; or it was refused
abbrev pub HasMadeTurn : {Q N : Type 0} → (Q → Program → Type 0) → (Q → ℕ → Type 0) → (Program → ProgramAnswer → N → Type 0) → SessionShare → SessionShare → Q → ℕ → N → N → ℕ → ℕ → ℕ → Type 0
HasMadeTurn is_asked is_fault tells before after asked tries unanswered answer untold told status =
    ((program : Program) × is_asked asked program × HasBegun tells before after program tries unanswered answer told status)
    ⊎ (IsRefused is_asked is_fault before.session asked status × IsUntouched before after unanswered answer untold told)

-- the numbers of the answer can't go on with what is pending: nothing is, or a program whose answer they don't tell as a whole
pub record IsNotResumed (whole : Program → Bool) (session : TicketView) (status : ℕ) : Type 0 where
  pub nothing : status ≡ NOTHING_PENDING → session.pending ≡ None
  pub several : status ≡ PENDING → (program : Program) × (floor : ℕ) × (session.pending ≡ Some (asks program floor)) × (0 < length (calls_of program)) × (whole program ≡ false)
  pub statuses : (status ≡ NOTHING_PENDING) ⊎ (status ≡ PENDING)

-- something is pending, and only that was asked: nothing is changed or written
pub record IsStillPending {N : Type 0} (before after : SessionShare) (tries : ℕ) (unanswered answer : N) (untold told status : ℕ) : Type 0 where
  pub neither : tries ≡ NEITHER
  pub pending : before.session.pending ≢ None
  pub not_served : status ≡ NOT_SERVED
  pub untouched : IsUntouched before after unanswered answer untold told

-- a turn of what is pending, whose answer the numbers tell as a whole, or only that it is; or it was refused
abbrev pub HasMadeLook : {N : Type 0} → (Program → ProgramAnswer → N → Type 0) → (Program → Bool) → SessionShare → SessionShare → ℕ → N → N → ℕ → ℕ → ℕ → Type 0
HasMadeLook tells whole before after tries unanswered answer untold told status =
    (((program : Program) (floor : ℕ) → before.session.pending ≡ Some (asks program floor) → whole program ≡ true)
    × (((tries ≢ NEITHER) × HasResumed tells before after tries unanswered answer told status) ⊎ IsStillPending before after tries unanswered answer untold told status))
    ⊎ (IsNotResumed whole before.session status × IsUntouched before after unanswered answer untold told)
