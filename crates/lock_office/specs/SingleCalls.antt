-- Sessions of the lock office that make single calls: each is a program of one call. What is pending may be a program of several.
use Rattle.std.specs.Prelude.{◌≡◌, ℕ, ◌+◌, ◌-◌, ◌^◌, min, List, [], ◌∷◌, ◌++◌, length}
use Rattle.lock_rules.specs.declared.calls.Call.{Call}
use Rattle.lock_rules.specs.declared.calls.Reply.{Reply}
use Rattle.lock_programs.specs.declared.program.Program.{Program}
use Rattle.lock_programs.specs.declared.answer.ProgramAnswer.{ProgramAnswer}
use Rattle.lock_programs.specs.Calls.{calls_of}
use Rattle.lock_programs.specs.Answers.{replies_of}
use Rattle.lock_office.specs.ProgramBoards.{TicketView}
use Rattle.lock_office.specs.Sessions as programs

-- The program makes this one call.
abbrev pub MakesOneCall : Program → Call → Type 0
MakesOneCall program call = calls_of program ≡ call ∷ []

-- The program makes this one call, and its answer has this reply and the place of the call's entry in the history of calls.
pub record IsOneCall (program : Program) (answer : ProgramAnswer) (call : Call) (place : ℕ) (reply : Reply) : Type 0 where
  pub calls : MakesOneCall program call
  pub replies : replies_of program answer ≡ reply ∷ []
  pub place_is : answer.first ≡ place

-- The last reply of the program's answer, and its place in the history of calls, of which 64 bits are told. Of a program of one call it is the
-- reply to this call.
pub record IsLastReply (program : Program) (answer : ProgramAnswer) (place : ℕ) (reply : Reply) : Type 0 where
  pub earlier : List Reply
  pub replies : replies_of program answer ≡ earlier ++ reply ∷ []
  pub place_is : place ≡ min (answer.first + length earlier) (2 ^ 64 - 1)
  pub one : (call : Call) → MakesOneCall program call → IsOneCall program answer call place reply

-- The session collected the answer to its pending program, and this is its last reply: of a single call the reply to it.
pub record IsCollected (before after : TicketView) (place : ℕ) (reply : Reply) : Type 0 where
  pub answer : ProgramAnswer
  pub at : ℕ
  pub collected : programs.IsCollected before after at answer
  pub last : IsLastReply collected.call answer place reply
