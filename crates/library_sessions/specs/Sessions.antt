-- The outcomes of a session's calls, as the exports state them.
use Rattle.std.specs.Prelude.{◌≡◌, ◌≢◌, ℕ, ◌+◌, ◌<◌, ◌≤◌, ◌⊎◌, ◌↔◌, max, true, false, Option, Some, None, List, [], ◌∷◌, ◌++◌, length}
use mathlib.Core.List.{IsPrefix}
use Rattle.lock_rules.specs.declared.calls.Call.{Call}
use Rattle.lock_rules.specs.declared.calls.Reply.{Reply}
use Rattle.lock_rules.specs.Entries.{Entry}
use Rattle.sequential.specs.Histories.{calls_of}
use Rattle.publication.specs.Boards.{HasCallsOf, heard_from, publishing, enlisted, tried}
use Rattle.publication.specs.StepKinds.{longer, maxes}
use Rattle.combining.specs.Sessions.{HasTriedToList}
use Rattle.combining.specs.Woken.{entered_since}
use Rattle.lock_programs.specs.declared.program.Program.{Program}
use Rattle.lock_office.specs.ProgramBoards.{IsLegal, flat_history}
use Rattle.lock_office.specs.Sessions.{HasNothingPending, IsPassed, IsPendingServed, HasTakenPiece}
use Rattle.lock_office.specs.SingleCalls.{MakesOneCall, IsCollected}
use Rattle.lock_office.specs.ProgramTurns.{IsPendingSingle}
use Rattle.lock_office.specs.Ended.{AreToldBy}
use Rattle.library_books.specs.declared.numbers.CallNumbers.{CallNumbers}
use Rattle.library_books.specs.declared.numbers.AnswerNumbers.{AnswerNumbers}
use Rattle.library_sessions.specs.declared.session_share.SessionShare.{SessionShare}
use Rattle.library_books.specs.declared.numbers.EntryNumbers.{EntryNumbers}
use Rattle.library_books.specs.Calls.{are_written}
use Rattle.library_books.specs.Numbers.{IsCall, numbers_of_reply, numbers_of_entry}

-- the share keeps its office, the sessions handed in to it, its mark, its waker, and the bound of its passes
pub record IsSameOffice (before after : SessionShare) : Type 0 where
  pub office : after.office ≡ before.office
  pub handed : after.handed.items ≡ before.handed.items
  pub sessions : after.sessions ≡ before.sessions
  pub mark : after.mark ≡ before.mark
  pub waker : after.waker ≡ before.waker
  pub bound : after.bound ≡ before.bound

-- the call that the numbers encode is published, as a program of this one call, and pending. 1: the call is listed, after one try or none, and
-- the session counts all its calls as heard of. 2: the call is not listed after one try, which happens only in an office with other sessions
abbrev pub IsPublished : SessionShare → SessionShare → CallNumbers → ℕ → Type 0
IsPublished before after asked posted = (call : Call) × IsCall asked call × (program : Program) × MakesOneCall program call
    × (before.session.pending ≡ None) × (before.session.retired ≡ false)
    × (posted ≡ 1 → (after.session ≡ enlisted (publishing before.session program)) ⊎ (after.session ≡ tried (enlisted (publishing before.session program))))
    × (posted ≡ 2 → (after.session ≡ tried (publishing before.session program)) × (2 ≤ before.sessions))
    × IsSameOffice before after

-- nothing has changed, except that a pending call that was not listed was tried once more to be listed, and may be listed now; the
-- office has other sessions
abbrev pub IsElsewhere : SessionShare → SessionShare → Type 0
IsElsewhere before after = HasTriedToList before.session after.session × (2 ≤ before.sessions) × IsSameOffice before after

-- a pass served this many calls; `starved` is 1 exactly if it put a call back, and else 0. If it is 0, the session's pending call is
-- served, and each call that the session had heard of. The session has heard of no fewer calls than before, and the history that it
-- knows has of its own calls those that it collected, or those and its pending call
abbrev pub IsTurn : SessionShare → SessionShare → ℕ → ℕ → Type 0
IsTurn before after served starved = IsPassed before.session after.session served × (starved ≤ 1)
    × ((starved ≡ 1) ↔ (before.session.put_backs < after.session.put_backs))
    × ((j : ℕ) → heard_from before.session j ≤ heard_from after.session j) × HasCallsOf after.session.front after.session
    × (starved ≡ 0 → before.session.pending ≢ None → IsPendingServed after.session)
    × (starved ≡ 0 → (j : ℕ) → 0 < j → j ≤ before.sessions → heard_from before.session j ≤ length (calls_of j after.session.front))
    × IsSameOffice before after

-- so many sessions are to be woken, which the share lists: exactly those whose wait the entries have ended whose places the session has entered
-- meanwhile, each once
pub record AreToWake (before after : SessionShare) (count : ℕ) : Type 0 where
  pub count_is : count ≡ length after.told.listener.list
  pub waking : AreToldBy after.sessions after.session.front (entered_since before.session after.session) after.told.listener.list

-- the answer to the pending call, a program of one call, is collected: the index of its entry in the history, and the reply there
abbrev pub IsAnswered : SessionShare → SessionShare → AnswerNumbers → Type 0
IsAnswered before after answer = (reply : Reply) × (answer.reply ≡ numbers_of_reply reply) × IsPendingSingle before.session
    × IsCollected before.session after.session answer.place reply × IsSameOffice before after

-- the session took the oldest entries of the history that were kept, as many as there is room for, and fewer only if no more were kept.
-- They begin at this place, and are noted as its own; it knows the history up to where they were kept
abbrev pub IsPieceTaken : SessionShare → SessionShare → ℕ → ℕ → List EntryNumbers → List EntryNumbers → Type 0
IsPieceTaken before after first count places written = (entries : List Entry) × HasTakenPiece before.session after.session first entries
    × (count ≡ length entries) × (written ≡ are_written numbers_of_entry entries places) × (count ≤ length places)
    × (count < length places → first + count ≡ length (flat_history after.session.front)) × IsSameOffice before after

-- the session knows what it knew before and what the other session knew: the longer of their fronts of the history, which is legal and
-- continues both, and of each session the larger number of calls heard of. Of the calls of both sessions that front has those that they
-- collected, or those and the pending one
abbrev pub IsHeard : SessionShare → SessionShare → SessionShare → Type 0
IsHeard before other after = (after.session ≡ record before.session {
  front = longer before.session.front other.session.front;
  heard = maxes before.session.heard other.session.heard;
}) × IsPrefix before.session.front after.session.front × IsPrefix other.session.front after.session.front × IsLegal after.session.front
    × ((j : ℕ) → heard_from after.session j ≡ max (heard_from before.session j) (heard_from other.session j))
    × HasCallsOf after.session.front after.session × HasCallsOf after.session.front other.session × IsSameOffice before after

-- the session, which had no pending call, has retired
abbrev pub IsRetired : SessionShare → SessionShare → Type 0
IsRetired before after = (before.session.pending ≡ None) × (before.session.retired ≡ false)
    × (after.session ≡ record before.session { retired = true }) × IsSameOffice before after

-- the share is unchanged, except for the capacity of its vector of sessions
pub record IsSameShare (before after : SessionShare) : Type 0 where
  pub session : after.session ≡ before.session
  pub office : IsSameOffice before after

-- a handle's share is unchanged, except for the capacity of its vector of sessions
abbrev pub IsKept : Option SessionShare → Option SessionShare → Type 0
IsKept before after = (after ≡ before) ⊎ ((a : SessionShare) × (b : SessionShare) × (before ≡ Some a) × (after ≡ Some b) × IsSameShare a b)

-- the session, which has the same mark and no pending call, is appended to the sessions handed in to the other one, after the sessions
-- handed in to itself
pub record IsHandedIn (share before after : SessionShare) : Type 0 where
  pub one_office : share.mark ≡ before.mark
  pub settled : HasNothingPending share.session
  pub handed : after.handed.items ≡ (before.handed.items ++ share.handed.items) ++ share.session ∷ []
  pub session : after.session ≡ before.session
  pub office : after.office ≡ before.office
  pub sessions : after.sessions ≡ before.sessions
  pub mark : after.mark ≡ before.mark
  pub waker : after.waker ≡ before.waker
