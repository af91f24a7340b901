-- The replies that the answer to a program tells.
use Rattle.std.specs.Prelude.{ℕ, zero, suc, ◌+◌, List, [], ◌∷◌, slice_index_or}
use Rattle.programs.specs.Form.{Form}
use Rattle.lock_modes.specs.declared.Mode.{Mode}
use Rattle.lock_modes.specs.declared.Mode.TheVariants.{NL}
use Rattle.lock_rules.specs.declared.calls.Call.{Call}
use Rattle.lock_rules.specs.declared.calls.Call.TheVariants.{Begin, Lock, Convert, Poll, Release, Commit, Abort, Try, Withdraw, Restart}
use Rattle.lock_rules.specs.declared.calls.Reply.{Reply}
use Rattle.lock_rules.specs.declared.calls.Reply.TheVariants.{Began, Granted, Waiting, Deadlock, Clear, Released, Committed, Aborted, Refused, Withdrawn, Restarted}
use Rattle.lock_programs.specs.declared.stop.Stop.{Stop}
use Rattle.lock_programs.specs.declared.stop.Stop.TheVariants.{GoesOn, Waits, IsVictim, IsRefused}
use Rattle.lock_programs.specs.declared.notes.ReplyNotes.{ReplyNotes}
use Rattle.lock_programs.specs.declared.answer.Replies.{Replies}
use Rattle.lock_programs.specs.declared.answer.Replies.TheVariants as told_by
use Rattle.lock_programs.specs.declared.answer.ProgramAnswer.{ProgramAnswer}
use Rattle.lock_programs.specs.declared.program.Program.{Program}
use Rattle.lock_programs.specs.Calls.{calls_of}
use Rattle.lock_programs.specs.Fits.{goes_on_behind}

-- the reply to a call that was granted or done, by the number of the transaction that was begun, the number of locks that were
-- released as one ended or restarted, and the mode granted
abbrev pub done_with : ℕ → ℕ → Mode → Call → Reply
done_with began ended mode Begin = Began began
done_with began ended mode (Lock r m) = Granted mode
done_with began ended mode (Convert r m) = Granted mode
done_with began ended mode (Try r m) = Granted mode
done_with began ended mode Commit = Committed ended
done_with began ended mode Abort = Aborted ended
done_with began ended mode Poll = Clear
done_with began ended mode (Release r) = Released
done_with began ended mode Withdraw = Withdrawn
done_with began ended mode Restart = Restarted ended

-- what an answer tells of replies: the number of the transaction that was begun, how many locks were released as one ended or
-- restarted, the mode granted at each place, and why the program stopped at the last one
pub record NotedReplies : Type 0 where
  pub began : ℕ
  pub ended : ℕ
  pub granted : List Mode
  pub stop : Stop

abbrev pub noted_of : ReplyNotes → NotedReplies
noted_of a = record { began = a.began; ended = a.ended; granted = a.granted; stop = a.stop }

-- the reply to the call at place k, if it was granted or done
abbrev pub done_reply : NotedReplies → Call → ℕ → Reply
done_reply t c k = done_with t.began t.ended (slice_index_or t.granted k NL) c

-- the last reply, if it is this one where the program went on behind it
abbrev pub stop_reply : Stop → Reply → Reply
stop_reply GoesOn r = r
stop_reply Waits r = Waiting
stop_reply IsVictim r = Deadlock
stop_reply (IsRefused why) r = Refused why

-- the reply to the call at place k, which has so many replies behind it: the program can have stopped at the last one alone
abbrev pub reply_at : NotedReplies → Call → ℕ → ℕ → Reply
reply_at t c k zero = stop_reply t.stop (done_reply t c k)
reply_at t c k (suc n) = done_reply t c k

-- n replies to these calls, the first of which has place k
abbrev pub replies_from : NotedReplies → List Call → ℕ → ℕ → List Reply
replies_from t [] k n = []
replies_from t (c ∷ cs) k zero = []
replies_from t (c ∷ cs) k (suc n) = reply_at t c k n ∷ replies_from t cs (k + 1) n

-- the replies that notes tell to the first of these calls
abbrev pub replies_told : List Call → ReplyNotes → List Reply
replies_told cs n = replies_from (noted_of n) cs 0 n.served

-- the replies that are told to the first of these calls. A single reply is that to a single call
abbrev pub replies_in : List Call → Replies → List Reply
replies_in cs told_by.None = []
replies_in [] (told_by.One r) = []
replies_in (c ∷ []) (told_by.One r) = r ∷ []
replies_in (c ∷ d ∷ cs) (told_by.One r) = []
replies_in cs (told_by.Several n) = replies_told cs n

-- the replies to the calls of a program that were served
abbrev pub replies_of : Program → ProgramAnswer → List Reply
replies_of p a = replies_in (calls_of p) a.replies

-- why a program stops at this reply
abbrev pub stop_at : Reply → Stop
stop_at Waiting = Waits
stop_at Deadlock = IsVictim
stop_at (Refused why) = IsRefused why
stop_at _ = GoesOn

-- why a program stopped at its last reply
abbrev pub stop_told : Replies → Stop
stop_told told_by.None = GoesOn
stop_told (told_by.One r) = stop_at r
stop_told (told_by.Several n) = n.stop

abbrev pub stop_of : ProgramAnswer → Stop
stop_of a = stop_told a.replies

-- how programs and their answers are read
abbrev pub program_form : Form Program ProgramAnswer Call Reply
program_form = record {
  calls = calls_of;
  replies = replies_of;
  first = λ a. a.first;
  refused = λ a. a.is_refused;
  goes_on = goes_on_behind;
}
