-- The histories of the lock manager are those of a sequential object with its calls and replies.
use Rattle.sequential.specs.declared.entry.Entry.{Entry as EntryOf}
use Rattle.sequential.specs.Histories.{Answered as AnsweredOf}
use Rattle.lock_rules.specs.declared.calls.Call.{Call}
use Rattle.lock_rules.specs.declared.calls.Reply.{Reply}

-- a call of a session with its reply
abbrev pub Entry : Type 0
Entry = EntryOf Call Reply

-- a call of one session: its place in the history, counted from 0, and its reply
abbrev pub Answered : Type 0
Answered = AnsweredOf Call Reply
