-- The kinds of calls, of replies and of refusals, by their numbers, and the words of operations and of kinds of replies.
use Rattle.std.specs.Prelude.{ℕ, List, [], ◌∷◌, codes}
use Rattle.lock_rules.specs.declared.calls.Call.{Call}
use Rattle.lock_rules.specs.declared.calls.Call.TheVariants as call
use Rattle.lock_rules.specs.declared.calls.Reply.{Reply}
use Rattle.lock_rules.specs.declared.calls.Reply.TheVariants as reply
use Rattle.lock_rules.specs.declared.calls.Why.{Why}
use Rattle.lock_rules.specs.declared.calls.Why.TheVariants as why
use Rattle.lock_rules.specs.declared.kinds.Op.{Op}
use Rattle.lock_rules.specs.declared.kinds.Op.TheVariants as op
use Rattle.lock_rules.specs.declared.kinds.ReplyKind.{ReplyKind}
use Rattle.lock_rules.specs.declared.kinds.ReplyKind.TheVariants as kind

-- the operation of a call
abbrev pub op_of_call : Call → Op
op_of_call call.Begin = op.Begin
op_of_call (call.Lock r m) = op.Lock
op_of_call (call.Convert r m) = op.Convert
op_of_call call.Poll = op.Poll
op_of_call (call.Release r) = op.Release
op_of_call call.Commit = op.Commit
op_of_call call.Abort = op.Abort
op_of_call (call.Try r m) = op.Try
op_of_call call.Withdraw = op.Withdraw
op_of_call call.Restart = op.Restart

-- the operations that take a resource
abbrev pub ops_with_resource : List Op
ops_with_resource = op.Lock ∷ op.Convert ∷ op.Release ∷ op.Try ∷ []

-- the operations that take a mode
abbrev pub ops_with_mode : List Op
ops_with_mode = op.Lock ∷ op.Convert ∷ op.Try ∷ []

-- the number of an operation
abbrev pub number_of_op : Op → ℕ
number_of_op op.Begin = 1
number_of_op op.Lock = 2
number_of_op op.Convert = 3
number_of_op op.Poll = 4
number_of_op op.Release = 5
number_of_op op.Commit = 6
number_of_op op.Abort = 7
number_of_op op.Try = 8
number_of_op op.Withdraw = 9
number_of_op op.Restart = 10

-- the word of an operation, in traces and histories
abbrev pub word_of : Op → List ℕ
word_of op.Begin = codes "begin"
word_of op.Lock = codes "lock"
word_of op.Convert = codes "convert"
word_of op.Poll = codes "poll"
word_of op.Release = codes "release"
word_of op.Commit = codes "commit"
word_of op.Abort = codes "abort"
word_of op.Try = codes "try"
word_of op.Withdraw = codes "withdraw"
word_of op.Restart = codes "restart"

-- the kind of a reply
abbrev pub kind_of_reply : Reply → ReplyKind
kind_of_reply (reply.Began n) = kind.Began
kind_of_reply (reply.Granted m) = kind.Granted
kind_of_reply reply.Waiting = kind.Waiting
kind_of_reply reply.Deadlock = kind.Deadlock
kind_of_reply reply.Clear = kind.Clear
kind_of_reply reply.Released = kind.Released
kind_of_reply (reply.Committed n) = kind.Committed
kind_of_reply (reply.Aborted n) = kind.Aborted
kind_of_reply (reply.Refused w) = kind.Refused
kind_of_reply reply.Withdrawn = kind.Withdrawn
kind_of_reply (reply.Restarted n) = kind.Restarted

-- the number of a kind of replies
abbrev pub number_of_kind : ReplyKind → ℕ
number_of_kind kind.Began = 1
number_of_kind kind.Granted = 2
number_of_kind kind.Waiting = 3
number_of_kind kind.Deadlock = 4
number_of_kind kind.Clear = 5
number_of_kind kind.Released = 6
number_of_kind kind.Committed = 7
number_of_kind kind.Aborted = 8
number_of_kind kind.Refused = 9
number_of_kind kind.Withdrawn = 10
number_of_kind kind.Restarted = 11

-- the word of a kind of replies, in histories
abbrev pub word_of_reply : ReplyKind → List ℕ
word_of_reply kind.Began = codes "began"
word_of_reply kind.Granted = codes "granted"
word_of_reply kind.Waiting = codes "waiting"
word_of_reply kind.Deadlock = codes "deadlock"
word_of_reply kind.Clear = codes "clear"
word_of_reply kind.Released = codes "released"
word_of_reply kind.Committed = codes "committed"
word_of_reply kind.Aborted = codes "aborted"
word_of_reply kind.Refused = codes "refused"
word_of_reply kind.Withdrawn = codes "withdrawn"
word_of_reply kind.Restarted = codes "restarted"

-- the number of a refusal, by which the tests of a call are ordered; number 10 is retired
abbrev pub number_of_why : Why → ℕ
number_of_why why.AlreadyOpen = 1
number_of_why why.NoTransaction = 2
number_of_why why.IsWaiting = 3
number_of_why why.IsDoomed = 4
number_of_why why.NothingAsked = 5
number_of_why why.NotHeld = 6
number_of_why why.ParentNotHeld = 7
number_of_why why.ChildHeld = 8
number_of_why why.TooManyLocks = 9
number_of_why why.WouldWait = 11
number_of_why why.NotWaiting = 12
