-- Calls, replies and entries as the numbers of C's structs.
use Rattle.std.specs.Prelude.{◌≡◌, ℕ, ◌-◌, ◌<◌, ◌≤◌, ◌⊎◌, List, [], ◌∷◌, ◌++◌, length, take, replicate}
use Rattle.lock_modes.specs.declared.Mode.{Mode}
use Rattle.lock_modes.specs.Codes.{code_of}
use Rattle.lock_tree.specs.declared.levels.TheConstants.{LEVELS}
use Rattle.lock_rules.specs.declared.calls.Call.{Call}
use Rattle.lock_rules.specs.declared.calls.Call.TheVariants as call
use Rattle.lock_rules.specs.declared.calls.Reply.{Reply}
use Rattle.lock_rules.specs.declared.calls.Reply.TheVariants as reply
use Rattle.lock_rules.specs.Entries.{Entry}
use Rattle.lock_rules.specs.declared.kinds.Op.{Op}
use Rattle.lock_rules.specs.declared.kinds.Op.TheVariants.{Begin, Lock, Convert, Poll, Release, Commit, Abort, Try, Withdraw, Restart}
use Rattle.lock_rules.specs.Kinds.{op_of_call, ops_with_resource, ops_with_mode, number_of_op, kind_of_reply, number_of_kind, number_of_why}
use Rattle.library_books.specs.declared.numbers.ResourceNumbers.{ResourceNumbers}
use Rattle.library_books.specs.declared.numbers.CallNumbers.{CallNumbers}
use Rattle.library_books.specs.declared.numbers.ReplyNumbers.{ReplyNumbers}
use Rattle.library_books.specs.declared.numbers.EntryNumbers.{EntryNumbers}
use Rattle.library_books.specs.declared.numbers.HolderNumbers.{HolderNumbers}
use Rattle.library_books.specs.declared.status.TheConstants.{NO_SUCH_OP, NO_SUCH_LEVEL, NO_SUCH_MODE}

-- the number of an operation
abbrev pub IsOp : ℕ → Type 0
IsOp number = (o : Op) × (number ≡ number_of_op o)

-- the number of one of these operations
abbrev pub IsOneOf : List Op → ℕ → Type 0
IsOneOf [] number = ⊥
IsOneOf (o ∷ os) number = (number ≡ number_of_op o) ⊎ IsOneOf os number

-- a level of the lock tree
abbrev pub IsLevel : ℕ → Type 0
IsLevel level = (1 ≤ level) × (level ≤ LEVELS)

-- the numbers are those of a resource, and its path has a level behind these
abbrev pub HasLevelBehind : ResourceNumbers → ℕ → Type 0
HasLevelBehind place level = IsLevel place.level × (level < place.level)

-- the code of a mode
abbrev pub IsModeCode : ℕ → Type 0
IsModeCode code = (mode : Mode) × (code ≡ code_of mode)

-- the resource whose path is the first `level` numbers
pub record IsPath (p : ResourceNumbers) (r : List ℕ) : Type 0 where
  pub level : IsLevel p.level
  pub front : r ≡ take p.level p.numbers

-- the numbers encode the path to resource r, which has levels behind this one
abbrev pub IsRestOf : ResourceNumbers → ℕ → List ℕ → Type 0
IsRestOf path level r = IsPath path r × (level < length r)

-- the call that the numbers encode
abbrev pub IsCall : CallNumbers → Call → Type 0
IsCall c call.Begin = c.op ≡ number_of_op Begin
IsCall c (call.Lock r mode) = (c.op ≡ number_of_op Lock) × IsPath c.resource r × (c.mode ≡ code_of mode)
IsCall c (call.Convert r mode) = (c.op ≡ number_of_op Convert) × IsPath c.resource r × (c.mode ≡ code_of mode)
IsCall c call.Poll = c.op ≡ number_of_op Poll
IsCall c (call.Release r) = (c.op ≡ number_of_op Release) × IsPath c.resource r
IsCall c call.Commit = c.op ≡ number_of_op Commit
IsCall c call.Abort = c.op ≡ number_of_op Abort
IsCall c (call.Try r mode) = (c.op ≡ number_of_op Try) × IsPath c.resource r × (c.mode ≡ code_of mode)
IsCall c call.Withdraw = c.op ≡ number_of_op Withdraw
IsCall c call.Restart = c.op ≡ number_of_op Restart

-- the status for numbers that encode no call: that of the first test that fails
pub record IsCallFault (c : CallNumbers) (fault : ℕ) : Type 0 where
  pub known : (NO_SUCH_OP ≤ fault) × (fault ≤ NO_SUCH_MODE)
  pub op : fault ≡ NO_SUCH_OP → ¬ (IsOp c.op)
  pub level : fault ≡ NO_SUCH_LEVEL → IsOneOf ops_with_resource c.op × ¬ (IsLevel c.resource.level)
  pub mode : fault ≡ NO_SUCH_MODE → IsOneOf ops_with_mode c.op × IsLevel c.resource.level × ¬ (IsModeCode c.mode)

-- the value of a reply: the transaction's number, the code of the mode held, the count of locks released, or the refusal's number; otherwise 0
abbrev pub value_of : Reply → ℕ
value_of (reply.Began n) = n
value_of (reply.Granted m) = code_of m
value_of reply.Waiting = 0
value_of reply.Deadlock = 0
value_of reply.Clear = 0
value_of reply.Released = 0
value_of (reply.Committed n) = n
value_of (reply.Aborted n) = n
value_of (reply.Refused w) = number_of_why w
value_of reply.Withdrawn = 0
value_of (reply.Restarted n) = n

-- the numbers of a resource: its level, and its path padded with 0
abbrev pub place_of : List ℕ → ResourceNumbers
place_of r = record { level = length r; numbers = r ++ replicate (LEVELS - length r) 0 }

-- the resource field of a call that has no resource
abbrev pub nowhere : ResourceNumbers
nowhere = record { level = 0; numbers = replicate LEVELS 0 }

-- the code of the mode that a call asks for, 0 if it has none
abbrev pub mode_of_call : Call → ℕ
mode_of_call call.Begin = 0
mode_of_call (call.Lock r mode) = code_of mode
mode_of_call (call.Convert r mode) = code_of mode
mode_of_call call.Poll = 0
mode_of_call (call.Release r) = 0
mode_of_call call.Commit = 0
mode_of_call call.Abort = 0
mode_of_call (call.Try r mode) = code_of mode
mode_of_call call.Withdraw = 0
mode_of_call call.Restart = 0

-- the resource that a call names, or none
abbrev pub place_of_call : Call → ResourceNumbers
place_of_call call.Begin = nowhere
place_of_call (call.Lock r mode) = place_of r
place_of_call (call.Convert r mode) = place_of r
place_of_call call.Poll = nowhere
place_of_call (call.Release r) = place_of r
place_of_call call.Commit = nowhere
place_of_call call.Abort = nowhere
place_of_call (call.Try r mode) = place_of r
place_of_call call.Withdraw = nowhere
place_of_call call.Restart = nowhere

-- the numbers of a call; a call without a mode has mode 0
abbrev pub numbers_of_call : Call → CallNumbers
numbers_of_call c = record { op = number_of_op (op_of_call c); mode = mode_of_call c; resource = place_of_call c }

-- the numbers of a reply: its kind's number, and its value
abbrev pub numbers_of_reply : Reply → ReplyNumbers
numbers_of_reply r = record { kind = number_of_kind (kind_of_reply r); value = value_of r }

-- the numbers of an entry
abbrev pub numbers_of_entry : Entry → EntryNumbers
numbers_of_entry e = record { session = e.session; call = numbers_of_call e.call; reply = numbers_of_reply e.reply }

-- the numbers of a holder
abbrev pub numbers_of_holder : ℕ × Mode → HolderNumbers
numbers_of_holder h = record { session = h.0; mode = code_of h.1 }
