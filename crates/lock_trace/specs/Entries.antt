-- The rows of a history: the entry of some fields.
use Rattle.std.specs.Prelude.{◌==◌, ◌<◌, ◌≤◌, ◌^◌, ℕ, not, if◌then◌else◌, List, [], ◌∷◌, length, Result, Ok, Err}
use Rattle.lock_rules.specs.declared.calls.Reply.{Reply}
use Rattle.lock_rules.specs.declared.calls.Reply.TheVariants as reply
use Rattle.lock_rules.specs.Entries.{Entry}
use Rattle.lock_trace.specs.declared.faults.TraceKind.{TraceKind}
use Rattle.lock_trace.specs.declared.faults.TraceKind.TheVariants as kind
use Rattle.lock_trace.specs.declared.trace_row.TraceRow.{TraceRow}
use Rattle.lock_rules.specs.declared.kinds.ReplyKind.{ReplyKind}
use Rattle.lock_rules.specs.declared.kinds.ReplyKind.TheVariants as reply_kind
use Rattle.lock_trace.specs.Fields.{place_in, reply_kind_in, number_in, granted_in, why_in, max_u64, max_u32}
use Rattle.lock_trace.specs.Rows.{◌>>=◌, HasResources, row_in}

-- The numbers of a reply are in range: 64 bits for a transaction number, 32 bits for a count of locks.
abbrev pub IsReply : Reply → Type 0
IsReply (reply.Began n) = n < 2 ^ 64
IsReply (reply.Granted m) = Unit {0}
IsReply reply.Waiting = Unit {0}
IsReply reply.Deadlock = Unit {0}
IsReply reply.Clear = Unit {0}
IsReply reply.Released = Unit {0}
IsReply (reply.Committed n) = n < 2 ^ 32
IsReply (reply.Aborted n) = n < 2 ^ 32
IsReply (reply.Refused w) = Unit {0}
IsReply reply.Withdrawn = Unit {0}
IsReply (reply.Restarted n) = n < 2 ^ 32

-- The entry's session is between 1 and the number of sessions, its call names only valid resources, and its
-- reply's numbers are in range.
pub record IsEntry (sessions : ℕ) (e : Entry) : Type 0 where
  pub first : 0 < e.session
  pub last : e.session ≤ sessions
  pub resources : HasResources e.call
  pub reply : IsReply e.reply

-- The reply, which takes no value: the value field must be empty.
abbrev pub without_value : Reply → List ℕ → Result Reply TraceKind
without_value r v = if not (length v == 0) then Err kind.Value else Ok r

-- The reply of a kind and a value field, or the fault Value.
abbrev pub value_in : ReplyKind → List ℕ → Result Reply TraceKind
value_in reply_kind.Began v = do
  number ← number_in max_u64 v
  Ok (reply.Began number)
value_in reply_kind.Granted v = do
  mode ← granted_in v
  Ok (reply.Granted mode)
value_in reply_kind.Waiting v = without_value reply.Waiting v
value_in reply_kind.Deadlock v = without_value reply.Deadlock v
value_in reply_kind.Clear v = without_value reply.Clear v
value_in reply_kind.Released v = without_value reply.Released v
value_in reply_kind.Committed v = do
  locks ← number_in max_u32 v
  Ok (reply.Committed locks)
value_in reply_kind.Aborted v = do
  locks ← number_in max_u32 v
  Ok (reply.Aborted locks)
value_in reply_kind.Refused v = do
  why ← why_in v
  Ok (reply.Refused why)
value_in reply_kind.Withdrawn v = without_value reply.Withdrawn v
value_in reply_kind.Restarted v = do
  locks ← number_in max_u32 v
  Ok (reply.Restarted locks)

-- The reply of a reply field and a value field, or the first fault.
abbrev pub reply_in : List ℕ → List ℕ → Result Reply TraceKind
reply_in w v = do
  word ← reply_kind_in w
  value_in word v

-- The entry of a trace row and a reply.
abbrev pub with_reply : TraceRow → Reply → Entry
with_reply row r = record { session = row.session; call = row.call; reply = r }

-- The entry of seven fields at a place of a history, or the first fault: place, session, op, resource, mode, reply (a word), value.
abbrev pub entry_in : ℕ → ℕ → List ℕ → List ℕ → List ℕ → List ℕ → List ℕ → List ℕ → List ℕ → Result Entry TraceKind
entry_in n place p s o r m w v = do
  here ← place_in place p
  row ← row_in n s o r m
  answer ← reply_in w v
  Ok (with_reply row answer)

-- The entry of a record at a place of a history, or the first fault. A record that does not have seven fields has
-- the fault Shape.
abbrev pub entry_of : ℕ → ℕ → List (List ℕ) → Result Entry TraceKind
entry_of n place [] = Err kind.Shape
entry_of n place (p ∷ []) = Err kind.Shape
entry_of n place (p ∷ s ∷ []) = Err kind.Shape
entry_of n place (p ∷ s ∷ o ∷ []) = Err kind.Shape
entry_of n place (p ∷ s ∷ o ∷ r ∷ []) = Err kind.Shape
entry_of n place (p ∷ s ∷ o ∷ r ∷ m ∷ []) = Err kind.Shape
entry_of n place (p ∷ s ∷ o ∷ r ∷ m ∷ w ∷ []) = Err kind.Shape
entry_of n place (p ∷ s ∷ o ∷ r ∷ m ∷ w ∷ v ∷ []) = entry_in n place p s o r m w v
entry_of n place (p ∷ s ∷ o ∷ r ∷ m ∷ w ∷ v ∷ x ∷ xs) = Err kind.Shape
