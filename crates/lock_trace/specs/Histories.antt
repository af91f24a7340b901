-- The text of a history.
use Rattle.std.specs.Prelude.{ℕ, ◌<◌, ◌^◌, List, [], ◌∷◌, ◌++◌, All, decimal}
use Rattle.lock_modes.specs.Codes.{name_of}
use Rattle.lock_rules.specs.declared.calls.Reply.{Reply}
use Rattle.lock_rules.specs.declared.calls.Reply.TheVariants as reply
use Rattle.lock_rules.specs.Entries.{Entry}
use Rattle.lock_rules.specs.Names.{name_of_why}
use Rattle.lock_rules.specs.Kinds.{kind_of_reply, word_of_reply}
use Rattle.lock_trace.specs.declared.trace_row.TraceRow.{TraceRow}
use Rattle.lock_trace.specs.Rows.{HasResources, fields_of_row}
use Rattle.lock_trace.specs.Files.{fields_from}

-- The value of a reply: a transaction number, a mode, a count of locks, a reason of a refusal, or the empty field.
abbrev pub value_field : Reply → List ℕ
value_field (reply.Began n) = decimal n
value_field (reply.Granted m) = name_of m
value_field reply.Waiting = []
value_field reply.Deadlock = []
value_field reply.Clear = []
value_field reply.Released = []
value_field (reply.Committed n) = decimal n
value_field (reply.Aborted n) = decimal n
value_field (reply.Refused w) = name_of_why w
value_field reply.Withdrawn = []
value_field (reply.Restarted n) = decimal n

-- The fields of a reply: its word and its value.
abbrev pub fields_of_reply : Reply → List (List ℕ)
fields_of_reply r = word_of_reply (kind_of_reply r) ∷ value_field r ∷ []

-- The trace row of an entry: its session and its call.
abbrev pub row_of_entry : Entry → TraceRow
row_of_entry e = record { session = e.session; call = e.call }

-- The seven fields of an entry at a place: the place, the trace row and the reply.
abbrev pub fields_of_entry : ℕ → Entry → List (List ℕ)
fields_of_entry place e = decimal place ∷ (fields_of_row (row_of_entry e) ++ fields_of_reply e.reply)

-- The records of a history: the fields of each entry, in order.
abbrev pub records_of_history : List Entry → List (List (List ℕ))
records_of_history es = fields_from fields_of_entry 0 es

-- The fields with a comma before each.
unfoldable pub after_commas : List (List ℕ) → List ℕ
after_commas [] = []
after_commas (f ∷ fs) = 44 ∷ (f ++ after_commas fs)

-- The fields joined by commas, and a line feed.
abbrev pub line_of : List (List ℕ) → List ℕ
line_of [] = 10 ∷ []
line_of (f ∷ fs) = f ++ (after_commas fs ++ 10 ∷ [])

-- The lines of some records.
abbrev pub lines_of : List (List (List ℕ)) → List ℕ
lines_of [] = []
lines_of (r ∷ rs) = line_of r ++ lines_of rs

-- The text of a history.
abbrev pub text_of_history : List Entry → List ℕ
text_of_history es = lines_of (records_of_history es)

-- The text of a piece of a history, whose first entry is at this place.
abbrev pub text_of_piece : ℕ → List Entry → List ℕ
text_of_piece first es = lines_of (fields_from fields_of_entry first es)

-- The numbers of a reply fit in 64 bits.
abbrev pub ReplyFits : Reply → Type 0
ReplyFits (reply.Began n) = n < 2 ^ 64
ReplyFits (reply.Granted m) = Unit {0}
ReplyFits reply.Waiting = Unit {0}
ReplyFits reply.Deadlock = Unit {0}
ReplyFits reply.Clear = Unit {0}
ReplyFits reply.Released = Unit {0}
ReplyFits (reply.Committed n) = n < 2 ^ 64
ReplyFits (reply.Aborted n) = n < 2 ^ 64
ReplyFits (reply.Refused w) = Unit {0}
ReplyFits reply.Withdrawn = Unit {0}
ReplyFits (reply.Restarted n) = n < 2 ^ 64

-- The numbers of an entry fit in 64 bits, and its call names only valid resources.
pub record EntryFits (e : Entry) : Type 0 where
  pub session : e.session < 2 ^ 64
  pub resources : HasResources e.call
  pub reply : ReplyFits e.reply

-- All entries fit.
abbrev pub AllFit : List Entry → Type 0
AllFit es = All EntryFits es
