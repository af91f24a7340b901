-- What `show --state` writes: a dump in a form of `show`.
use Rattle.std.specs.Prelude.{◌≡◌, ◌≢◌, ◌+◌, ◌⊎◌, ℕ, List, [], length, take, Option, None, Result, Ok, Err}
use Rattle.std.specs.Io.KnownBytes.{Appends}
use Rattle.lock_report.specs.declared.reading.state.StateLists.{StateLists}
use Rattle.lock_report.specs.ReadStates.{AreLists, IsFaulty, IsNoState, text_of}
use Rattle.lock_report.specs.Blockers.{requests_among}
use Rattle.lock_report.specs.Blocking.{rows_of_waits, waits_among}
use Rattle.command_line.specs.declared.args.Form.{Form}
use Rattle.replay_commands.specs.Written.{AppendsPart}
use Rattle.history_commands.specs.Forms.{form_of_lists}
use Rattle.history_commands.specs.declared.dump_fault.DumpFault.{DumpFault}
use Rattle.history_commands.specs.declared.dump_fault.DumpFault.TheVariants as fault

-- the lists are those of a dump of the sessions 1 to n: its rows of waits are those that follow from the locks and requests
abbrev pub IsDump : ℕ → StateLists → Type 0
IsDump n l = AreLists n l × (l.waits.items ≡ rows_of_waits n l.opens.items l.claims.items)

-- row number k of a dump, counted from 1, is the first row of waits that doesn't follow, or that is missing
pub record IsMistold (n : ℕ) (l : StateLists) (k : ℕ) : Type 0 where
  pub before : ℕ
  pub number : k ≡ length l.opens.items + length l.claims.items + before + 1
  pub alike : take before l.waits.items ≡ take before (rows_of_waits n l.opens.items l.claims.items)
  pub differ : take (before + 1) l.waits.items ≢ take (before + 1) (rows_of_waits n l.opens.items l.claims.items)

-- the text of a dump of the sessions 1 to n in this form: that of its lists and of who waits for whom, of which no place is known
abbrev pub text_of_dump : Form → ℕ → StateLists → List ℕ
text_of_dump form n l =
    form_of_lists form (record { sessions = n; place = None; waiting = length (requests_among l.claims.items) }) [] l.opens.items l.claims.items (waits_among n l.opens.items l.claims.items)

-- for some dump of the sessions 1 to n, the output grew by its text in this form, and by nothing else
abbrev pub HasDump : Form → ℕ → Option (List ℕ) → Option (List ℕ) → Type 0
HasDump form n old new = (lists : StateLists) × (IsDump n lists × Appends old new (text_of_dump form n lists))

-- for some dump of the sessions 1 to n, the output grew by the first bytes of its text in this form, and by nothing else
abbrev pub HasDumpPart : Form → ℕ → Option (List ℕ) → Option (List ℕ) → Type 0
HasDumpPart form n old new = (lists : StateLists) × (IsDump n lists × AppendsPart old new (text_of_dump form n lists))

-- row number k of the text is at fault
abbrev pub IsRefused : ℕ → List ℕ → ℕ → Type 0
IsRefused n bytes k = (IsNoState n bytes × IsFaulty n bytes k) ⊎ ((lists : StateLists) × ((bytes ≡ text_of lists) × AreLists n lists × IsMistold n lists k))

-- the result of reading the rows of the sessions 1 to n that these bytes are
abbrev pub ReadsDump : ℕ → List ℕ → Result StateLists DumpFault → Type 0
ReadsDump n bytes (Ok lists) = (bytes ≡ text_of lists) × AreLists n lists
ReadsDump n bytes (Err (fault.Row k)) = IsNoState n bytes × IsFaulty n bytes k
ReadsDump n bytes (Err fault.NoMemory) = Unit {0}
ReadsDump n bytes (Err fault.Unread) = Unit {0}
ReadsDump n bytes (Err fault.Device) = ⊥

-- the result of showing the dump that these bytes are; the output holds `old` before and `new` after
abbrev pub ShowsDump : {X : Type 0} → Form → ℕ → List ℕ → Option (List ℕ) → Option (List ℕ) → Result X DumpFault → Type 0
ShowsDump form n bytes old new (Ok _) = (lists : StateLists) × ((bytes ≡ text_of lists) × IsDump n lists × Appends old new (text_of_dump form n lists))
ShowsDump form n bytes old new (Err (fault.Row k)) = IsRefused n bytes k
ShowsDump form n bytes old new (Err fault.NoMemory) = Unit {0}
ShowsDump form n bytes old new (Err fault.Unread) = Unit {0}
ShowsDump form n bytes old new (Err fault.Device) =
    (lists : StateLists) × ((bytes ≡ text_of lists) × IsDump n lists × AppendsPart old new (text_of_dump form n lists))
