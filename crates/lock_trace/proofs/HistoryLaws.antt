-- A history is read as entries exactly if its records are the fields of these entries, and a written history is
-- read back.
use Rattle.std.proofs.Common.{◌≡◌, ◌↔◌, ℕ, ◌<◌, ◌^◌, List, [], ◌∷◌, length, Ok, Err, refl, arith}
use Rattle.std.specs.List.{All, AllByRecursion}
use Rattle.std.proofs.lemmas.List.Elements.{All-from_recursion, recursion_from_All}
use Rattle.lock_rules.specs.declared.calls.Reply.{Reply}
use Rattle.lock_rules.specs.declared.calls.Reply.TheVariants as reply
use Rattle.lock_rules.specs.Entries.{Entry}
use Rattle.lock_trace.specs.declared.faults.TraceFault.{TraceFault}
use Rattle.lock_trace.specs.Entries.{IsReply, IsEntry, entry_of}
use Rattle.lock_trace.specs.Tests.{tests_of_entry}
use Rattle.lock_trace.specs.Records.{records_of}
use Rattle.lock_trace.specs.inner.Reading.{IsFormat}
use Rattle.lock_trace.specs.Histories.{fields_of_entry, records_of_history, text_of_history, ReplyFits, EntryFits}
use Rattle.lock_trace.specs.ReadHistories.{history_of, IsFirstBadEntry}
use Rattle.lock_trace.proofs.EntryLaws.{entry_iff}
use Rattle.lock_trace.proofs.EntryTests.{entry_fault_iff}
use Rattle.lock_trace.proofs.FileLaws.{file_rows, file_fault}
use Rattle.lock_trace.proofs.ReadBack.{history_back}

-- Entries are a format: each is read from exactly its fields at its place.
pub history_format : (n : ℕ) → n < 2 ^ 16 → IsFormat (IsEntry n) records_of_history fields_of_entry (entry_of n)
history_format n lt = record { records = λ rows. refl; reads = λ place e fields. entry_iff n place e fields lt }

-- A history is read as entries exactly if the entries are valid and its records are their fields.
pub history_rows : (n : ℕ) (bytes : List ℕ) (entries : List Entry) → n < 2 ^ 16 → (history_of n bytes ≡ Ok entries) ↔ (All (IsEntry n) entries × (records_of bytes ≡ records_of_history entries))
history_rows n bytes entries lt = file_rows (history_format n lt) (records_of bytes) entries

-- A history is read as a fault exactly if the fault names the first record that is no entry of its place.
pub history_fault : (n : ℕ) (bytes : List ℕ) (fault : TraceFault) → n < 2 ^ 16 → (history_of n bytes ≡ Err fault) ↔ IsFirstBadEntry n (records_of bytes) fault
history_fault n bytes fault lt = file_fault (history_format n lt) (tests_of_entry n) (entry_fault_iff n) (records_of bytes) fault

-- A reply whose numbers are in range fits in 64 bits.
reply_fits : (r : Reply) → IsReply r → ReplyFits r
reply_fits (reply.Began n) is = is
reply_fits (reply.Granted m) is = tt
reply_fits reply.Waiting is = tt
reply_fits reply.Deadlock is = tt
reply_fits reply.Clear is = tt
reply_fits reply.Released is = tt
reply_fits reply.Withdrawn is = tt
reply_fits (reply.Committed n) is = omega (arith, is)
reply_fits (reply.Aborted n) is = omega (arith, is)
reply_fits (reply.Restarted n) is = omega (arith, is)
reply_fits (reply.Refused w) is = tt

-- Valid entries fit in 64 bits.
fits : (n : ℕ) → n < 2 ^ 16 → (es : List Entry) → AllByRecursion (IsEntry n) es → AllByRecursion EntryFits es
fits n lt [] are = tt
fits n lt (e ∷ es) are = (record { session = omega (arith, lt, are.0.last); resources = are.0.resources; reply = reply_fits e.reply are.0.reply }, fits n lt es are.1)

-- The text of a history of valid entries is read as that history.
pub read_back : (n : ℕ) (es : List Entry) → n < 2 ^ 16 → length es < 2 ^ 64 → All (IsEntry n) es → history_of n (text_of_history es) ≡ Ok es
read_back n es lt few are = (history_rows n (text_of_history es) es lt).1 (are, history_back es few (All-from_recursion EntryFits es (fits n lt es (recursion_from_All (IsEntry n) es are))))
