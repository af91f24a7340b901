-- A row of a state, and its text without the line feed.
use Rattle.std.specs.Prelude.{◌≢◌, ◌<◌, ◌≤◌, ◌^◌, ℕ, Bool, if◌then◌else◌, ◌==◌, List, [], codes}
use Rattle.std.specs.List.{join_with_byte}
use Rattle.lock_modes.specs.declared.Mode.TheVariants as mode
use Rattle.lock_tree.specs.Paths.{IsResource}
use Rattle.lock_rules.specs.declared.calls.Transaction.{Transaction}
use Rattle.lock_rules.specs.declared.listing.Claim.{Claim}
use Rattle.lock_report.specs.declared.snapshot.FirstWait.{FirstWait}
use Rattle.lock_report.specs.declared.snapshot.OpenTransaction.{OpenTransaction}
use Rattle.lock_report.specs.declared.snapshot.WaitFor.{WaitFor}
use Rattle.lock_report.specs.StateRows.{fields_of_claim, fields_of_transaction, fields_of_wait}
use Rattle.lock_report.specs.declared.reading.row.StateRow.{StateRow}
use Rattle.lock_report.specs.declared.reading.row.StateRow.TheVariants as row

-- the session is one of the sessions 1 to n
abbrev pub IsSession : ℕ → ℕ → Type 0
IsSession n s = (0 < s) × (s ≤ n)

-- the transaction's number has 64 bits
abbrev pub IsNumbered : Transaction → Type 0
IsNumbered t = t.number < 2 ^ 64

-- the transaction is of one of the sessions 1 to n
abbrev pub IsOpen : ℕ → OpenTransaction → Type 0
IsOpen n o = IsSession n o.session × IsNumbered o.transaction

-- the lock or request is of one of the sessions 1 to n, its resource is valid, and its mode isn't NL
abbrev pub IsClaim : ℕ → Claim → Type 0
IsClaim n c = IsSession n c.session × IsNumbered c.transaction × IsResource c.resource × (c.mode ≢ mode.NL)

-- both sessions are of the sessions 1 to n
abbrev pub IsWait : ℕ → WaitFor → Type 0
IsWait n w = IsSession n w.session × IsSession n w.other

-- likewise, and the number of others has 64 bits
abbrev pub IsFirstWait : ℕ → FirstWait → Type 0
IsFirstWait n w = IsWait n w.wait × (w.others < 2 ^ 64)

-- the row is one for the sessions 1 to n
abbrev pub IsRow : ℕ → StateRow → Type 0
IsRow n (row.Transaction o) = IsOpen n o
IsRow n (row.Claim c) = IsClaim n c
IsRow n (row.Wait w) = IsFirstWait n w

-- the victim field of a transaction: `victim`, or empty
abbrev pub victim_text : Bool → List ℕ
victim_text doomed = if doomed then codes "victim" else []

-- the seven fields of a row
abbrev pub fields_of_row : StateRow → List (List ℕ)
fields_of_row (row.Transaction o) = fields_of_transaction o
fields_of_row (row.Claim c) = fields_of_claim c
fields_of_row (row.Wait w) = fields_of_wait w

-- the byte is a comma
abbrev pub is_comma : ℕ → Bool
is_comma b = b == 44

-- the line of a row, without its line feed
abbrev pub line_of_row : StateRow → List ℕ
line_of_row r = join_with_byte 44 (fields_of_row r)
