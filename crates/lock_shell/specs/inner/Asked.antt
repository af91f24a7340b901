-- What a line asks for, and what is loaded, is of the sessions of the shell.
use Rattle.std.specs.Prelude.{◌≡◌, ◌⊎◌, ◌<◌, ◌≤◌, ℕ, List, [], length, All, Ok, string_bytes}
use Rattle.lock_trace.specs.declared.faults.TraceFault.{TraceFault}
use Rattle.lock_trace.specs.declared.trace_row.TraceRow.{TraceRow}
use Rattle.lock_trace.specs.Rows.{IsRow}
use Rattle.lock_trace.specs.Traces.{Tells, trace_of}
use Rattle.lock_shell.specs.declared.files.Loaded.{Loaded}
use Rattle.lock_shell.specs.declared.files.Loaded.TheVariants as loaded
use Rattle.lock_shell.specs.declared.line.Asked.{Asked}
use Rattle.lock_shell.specs.declared.line.Asked.TheVariants as asked
use Rattle.lock_shell.specs.declared.texts.TheConstants.{NO_CALLS}
use Rattle.lock_shell.specs.Texts.{IsNotLoaded, text_of_bad_row}

-- the session is one of 1 to n
pub record IsSession (n s : ℕ) : Type 0 where
  pub some : 1 ≤ s
  pub within : s ≤ n

-- what is asked for is of one of the sessions 1 to n, if it is of a session
abbrev pub IsAsked : ℕ → Asked → Type 0
IsAsked n asked.Nothing = Unit {0}
IsAsked n (asked.Call row) = IsSession n row.session
IsAsked n (asked.Path s r m) = IsSession n s
IsAsked n asked.Show = Unit {0}
IsAsked n (asked.Why s) = IsSession n s
IsAsked n asked.Undo = Unit {0}
IsAsked n (asked.Save path) = Unit {0}
IsAsked n (asked.Load path) = Unit {0}
IsAsked n asked.Help = Unit {0}
IsAsked n asked.Quit = Unit {0}
IsAsked n (asked.Unreadable why) = Unit {0}

-- what was read is these rows, or that there are none
abbrev pub IsFound : List TraceRow → Loaded → Type 0
IsFound rows (loaded.Rows found) = (found.items ≡ rows) × (0 < length rows)
IsFound rows (loaded.Failed line) = (rows ≡ []) × (string_bytes line ≡ NO_CALLS.now)

-- what was read is that a row can't be read
abbrev pub IsNotRead : TraceFault → Loaded → Type 0
IsNotRead fault (loaded.Rows found) = ⊥
IsNotRead fault (loaded.Failed line) = string_bytes line ≡ text_of_bad_row fault

-- what was read is rows of the sessions 1 to n, or why there are none
abbrev pub AreLoaded : ℕ → Loaded → Type 0
AreLoaded n (loaded.Rows rows) = (0 < length rows.items) × All (IsRow n) rows.items
AreLoaded n (loaded.Failed line) = IsNotLoaded (string_bytes line)

-- what was read is the rows that the bytes are for n sessions, or that there are none, or the first row that can't be read
abbrev pub AreRead : ℕ → List ℕ → Loaded → Type 0
AreRead n bytes (loaded.Rows rows) = trace_of n bytes ≡ Ok rows.items
AreRead n bytes (loaded.Failed line) =
    ((trace_of n bytes ≡ Ok []) × (string_bytes line ≡ NO_CALLS.now))
    ⊎ ((fault : TraceFault) × (Tells n bytes fault × (string_bytes line ≡ text_of_bad_row fault)))
