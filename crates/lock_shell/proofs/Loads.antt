-- What was read of a file with a trace.
use Rattle.std.proofs.Common.{◌≡◌, ◌∙◌, ◌<◌, ℕ, List, length, Result, Ok, inl, inr, sym, ap, subst}
use Rattle.std.specs.Prelude.{All, IfOk}
use Rattle.std.specs.Global.{Vec}
use Rattle.std.proofs.lemmas.Result.{IfOk-weaker}
use Rattle.lock_trace.specs.declared.faults.TraceFault.{TraceFault}
use Rattle.lock_trace.specs.declared.trace_row.TraceRow.{TraceRow}
use Rattle.lock_trace.specs.Rows.{IsRow}
use Rattle.lock_trace.specs.Traces.{Tells, trace_of}
use Rattle.lock_shell.specs.declared.files.Loaded.{Loaded}
use Rattle.lock_shell.specs.declared.files.Loaded.TheVariants as loaded
use Rattle.lock_shell.specs.Turns.{HasLoaded, IsLoaded, Kept}
use Rattle.lock_shell.specs.inner.Asked.{AreLoaded, AreRead, IsFound, IsNotRead}

-- `Ok` with the type of a fault
abbrev read : List TraceRow → Result (List TraceRow) TraceFault
read rows = Ok rows

-- rows that were found are rows, or there are none
pub found_loaded : (n : ℕ) (rows : List TraceRow) (x : Loaded) → All (IsRow n) rows → IsFound rows x → AreLoaded n x
found_loaded n rows (loaded.Rows found) all (same, some) =
    (subst (λ (rs : List TraceRow). 0 < length rs) (sym same) some, subst (All (IsRow n)) (sym same) all)
found_loaded n rows (loaded.Failed line) all (none, is) = inr (inl is)

-- they are what the bytes are read as
pub found_read : (n : ℕ) (bytes : List ℕ) (rows : List TraceRow) (x : Loaded) → trace_of n bytes ≡ Ok rows → IsFound rows x → AreRead n bytes x
found_read n bytes rows (loaded.Rows found) is (same, some) = is ∙ ap read (sym same)
found_read n bytes rows (loaded.Failed line) is (none, told) = inl (is ∙ ap read none, told)

-- a row that can't be read is told
pub not_read_loaded : (n : ℕ) (fault : TraceFault) (x : Loaded) → 0 < fault.row → IsNotRead fault x → AreLoaded n x
not_read_loaded n fault (loaded.Rows found) some k = absurd k
not_read_loaded n fault (loaded.Failed line) some k = inr (inr (fault, (some, k)))

-- it is the first one of these bytes
pub not_read_read : (n : ℕ) (bytes : List ℕ) (fault : TraceFault) (x : Loaded) → Tells n bytes fault → IsNotRead fault x → AreRead n bytes x
not_read_read n bytes fault (loaded.Rows found) tells k = absurd k
not_read_read n bytes fault (loaded.Failed line) tells k = inr (fault, (tells, k))
