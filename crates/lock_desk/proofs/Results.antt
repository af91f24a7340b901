-- From one clause of a result to another.
use Rattle.std.proofs.Common.{Result, Ok, Err, OnOk}
pub use Rattle.lock_table.proofs.Results.{on-err-from}

-- a fact of a success gives one that follows from it
pub to-ok : {T E : Type 0} (r : Result T E) (P Q : Type 0) → OnOk r P → (P → Q) → OnOk r Q
to-ok (Ok x) P Q h f = f h
to-ok (Err e) P Q h f = tt
