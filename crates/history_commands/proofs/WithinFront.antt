-- The sessions of the first of some valid entries are those of the lock table.
use Rattle.std.proofs.Common.{ℕ, List, take, arith}
use Rattle.std.specs.List.{All}
use Rattle.std.proofs.lemmas.List.Elements.{All-take}
use Rattle.sequential.specs.Histories.{IsEntryWithin}
use Rattle.lock_rules.specs.Entries.{Entry}
use Rattle.lock_trace.specs.Entries.{IsEntry}

-- each of the first entries is of one of the sessions 1 to n
pub within_front : (n k : ℕ) (es : List Entry) → All (IsEntry n) es → All (IsEntryWithin n) (take k es)
within_front n k es are = λ i d lt. let e = All-take (IsEntry n) k es are i d lt in record { some = omega (arith, e.first); within = e.last }
