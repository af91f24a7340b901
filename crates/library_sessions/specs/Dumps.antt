-- A dump of the lock table in numbers, as the exports state it.
use Rattle.std.specs.Prelude.{◌≡◌, ℕ, List, ◌++◌, length, map}
use Rattle.lock_rules.specs.declared.calls.Transaction.{Transaction}
use Rattle.lock_rules.specs.State.{State}
use Rattle.lock_rules.specs.Listing.{listing_of}
use Rattle.lock_office.specs.Dump.{opens_of}
use Rattle.library_books.specs.declared.claims.ClaimNumbers.{ClaimNumbers}
use Rattle.library_books.specs.Calls.{are_written}
use Rattle.library_books.specs.Claims.{number_of_bool, numbers_of_claim}
use Rattle.library_books.specs.Numbers.{nowhere}

-- the row of a session with its open transaction: of kind 0, without a mode and a resource
abbrev pub numbers_of_open : ℕ × Transaction → ClaimNumbers
numbers_of_open o = record { session = o.0; kind = 0; mode = 0; doomed = number_of_bool o.1.doomed; transaction = o.1.number; resource = nowhere }

-- the rows of a dump: the open transactions of the sessions 1 to n, and then all locks and waiting requests
abbrev pub rows_dumped : ℕ → State → List ClaimNumbers
rows_dumped n st = map numbers_of_open (opens_of n st) ++ map numbers_of_claim (listing_of st)

-- the rows of a dump, as many as there is room for, and how many they are in all
abbrev pub IsDumped : ℕ → State → List ClaimNumbers → List ClaimNumbers → ℕ → Type 0
IsDumped n st places written count = (written ≡ are_written (λ row. row) (rows_dumped n st) places) × (count ≡ length (rows_dumped n st))
