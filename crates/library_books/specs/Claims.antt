-- Transactions, locks and waiting requests as the numbers of C's structs.
use Rattle.std.specs.Prelude.{ℕ, Bool, if◌then◌else◌, Option, Some, None}
use Rattle.lock_modes.specs.Codes.{code_of}
use Rattle.lock_rules.specs.declared.calls.Transaction.{Transaction}
use Rattle.lock_rules.specs.declared.listing.Claim.{Claim}
use Rattle.lock_rules.specs.declared.listing.ClaimKind.{ClaimKind}
use Rattle.lock_rules.specs.declared.listing.ClaimKind.TheVariants.{Held, Conversion, Fresh}
use Rattle.library_books.specs.declared.claims.TransactionNumbers.{TransactionNumbers}
use Rattle.library_books.specs.declared.claims.ClaimNumbers.{ClaimNumbers}
use Rattle.library_books.specs.Numbers.{nowhere, place_of}

-- the number of a kind of claims
abbrev pub number_of_kind : ClaimKind → ℕ
number_of_kind Held = 1
number_of_kind Conversion = 2
number_of_kind Fresh = 3

-- 1 for true, 0 for false
abbrev pub number_of_bool : Bool → ℕ
number_of_bool b = if b then 1 else 0

-- the numbers of a session's open transaction; 0 if it has none
abbrev pub numbers_of_transaction : Option Transaction → TransactionNumbers
numbers_of_transaction None = record { number = 0; doomed = 0 }
numbers_of_transaction (Some x) = record { number = x.number; doomed = number_of_bool x.doomed }

-- the numbers of a line of a listing
abbrev pub numbers_of_claim : Claim → ClaimNumbers
numbers_of_claim c = record {
  session = c.session;
  kind = number_of_kind c.kind;
  mode = code_of c.mode;
  doomed = number_of_bool c.transaction.doomed;
  transaction = c.transaction.number;
  resource = place_of c.resource;
}

-- the numbers of a session's waiting request; 0 if it has none
abbrev pub numbers_of_request : Option Claim → ClaimNumbers
numbers_of_request None = record { session = 0; kind = 0; mode = 0; doomed = 0; transaction = 0; resource = nowhere }
numbers_of_request (Some c) = numbers_of_claim c
