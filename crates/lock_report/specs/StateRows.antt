-- The state of a lock table as CSV rows of seven fields: row, session, transaction, victim, resource, mode, other. The format
-- is this project's own choice.
use Rattle.std.specs.Prelude.{ℕ, if◌then◌else◌, ◌==◌, List, [], ◌∷◌, ◌++◌, codes, decimal}
use Rattle.std.specs.List.{flat_map, join_with_byte}
use Rattle.lock_modes.specs.Codes.{name_of}
use Rattle.lock_tree.specs.Text.{text_of}
use Rattle.lock_rules.specs.declared.calls.Transaction.{Transaction}
use Rattle.lock_rules.specs.declared.listing.Claim.{Claim}
use Rattle.lock_report.specs.Claims.{word_of_kind}
use Rattle.lock_report.specs.declared.snapshot.FirstWait.{FirstWait}
use Rattle.lock_report.specs.declared.snapshot.OpenTransaction.{OpenTransaction}

-- the victim field: `victim`, or empty
abbrev pub victim_field : Transaction → List ℕ
victim_field t = if t.doomed then codes "victim" else []

-- the fields of an open transaction
abbrev pub fields_of_transaction : OpenTransaction → List (List ℕ)
fields_of_transaction o =
    codes "transaction" ∷ decimal o.session ∷ decimal o.transaction.number ∷ victim_field o.transaction
    ∷ [] ∷ [] ∷ [] ∷ []

-- the fields of a claim
abbrev pub fields_of_claim : Claim → List (List ℕ)
fields_of_claim c =
    word_of_kind c.kind ∷ decimal c.session ∷ decimal c.transaction.number ∷ victim_field c.transaction
    ∷ text_of c.resource ∷ name_of c.mode ∷ [] ∷ []

-- for how many others a session waits, behind its first blocker: nothing for none, else `+` and the number
abbrev pub others_text : ℕ → List ℕ
others_text n = if n == 0 then [] else 43 ∷ decimal n

-- the fields of the waits of a session
abbrev pub fields_of_wait : FirstWait → List (List ℕ)
fields_of_wait w = codes "waits" ∷ decimal w.wait.session ∷ [] ∷ [] ∷ [] ∷ [] ∷ (decimal w.wait.other ++ others_text w.others) ∷ []

-- the fields joined by commas, and a line feed
abbrev pub row_of_fields : List (List ℕ) → List ℕ
row_of_fields fields = join_with_byte 44 fields ++ 10 ∷ []

-- the row of an open transaction
abbrev pub row_of_transaction : OpenTransaction → List ℕ
row_of_transaction o = row_of_fields (fields_of_transaction o)

-- the row of a claim
abbrev pub row_of_claim : Claim → List ℕ
row_of_claim c = row_of_fields (fields_of_claim c)

-- the row of the waits of a session
abbrev pub row_of_wait : FirstWait → List ℕ
row_of_wait w = row_of_fields (fields_of_wait w)

-- the rows of the open transactions, of the claims in the order of a listing, and of the waits of each session
abbrev pub rows_of_state : List OpenTransaction → List Claim → List FirstWait → List ℕ
rows_of_state opens claims waits =
    flat_map row_of_transaction opens ++ flat_map row_of_claim claims ++ flat_map row_of_wait waits
