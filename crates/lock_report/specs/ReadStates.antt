-- The rows of a state as they are read: in their order, line by line, each lock and request of a session that has an open transaction, each
-- wait of one that has a request.
use Rattle.std.specs.Prelude.{◌≡◌, ◌≢◌, ◌<◌, ◌≤◌, ◌+◌, ◌-◌, ◌⊎◌, ◌&&◌, ℕ, Bool, true, ◌==◌, List, [], ◌∷◌, ◌++◌, length, map, take, All}
use Rattle.std.specs.List.{list_any, slice_split}
use Rattle.lock_rules.specs.declared.listing.Claim.{Claim}
use Rattle.lock_report.specs.declared.snapshot.FirstWait.{FirstWait}
use Rattle.lock_report.specs.declared.snapshot.OpenTransaction.{OpenTransaction}
use Rattle.lock_report.specs.Claims.{is_request_kind}
use Rattle.lock_report.specs.StateRows.{rows_of_state}
use Rattle.lock_report.specs.declared.reading.state.StateLists.{StateLists}
use Rattle.lock_report.specs.declared.reading.row.StateRow.{StateRow}
use Rattle.lock_report.specs.declared.reading.row.StateRow.TheVariants as row
use Rattle.lock_report.specs.ReadRows.{IsRow, line_of_row}

-- the rows of a state in their order: its open transactions, then its locks and requests, then its waits
abbrev pub rows_in : List OpenTransaction → List Claim → List FirstWait → List StateRow
rows_in opens claims waits = map row.Transaction opens ++ (map row.Claim claims ++ map row.Wait waits)

-- the rows of these lists
abbrev pub rows_of : StateLists → List StateRow
rows_of lists = rows_in lists.opens.items lists.claims.items lists.waits.items

-- session s has a waiting request among the claims
abbrev pub has_request : List Claim → ℕ → Bool
has_request claims s = list_any (λ c. is_request_kind c.kind && (c.session == s)) claims

-- session s has an open transaction among these
abbrev pub has_transaction : List OpenTransaction → ℕ → Bool
has_transaction opens s = list_any (λ o. o.session == s) opens

-- each lock and request is of a session that has an open transaction, and each wait of one that has a request
pub record AreOwned (opens : List OpenTransaction) (claims : List Claim) (waits : List FirstWait) : Type 0 where
  pub opened : All (λ c. has_transaction opens c.session ≡ true) claims
  pub requested : All (λ w. has_request claims w.wait.session ≡ true) waits

-- as far as it is tested, these are the lists of a state of the sessions 1 to n
pub record IsState (n : ℕ) (opens : List OpenTransaction) (claims : List Claim) (waits : List FirstWait) : Type 0 where
  pub rows : All (IsRow n) (rows_in opens claims waits)
  pub owned : AreOwned opens claims waits

-- as far as it is tested, the lists are those of a state of the sessions 1 to n
abbrev pub AreLists : ℕ → StateLists → Type 0
AreLists n lists = IsState n lists.opens.items lists.claims.items lists.waits.items

-- the text of these lists
abbrev pub text_of : StateLists → List ℕ
text_of lists = rows_of_state lists.opens.items lists.claims.items lists.waits.items

-- the text isn't the rows of any state of the sessions 1 to n
abbrev pub IsNoState : ℕ → List ℕ → Type 0
IsNoState n text = (opens : List OpenTransaction) (claims : List Claim) (waits : List FirstWait) → IsState n opens claims waits → text ≢ rows_of_state opens claims waits

-- the byte is a line feed
abbrev pub is_line_feed : ℕ → Bool
is_line_feed b = b == 10

-- the lines of a text, without their line feeds; the last is what is behind the last line feed
abbrev pub lines_of : List ℕ → List (List ℕ)
lines_of text = slice_split is_line_feed text

-- the lines are those of the rows of a state
abbrev pub AreLinesOfState : ℕ → List (List ℕ) → Type 0
AreLinesOfState n lines =
    (opens : List OpenTransaction) × (claims : List Claim) × (waits : List FirstWait) × (IsState n opens claims waits × (map line_of_row (rows_in opens claims waits) ≡ lines))

-- the rows of no state begin with these lines
abbrev pub BeginNoState : ℕ → List (List ℕ) → Type 0
BeginNoState n lines = (opens : List OpenTransaction) (claims : List Claim) (waits : List FirstWait) (rest : List (List ℕ)) → IsState n opens claims waits
    → map line_of_row (rows_in opens claims waits) ≢ lines ++ rest

-- the row can't come behind these rows in any state
abbrev pub IsLate : StateRow → List StateRow → Type 0
IsLate r rows = (opens : List OpenTransaction) (claims : List Claim) (waits : List FirstWait) (rest : List StateRow) → AreOwned opens claims waits → rows ++ r ∷ rest ≢ rows_in opens claims waits

-- line number k, counted from 1, is the first with which these lines aren't the beginning of the rows of any state
pub record IsFirstBad (n : ℕ) (lines : List (List ℕ)) (k : ℕ) : Type 0 where
  pub some : 0 < k
  pub within : k ≤ length lines
  pub front : AreLinesOfState n (take (k - 1) lines)
  pub bad : BeginNoState n (take k lines)

-- what is behind the last line feed isn't empty, and the lines before it are the rows of a state
pub record IsOpenEnd (n : ℕ) (text : List ℕ) (k : ℕ) : Type 0 where
  pub front : List (List ℕ)
  pub last : List ℕ
  pub lines : lines_of text ≡ front ++ last ∷ []
  pub number : k ≡ length front + 1
  pub rows : AreLinesOfState n front
  pub unended : last ≢ []

-- line number k of a text is at fault
abbrev pub IsFaulty : ℕ → List ℕ → ℕ → Type 0
IsFaulty n text k = IsFirstBad n (lines_of text) k ⊎ IsOpenEnd n text k
