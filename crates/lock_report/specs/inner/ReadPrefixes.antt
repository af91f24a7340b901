-- The rows of the first lines of a text.
use Rattle.std.specs.Prelude.{◌≡◌, ℕ, true, ◌==◌, List, map}
use Rattle.std.specs.List.{AllByRecursion, list_any}
use Rattle.lock_report.specs.declared.reading.state.Reading.{Reading}
use Rattle.lock_report.specs.declared.reading.row.StateRow.{StateRow}
use Rattle.lock_report.specs.ReadRows.{IsRow, line_of_row}
use Rattle.lock_report.specs.ReadStates.{has_request, has_transaction}

-- these valid rows have these lines, and no other valid rows have
pub record AreOnlyRows (n : ℕ) (lines : List (List ℕ)) (rows : List StateRow) : Type 0 where
  pub valid : AllByRecursion (IsRow n) rows
  pub lines_are : map line_of_row rows ≡ lines
  pub only : (others : List StateRow) → AllByRecursion (IsRow n) others → map line_of_row others ≡ lines → others ≡ rows

-- the sets have the sessions of the open transactions and of the requests; each lock and request is of one of the first, each wait of one of
-- the second
pub record IsKept (r : Reading) : Type 0 where
  pub opening : (s : ℕ) → list_any (λ k. s == k) r.opening.keys ≡ has_transaction r.lists.opens.items s
  pub opened : AllByRecursion (λ c. has_transaction r.lists.opens.items c.session ≡ true) r.lists.claims.items
  pub asking : (s : ℕ) → list_any (λ k. s == k) r.asking.keys ≡ has_request r.lists.claims.items s
  pub requested : AllByRecursion (λ w. has_request r.lists.claims.items w.wait.session ≡ true) r.lists.waits.items
