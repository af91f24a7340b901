-- The rows of the first lines.
use Rattle.std.proofs.Common.{◌≡◌, ◌↔◌, ℕ, ◌+◌, ◌-◌, ◌<◌, ◌≤◌, List, [], ◌∷◌, ◌++◌, length, map, take, get_or, true, Some, None, refl, sym, ap, ◌∙◌, arith, subst, append_assoc, Bor}
use Rattle.std.specs.Prelude.{◌==◌}
use Rattle.std.specs.List.{AllByRecursion, list_any}
use Rattle.std.proofs.lemmas.List.{map-append, get_or-map, length-map, take_all}
use Rattle.std.proofs.lemmas.List.Elements.{All-from_recursion, recursion_from_All}
use Rattle.lock_rules.specs.declared.listing.Claim.{Claim}
use Rattle.lock_report.proofs.Pieces.{with_next}
use Rattle.lock_report.specs.declared.snapshot.OpenTransaction.{OpenTransaction}
use Rattle.lock_report.specs.declared.snapshot.FirstWait.{FirstWait}
use Rattle.lock_report.specs.declared.reading.row.StateRow.{StateRow}
use Rattle.lock_report.specs.ReadRows.{IsRow, line_of_row}
use Rattle.lock_report.specs.inner.ReadPrefixes.{AreOnlyRows, IsKept}
use Rattle.lock_report.specs.declared.reading.state.Reading.{Reading}
use Rattle.lock_report.specs.ReadStates.{rows_in, rows_of, has_request, has_transaction, AreLists, AreLinesOfState, BeginNoState, IsFirstBad, IsLate}

-- No rows have no lines.
no-others : (others : List StateRow) → map line_of_row others ≡ [] → others ≡ []
no-others [] e = refl
no-others (r ∷ rs) e = absurd cc

pub none-at-first : (n : ℕ) (os : List OpenTransaction) (cs : List Claim) (ws : List FirstWait) → os ≡ [] → cs ≡ [] → ws ≡ [] → AreOnlyRows n [] (rows_in os cs ws)
none-at-first n os cs ws o c w =
    let none : rows_in os cs ws ≡ [] = λ i. rows_in (o i) (c i) (w i) in
    subst (AreOnlyRows n []) (sym none) (record { valid = tt; lines_are = refl; only = λ others valid is. no-others others is })

-- Nothing is kept of no rows.
pub kept-at-first : (r : Reading) → r.opening.keys ≡ [] → r.asking.keys ≡ [] → r.lists.opens.items ≡ [] → r.lists.claims.items ≡ [] → r.lists.waits.items ≡ [] → IsKept r
kept-at-first r begun keys opens claims waits = record {
  opening = λ s. ap (list_any (λ k. s == k)) begun ∙ sym (ap (λ (os : List OpenTransaction). has_transaction os s) opens);
  opened = subst (AllByRecursion (λ (c : Claim). has_transaction r.lists.opens.items c.session ≡ true)) (sym claims) tt;
  asking = λ s. ap (list_any (λ k. s == k)) keys ∙ sym (ap (λ (cs : List Claim). has_request cs s) claims);
  requested = subst (AllByRecursion (λ (w : FirstWait). has_request r.lists.claims.items w.wait.session ≡ true)) (sym waits) tt;
}

-- Rows whose lines are some lines, one more and others: they are rows of each part.
record AreParted (n : ℕ) (xs : List (List ℕ)) (y : List ℕ) (zs : List (List ℕ)) (rows : List StateRow) : Type 0 where
  front : List StateRow
  one : StateRow
  back : List StateRow
  rows_are : rows ≡ front ++ one ∷ back
  front_valid : AllByRecursion (IsRow n) front
  one_valid : IsRow n one
  front_lines : map line_of_row front ≡ xs
  one_line : line_of_row one ≡ y
  back_lines : map line_of_row back ≡ zs

parted : (n : ℕ) (xs : List (List ℕ)) (y : List ℕ) (zs : List (List ℕ)) (rows : List StateRow) → AllByRecursion (IsRow n) rows → map line_of_row rows ≡ xs ++ y ∷ zs → AreParted n xs y zs rows
parted n [] y zs [] valid e = absurd cc
parted n [] y zs (r ∷ rs) valid e = record { front = []; one = r; back = rs; rows_are = refl; front_valid = tt; one_valid = valid.0; front_lines = refl; one_line = cc; back_lines = cc }
parted n (x ∷ xs) y zs [] valid e = absurd cc
parted n (x ∷ xs) y zs (r ∷ rs) valid e =
    let more : map line_of_row rs ≡ xs ++ y ∷ zs = cc in
    let head : line_of_row r ≡ x = cc in
    let p = parted n xs y zs rs valid.1 more in
    record {
      front = r ∷ p.front;
      one = p.one;
      back = p.back;
      rows_are = ap (λ (l : List StateRow). r ∷ l) p.rows_are;
      front_valid = (valid.0, p.front_valid);
      one_valid = p.one_valid;
      front_lines = λ i. head i ∷ p.front_lines i;
      one_line = p.one_line;
      back_lines = p.back_lines;
    }

valid-more : (n : ℕ) (rows : List StateRow) (r : StateRow) → AllByRecursion (IsRow n) rows → IsRow n r → AllByRecursion (IsRow n) (rows ++ r ∷ [])
valid-more n [] r h is = (is, tt)
valid-more n (x ∷ xs) r h is = (h.0, valid-more n xs r h.1 is)

-- With the row of the next line they are the rows of one line more.
pub one-more : (n : ℕ) (lines : List (List ℕ)) (line : List ℕ) (rows new : List StateRow) (r : StateRow)
    → ((x : StateRow) → (Some r ≡ Some x) ↔ (IsRow n x × (line ≡ line_of_row x)))
    → AreOnlyRows n lines rows → new ≡ rows ++ r ∷ [] → AreOnlyRows n (lines ++ line ∷ []) new
one-more n lines line rows new r read h is =
    let mine = (read r).0 refl in
    record {
      valid = subst (AllByRecursion (IsRow n)) (sym is) (valid-more n rows r h.valid mine.0);
      lines_are = ap (map line_of_row) is ∙ (map-append line_of_row rows (r ∷ []) ∙ λ i. h.lines_are i ++ sym mine.1 i ∷ []);
      only = λ others valid same.
          let p = parted n lines line [] others valid same in
          let front = h.only p.front p.front_valid p.front_lines in
          let one : Some r ≡ Some p.one = (read p.one).1 (p.one_valid, sym p.one_line) in
          let last : r ≡ p.one = cc in
          p.rows_are ∙ ((λ i. front i ++ sym last i ∷ p.back) ∙ (ap (λ (l : List StateRow). rows ++ r ∷ l) (no-others p.back p.back_lines) ∙ sym is));
    }

-- The lists so far are those of a state.
lists-so-far : (n : ℕ) (lines : List (List ℕ)) (r : Reading) → AreOnlyRows n lines (rows_of r.lists) → IsKept r → AreLists n r.lists
lists-so-far n lines r h kept = record {
  rows = All-from_recursion (IsRow n) (rows_of r.lists) h.valid;
  owned = record {
    opened = All-from_recursion (λ (c : Claim). has_transaction r.lists.opens.items c.session ≡ true) r.lists.claims.items kept.opened;
    requested = All-from_recursion (λ (w : FirstWait). has_request r.lists.claims.items w.wait.session ≡ true) r.lists.waits.items kept.requested;
  };
}

-- So the lines so far are.
pub lines-so-far : (n : ℕ) (lines : List (List ℕ)) (r : Reading) → AreOnlyRows n lines (rows_of r.lists) → IsKept r → AreLinesOfState n lines
lines-so-far n lines r h kept = (r.lists.opens.items, r.lists.claims.items, r.lists.waits.items, (lists-so-far n lines r h kept, h.lines_are))

-- A line that is no row doesn't go on with the rows of any state.
pub no-row : (n : ℕ) (lines : List (List ℕ)) (line : List ℕ) → ((x : StateRow) → (None ≡ Some x) ↔ (IsRow n x × (line ≡ line_of_row x))) → BeginNoState n (lines ++ line ∷ [])
no-row n lines line read = λ os cs ws rest valid same.
    let p = parted n lines line rest (rows_in os cs ws) (recursion_from_All (IsRow n) (rows_in os cs ws) valid.rows) (same ∙ append_assoc lines (line ∷ []) rest) in
    let bad : None ≡ Some p.one = (read p.one).1 (p.one_valid, sym p.one_line) in
    cc

-- Nor does a line whose row is late.
pub late-row : (n : ℕ) (lines : List (List ℕ)) (line : List ℕ) (rows : List StateRow) (r : StateRow) → ((x : StateRow) → (Some r ≡ Some x) ↔ (IsRow n x × (line ≡ line_of_row x)))
    → AreOnlyRows n lines rows → IsLate r rows → BeginNoState n (lines ++ line ∷ [])
late-row n lines line rows r read h late = λ os cs ws rest valid same.
    let p = parted n lines line rest (rows_in os cs ws) (recursion_from_All (IsRow n) (rows_in os cs ws) valid.rows) (same ∙ append_assoc lines (line ∷ []) rest) in
    let front = h.only p.front p.front_valid p.front_lines in
    let one : Some r ≡ Some p.one = (read p.one).1 (p.one_valid, sym p.one_line) in
    let last : r ≡ p.one = cc in
    late os cs ws p.back valid.owned (sym (p.rows_are ∙ λ i. front i ++ sym last i ∷ p.back))

-- The line behind the first i of all lines.
line-at : (xs : List (Bor (List ℕ))) (i : ℕ) (d : Bor (List ℕ)) → i < length xs
    → take (i + 1) (map (λ (line : Bor (List ℕ)). line.now) xs) ≡ take i (map (λ (line : Bor (List ℕ)). line.now) xs) ++ (get_or xs i d).now ∷ []
line-at xs i d lt =
    let f = λ (line : Bor (List ℕ)). line.now in
    let long : length (map f xs) ≡ length xs = length-map xs f in
    with_next (map f xs) i (get_or xs i d).now (omega (arith, lt, long)) (sym (get_or-map f xs i d (get_or xs i d).now lt))

-- The next line is the first bad one.
pub first-bad : (n : ℕ) (xs : List (Bor (List ℕ))) (i : ℕ) (d : Bor (List ℕ)) → i < length xs
    → AreLinesOfState n (take i (map (λ (line : Bor (List ℕ)). line.now) xs))
    → BeginNoState n (take i (map (λ (line : Bor (List ℕ)). line.now) xs) ++ (get_or xs i d).now ∷ [])
    → IsFirstBad n (map (λ (line : Bor (List ℕ)). line.now) xs) (i + 1)
first-bad n xs i d lt front bad =
    let f = λ (line : Bor (List ℕ)). line.now in
    let less : i ≡ i + 1 - 1 = omega arith in
    let long : length (map f xs) ≡ length xs = length-map xs f in
    record { some = omega arith; within = omega (arith, lt, long); front = subst (λ (j : ℕ). AreLinesOfState n (take j (map f xs))) less front; bad = subst (BeginNoState n) (sym (line-at xs i d lt)) bad }

-- With the row of the next line they are the rows of one line more.
pub one-line-more : (n : ℕ) (xs : List (Bor (List ℕ))) (i : ℕ) (d : Bor (List ℕ)) (rows : List StateRow) → i < length xs
    → AreOnlyRows n (take i (map (λ (line : Bor (List ℕ)). line.now) xs) ++ (get_or xs i d).now ∷ []) rows
    → AreOnlyRows n (take (i + 1) (map (λ (line : Bor (List ℕ)). line.now) xs)) rows
one-line-more n xs i d rows lt h = subst (λ (ls : List (List ℕ)). AreOnlyRows n ls rows) (sym (line-at xs i d lt)) h

-- All lines are read.
pub all-lines : (n : ℕ) (xs : List (Bor (List ℕ))) (i : ℕ) (r : Reading) → length xs ≤ i
    → AreOnlyRows n (take i (map (λ (line : Bor (List ℕ)). line.now) xs)) (rows_of r.lists) → IsKept r
    → AreLists n r.lists × (map line_of_row (rows_of r.lists) ≡ map (λ (line : Bor (List ℕ)). line.now) xs)
all-lines n xs i r end h kept =
    let f = λ (line : Bor (List ℕ)). line.now in
    let long : length (map f xs) ≡ length xs = length-map xs f in
    (lists-so-far n (take i (map f xs)) r h kept, h.lines_are ∙ take_all i (map f xs) (omega (arith, end, long)))
