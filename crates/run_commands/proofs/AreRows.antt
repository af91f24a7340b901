-- Rows stay valid for their greatest session number.
use Rattle.std.proofs.Common.{◌<◌, ◌≤◌, ◌+◌, ℕ, List, length, take, max, get_or}
use Rattle.std.specs.List.{All}
use Rattle.std.proofs.Math.Nat.{le-max_left, le-max_right, le_trans}
use Rattle.std.proofs.lemmas.List.Elements.{All-more, All-weaker}
use Rattle.lock_trace.specs.declared.trace_row.TraceRow.{TraceRow}
use Rattle.lock_trace.specs.Rows.{IsRow}

-- if the rows so far have sessions up to g, they and the next row have sessions up to the greater of g and that row's
pub rows_below : (g : ℕ) (rows : List TraceRow) (i : ℕ) (d : TraceRow) → i < length rows → All (λ (r : TraceRow). r.session ≤ g) (take i rows)
    → All (λ (r : TraceRow). r.session ≤ max g (get_or rows i d).session) (take (i + 1) rows)
rows_below g rows i d below before =
    let s = (get_or rows i d).session in
    All-more (λ (r : TraceRow). r.session ≤ max g s) rows i d below
    (All-weaker (λ (r : TraceRow). r.session ≤ g) (λ (r : TraceRow). r.session ≤ max g s) (λ r h. le_trans h (le-max_left g s)) (take i rows) before)
    (le-max_right g s)

-- rows that are valid for n sessions and have sessions up to g are valid for g sessions
pub rows_within : (n g : ℕ) (rows : List TraceRow) → All (IsRow n) rows → All (λ (r : TraceRow). r.session ≤ g) rows → All (IsRow g) rows
rows_within n g rows are below k d there =
    let is : IsRow n (get_or rows k d) = are k d there in
    record { first = is.first; last = below k d there; resources = is.resources }
