-- The numbers of calls of all sessions add up to the number of rows.
use Rattle.std.proofs.Common.{arith, ap, sym, refl, inl, inr, ◌≡◌, ◌∙◌, ◌≢◌, ◌<◌, ◌≤◌, ◌+◌, ◌⊎◌, ℕ, zero, suc, Bool, cond, eqb, List, [], ◌∷◌, ◌++◌, length, map}
use Rattle.std.specs.List.{All, filter, sum_by}
use Rattle.std.proofs.lemmas.Bool.{eq-eqb, ne_eqb, cases_lt}
use Rattle.std.proofs.lemmas.List.Sums.{sum_by_push}
use Rattle.std.proofs.lemmas.List.Elements.{All-head, All-tail}
use Rattle.lock_rules.specs.declared.calls.Call.{Call}
use Rattle.lock_trace.specs.declared.trace_row.TraceRow.{TraceRow}
use Rattle.run_commands.specs.Calls.{calls_of_rows}

-- a row in front adds its call to the calls of its own session
pub calls-own : (i : ℕ) (row : TraceRow) (rows : List TraceRow) → row.session ≡ i → calls_of_rows i (row ∷ rows) ≡ row.call ∷ calls_of_rows i rows
calls-own i row rows is =
    ap (λ (b : Bool). map (λ (r : TraceRow). r.call) (cond b (row ∷ filter (λ (r : TraceRow). eqb r.session i) rows) (filter (λ (r : TraceRow). eqb r.session i) rows))) (eq-eqb row.session i is)

-- a row in front adds nothing to the calls of another session
pub calls-other : (i : ℕ) (row : TraceRow) (rows : List TraceRow) → row.session ≢ i → calls_of_rows i (row ∷ rows) ≡ calls_of_rows i rows
calls-other i row rows isnt =
    ap (λ (b : Bool). map (λ (r : TraceRow). r.call) (cond b (row ∷ filter (λ (r : TraceRow). eqb r.session i) rows) (filter (λ (r : TraceRow). eqb r.session i) rows))) (ne_eqb row.session i isnt)

-- a session without a row has no calls
pub calls-none : (i : ℕ) (rows : List TraceRow) → All (λ (row : TraceRow). row.session ≢ i) rows → calls_of_rows i rows ≡ []
calls-none i [] isnt = refl
calls-none i (row ∷ rows) isnt =
    calls-other i row rows (All-head (λ (r : TraceRow). r.session ≢ i) row rows isnt)
    ∙ calls-none i rows (All-tail (λ (r : TraceRow). r.session ≢ i) row rows isnt)

-- the numbers 1 to n
abbrev pub numbers_to : ℕ → List ℕ
numbers_to zero = []
numbers_to (suc n) = numbers_to n ++ suc n ∷ []

-- the total number of calls of sessions 1 to n
abbrev pub calls_to : List TraceRow → ℕ → ℕ
calls_to rows n = sum_by (λ i. length (calls_of_rows i rows)) (numbers_to n)

-- the total up to n + 1 is the total up to n and the calls of session n + 1
calls_to-suc : (rows : List TraceRow) (n : ℕ) → calls_to rows (suc n) ≡ calls_to rows n + length (calls_of_rows (suc n) rows)
calls_to-suc rows n = sum_by_push (λ i. length (calls_of_rows i rows)) (numbers_to n) (suc n)

-- zero sessions have no calls
calls_to-zero : (rows : List TraceRow) → calls_to rows 0 ≡ 0
calls_to-zero rows = refl

-- no rows have no calls
calls_to-nil : (n : ℕ) → calls_to [] n ≡ 0
calls_to-nil zero = calls_to-zero []
calls_to-nil (suc n) = calls_to-suc [] n ∙ ap (λ k. k + 0) (calls_to-nil n)

-- a row in front of a session above n doesn't change the total
calls_to-above : (row : TraceRow) (rows : List TraceRow) (n : ℕ) → n < row.session → calls_to (row ∷ rows) n ≡ calls_to rows n
calls_to-above row rows zero above = calls_to-zero (row ∷ rows) ∙ sym (calls_to-zero rows)
calls_to-above row rows (suc n) above =
    let before = calls_to-above row rows n (omega (arith, above)) in
    let here : calls_of_rows (suc n) (row ∷ rows) ≡ calls_of_rows (suc n) rows = calls-other (suc n) row rows (λ is. omega (arith, above, is)) in
    calls_to-suc (row ∷ rows) n ∙ ap (λ k. k + length (calls_of_rows (suc n) (row ∷ rows))) before
    ∙ ap (λ (cs : List Call). calls_to rows n + length cs) here ∙ sym (calls_to-suc rows n)

-- a row in front of a session from 1 to n adds one to the total
calls_to-within : (row : TraceRow) (rows : List TraceRow) (n : ℕ) → 0 < row.session → row.session ≤ n → calls_to (row ∷ rows) n ≡ calls_to rows n + 1
calls_to-within row rows zero some few = absurd (omega (arith, some, few))
calls_to-within row rows (suc n) some few = go (calls_to-within row rows n some) (cases_lt n row.session)
  where
    go : (row.session ≤ n → calls_to (row ∷ rows) n ≡ calls_to rows n + 1) → (n < row.session) ⊎ (row.session ≤ n)
        → calls_to (row ∷ rows) (suc n) ≡ calls_to rows (suc n) + 1
    go later (inl above) =
        let is : row.session ≡ suc n = omega (arith, above, few) in
        let before : calls_to (row ∷ rows) n ≡ calls_to rows n = calls_to-above row rows n above in
        let here : length (calls_of_rows (suc n) (row ∷ rows)) ≡ suc (length (calls_of_rows (suc n) rows)) = ap length (calls-own (suc n) row rows is) in
        let one = calls_to-suc (row ∷ rows) n in let other = calls_to-suc rows n in
        omega (arith, before, here, one, other)
    go later (inr below) =
        let before : calls_to (row ∷ rows) n ≡ calls_to rows n + 1 = later below in
        let here : length (calls_of_rows (suc n) (row ∷ rows)) ≡ length (calls_of_rows (suc n) rows) = ap length (calls-other (suc n) row rows (λ is. omega (arith, below, is))) in
        let one = calls_to-suc (row ∷ rows) n in let other = calls_to-suc rows n in
        omega (arith, before, here, one, other)

-- rows of which each session has the same calls have the same total
pub calls_to-same : (xs ys : List TraceRow) → ((i : ℕ) → calls_of_rows i xs ≡ calls_of_rows i ys) → (n : ℕ) → calls_to xs n ≡ calls_to ys n
calls_to-same xs ys same zero = refl
calls_to-same xs ys same (suc n) =
    calls_to-suc xs n ∙ ap (λ k. k + length (calls_of_rows (suc n) xs)) (calls_to-same xs ys same n)
    ∙ ap (λ (cs : List Call). calls_to ys n + length cs) (same (suc n)) ∙ sym (calls_to-suc ys n)

-- the row is of a session from 1 to n
abbrev pub IsNumbered : ℕ → TraceRow → Type 0
IsNumbered n row = (0 < row.session) × (row.session ≤ n)

-- rows of sessions 1 to n have as many calls as rows
pub calls_to-all : (rows : List TraceRow) (n : ℕ) → All (IsNumbered n) rows → calls_to rows n ≡ length rows
calls_to-all [] n within = calls_to-nil n
calls_to-all (row ∷ rows) n within =
    let is = All-head (IsNumbered n) row rows within in
    let rest : calls_to rows n ≡ length rows = calls_to-all rows n (All-tail (IsNumbered n) row rows within) in
    let this : calls_to (row ∷ rows) n ≡ calls_to rows n + 1 = calls_to-within row rows n is.0 is.1 in
    omega (arith, rest, this)
