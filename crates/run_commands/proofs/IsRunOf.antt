-- The history of an office that is closed after its sessions performed their rows.
use Rattle.std.proofs.Common.{arith, ap, sym, refl, subst, inl, inr, ◌≡◌, ◌∙◌, ◌≢◌, ◌<◌, ◌≤◌, ◌+◌, ◌-◌, ◌⊎◌, ℕ, zero, suc, Bool, cond, List, [], ◌∷◌, ◌++◌, length, map, get_or}
use Rattle.std.proofs.lemmas.List.{length-append, length-map, map-append, get_or_append_left, get_or_at}
use Rattle.std.specs.List.{All, Any}
use mathlib.Core.Logic.{dite}
use native.Mathlib.Decide.{ℕ_discrete}
use Rattle.std.proofs.lemmas.Bool.{eq-eqb, ne_eqb, cases_lt}
use Rattle.std.proofs.lemmas.List.Elements.{All-cons, All-head, All-tail, All-nil, All-push, All-weaker}
use Rattle.lock_rules.specs.declared.calls.Call.{Call}
use Rattle.lock_rules.specs.Entries.{Entry}
use Rattle.sequential.specs.Histories.{calls_from, calls_of, IsEntryWithin}
use Rattle.publication.specs.Views.{BoardView}
use Rattle.programs.proofs.Sessions.{calls_of-flat}
use Rattle.lock_programs.specs.Answers.{program_form}
use Rattle.lock_office.specs.ProgramBoards.{TicketView, ProgramEntry, ProgramsView, IsLegal, flat_history, calls_answered as answers_of_calls, new_tickets}
use Rattle.lock_office.proofs.Flats.{flat-within}
use Rattle.publication.specs.declared.closing.CloseFault.{CloseFault}
use Rattle.publication.specs.declared.closing.CloseFault.TheVariants as close
use Rattle.publication.specs.Boards.{IsEachOnce, AccountsFor, new_ticket}
use Rattle.lock_office.specs.Sessions.{IsSessionOf, IsIdle, HasNothingPending}
use Rattle.lock_office.specs.Closed.{IsClosed}
use Rattle.lock_trace.specs.declared.trace_row.TraceRow.{TraceRow}
use Rattle.lock_trace.specs.Rows.{IsRow}
use Rattle.run_commands.specs.Calls.{calls_answered, calls_of_rows}
use Rattle.run_commands.specs.Runs.{IsRunOf}
use Rattle.run_commands.specs.Workers.{IsNewSession, IsPerformed, numbers_of}
use Rattle.run_commands.proofs.CallsOfRows.{IsNumbered, calls-none, calls-own, calls-other, calls_to-all, calls_to-same, numbers_to}

-- the first k new sessions have the numbers 1 to k
numbers-new : (office : BoardView) (n k : ℕ) → numbers_of (new_tickets office.id n k) ≡ numbers_to k
numbers-new office n zero = refl
numbers-new office n (suc k) =
    map-append (λ (s : TicketView). s.number) (new_tickets office.id n k) (new_ticket office.id n (suc k) ∷ []) ∙ ap (λ ns. ns ++ suc k ∷ []) (numbers-new office n k)

-- new sessions have collected no answer and know nothing of the history
abbrev IsUnused : TicketView → Type 0
IsUnused s = (s.collected ≡ []) × (s.front ≡ [])

all-unused : (office : BoardView) (n k : ℕ) → All IsUnused (new_tickets office.id n k)
all-unused office n zero = All-nil IsUnused
all-unused office n (suc k) = All-push IsUnused (new_tickets office.id n k) (new_ticket office.id n (suc k)) (all-unused office n k) (refl, refl)

-- the sessions of an office that was just opened are new sessions
pub sessions_new : (office : BoardView) (n : ℕ) (all : List TicketView) → all ≡ new_tickets office.id n n
    → All (λ (s : TicketView). IsSessionOf office s × IsIdle s) all → All (IsNewSession office) all
sessions_new office n all are ready k d below =
    let is = ready k d below in
    let unused = subst (λ (xs : List TicketView). All IsUnused xs) (sym are) (all-unused office n n) k d below in
    record { ours = is.0; idle = is.1; none = unused.0; unaware = unused.1 }

-- the numbers 1 to n are n
length-numbers : (n : ℕ) → length (numbers_to n) ≡ n
length-numbers zero = refl
length-numbers (suc n) = length-append (numbers_to n) (suc n ∷ []) ∙ (let is = length-numbers n in omega (arith, is))

-- the number at index k is k + 1
number-at : (n k : ℕ) → k < n → get_or (numbers_to n) k 0 ≡ k + 1
number-at zero k below = absurd (omega (arith, below))
number-at (suc n) k below = go (number-at n k) (cases_lt k n)
  where
    go : (k < n → get_or (numbers_to n) k 0 ≡ k + 1) → (k < n) ⊎ (n ≤ k) → get_or (numbers_to n ++ suc n ∷ []) k 0 ≡ k + 1
    go before (inl less) =
        get_or_append_left (numbers_to n) (suc n ∷ []) 0 k (let is = length-numbers n in omega (arith, less, is)) ∙ before less
    go before (inr last) =
        let is : k ≡ n = omega (arith, below, last) in
        get_or_at (numbers_to n) (suc n) [] 0 k (length-numbers n ∙ sym is) ∙ (let z : suc n ≡ k + 1 = omega (arith, is) in z)

-- if a number is at some index of the sessions' numbers, some session has it
any-numbered : (all : List TicketView) (k i : ℕ) → k < length all → get_or (numbers_of all) k 0 ≡ i → Any (λ (s : TicketView). s.number ≡ i) all
any-numbered [] k i below is = absurd (omega (arith, below))
any-numbered (s ∷ all) zero i below is = (0, s, below, refl, is)
any-numbered (s ∷ all) (suc k) i below is =
    let later = any-numbered all k i (omega (arith, below)) is in
    (suc later.0, later.1, (let b = later.2 in omega (arith, b)), later.3, later.4)

-- sessions numbered like the opened ones are all sessions, each once
pub each_once : (office : BoardView) (n : ℕ) (all : List TicketView) → numbers_of all ≡ numbers_of (new_tickets office.id n n) → IsEachOnce n all
each_once office n all are =
    let is : numbers_of all ≡ numbers_to n = are ∙ numbers-new office n n in
    let long : length all ≡ n = sym (length-map all (λ (s : TicketView). s.number)) ∙ ap length is ∙ length-numbers n in
    record {
      as_many = long;
      each = λ i some few. any-numbered all (i - 1) i (omega (arith, some, few, long))
          (ap (λ ns. get_or ns (i - 1) 0) is ∙ number-at n (i - 1) (omega (arith, some, few)) ∙ (let z : i - 1 + 1 ≡ i = omega (arith, some) in z));
    }

-- sessions that performed their rows have no pending call
pub nothing_pending : (office : BoardView) (rows : List TraceRow) (all : List TicketView) → All (IsPerformed office rows) all → All HasNothingPending all
nothing_pending office rows all performed = All-weaker (IsPerformed office rows) HasNothingPending (λ s p. p.idle.0) all performed

-- sessions that performed their rows belong to the office
pub all_ours : (office : BoardView) (rows : List TraceRow) (all : List TicketView) → All (IsPerformed office rows) all → All (IsSessionOf office) all
all_ours office rows all performed = All-weaker (IsPerformed office rows) (IsSessionOf office) (λ s p. p.ours) all performed

-- a history without entries of a session has no calls of it
calls_from-none : (i place : ℕ) (es : List Entry) → All (λ (e : Entry). e.session ≢ i) es → calls_from i place es ≡ []
calls_from-none i place [] isnt = refl
calls_from-none i place (e ∷ es) isnt =
    ap (λ (b : Bool). cond b (record { place = place; call = e.call; reply = e.reply } ∷ calls_from i (place + 1) es) (calls_from i (place + 1) es))
    (ne_eqb e.session i (All-head (λ (f : Entry). f.session ≢ i) e es isnt))
    ∙ calls_from-none i (place + 1) es (All-tail (λ (f : Entry). f.session ≢ i) e es isnt)

-- for a session of the office, its calls in the history are its calls in the rows
calls-of-session : (office : BoardView) (rows : List TraceRow) (all : List TicketView) (h : List ProgramEntry) (i : ℕ) → IsLegal h
    → All (IsPerformed office rows) all → All (AccountsFor h) all → Any (λ (s : TicketView). s.number ≡ i) all
    → calls_answered (calls_of i (flat_history h)) ≡ calls_of_rows i rows
calls-of-session office rows all h i legal performed accounts (k, s, below, is, number) =
    let performs : IsPerformed office rows s = subst (IsPerformed office rows) is (performed k s below) in
    let accounted : AccountsFor h s = subst (AccountsFor h) is (accounts k s below) in
    ap (λ n. calls_answered (calls_of n (flat_history h))) (sym number) ∙ ap calls_answered (calls_of-flat program_form s.number h legal.1 ∙ ap answers_of_calls accounted.calls)
    ∙ performs.calls ∙ ap (λ n. calls_of_rows n rows) number

-- the calls of a history as rows, which are as many
abbrev rows-of : List Entry → List TraceRow
rows-of es = map (λ (e : Entry). record { session = e.session; call = e.call }) es

calls-of-rows : (i place : ℕ) (es : List Entry) → calls_answered (calls_from i place es) ≡ calls_of_rows i (rows-of es)
calls-of-rows i place [] = refl
calls-of-rows i place (e ∷ es) = go (dite (ℕ_discrete e.session i) inl inr) (calls-of-rows i (place + 1) es)
  where
    go : (e.session ≡ i) ⊎ (e.session ≢ i) → calls_answered (calls_from i (place + 1) es) ≡ calls_of_rows i (rows-of es)
        → calls_answered (calls_from i place (e ∷ es)) ≡ calls_of_rows i (rows-of (e ∷ es))
    go (inl own) rest =
        ap (λ (b : Bool). calls_answered (cond b (record { place = place; call = e.call; reply = e.reply } ∷ calls_from i (place + 1) es) (calls_from i (place + 1) es))) (eq-eqb e.session i own)
        ∙ ap (λ (cs : List Call). e.call ∷ cs) rest ∙ sym (calls-own i (record { session = e.session; call = e.call }) (rows-of es) own)
    go (inr other) rest =
        ap (λ (b : Bool). calls_answered (cond b (record { place = place; call = e.call; reply = e.reply } ∷ calls_from i (place + 1) es) (calls_from i (place + 1) es))) (ne_eqb e.session i other)
        ∙ rest ∙ sym (calls-other i (record { session = e.session; call = e.call }) (rows-of es) other)

rows-within : (n : ℕ) (es : List Entry) → All (IsEntryWithin n) es → All (IsNumbered n) (rows-of es)
rows-within n [] within = All-nil (IsNumbered n)
rows-within n (e ∷ es) within =
    let here : IsEntryWithin n e = All-head (IsEntryWithin n) e es within in
    All-cons (IsNumbered n) (record { session = e.session; call = e.call }) (rows-of es) (here.some, here.within) (rows-within n es (All-tail (IsEntryWithin n) e es within))

-- for a number of no session, both the history and the rows have no calls
calls-of-nobody : (n : ℕ) (rows : List TraceRow) (history : List Entry) (i : ℕ) → All (IsRow n) rows → All (IsEntryWithin n) history
    → (i ≡ 0) ⊎ (n < i) → calls_answered (calls_of i history) ≡ calls_of_rows i rows
calls-of-nobody n rows history i are within out =
    ap calls_answered (calls_from-none i 0 history (All-weaker (IsEntryWithin n) (λ (e : Entry). e.session ≢ i) (λ e w. no-entry e w out) history within))
    ∙ sym (calls-none i rows (All-weaker (IsRow n) (λ (r : TraceRow). r.session ≢ i) (λ r w. no-row r w out) rows are))
  where
    no-entry : (e : Entry) → IsEntryWithin n e → (i ≡ 0) ⊎ (n < i) → e.session ≢ i
    no-entry e w (inl zero-is) = let a = w.some in λ is. omega (arith, zero-is, is, a)
    no-entry e w (inr above) = let a = w.within in λ is. omega (arith, above, is, a)

    no-row : (r : TraceRow) → IsRow n r → (i ≡ 0) ⊎ (n < i) → r.session ≢ i
    no-row r w (inl zero-is) = let a = w.first in λ is. omega (arith, zero-is, is, a)
    no-row r w (inr above) = let a = w.last in λ is. omega (arith, above, is, a)

-- the sessions given back have the numbers of all sessions of the office
numbers-all : (office : BoardView) (n : ℕ) (first all : List TicketView) → office.sessions ≡ n → first ≡ new_tickets office.id n n
    → numbers_of all ≡ numbers_of first → numbers_of all ≡ numbers_of (new_tickets office.id office.sessions office.sessions)
numbers-all office n first all are new numbers =
    numbers ∙ ap numbers_of new ∙ ap (λ k. numbers_of (new_tickets office.id k k)) (sym are)

-- the history of calls of a closed office whose sessions performed their rows is a history of these rows
pub run_of_closed : (office : BoardView) (n : ℕ) (rows : List TraceRow) (first all : List TicketView) (programs : ProgramsView)
    → office.sessions ≡ n → first ≡ new_tickets office.id n n → numbers_of all ≡ numbers_of first
    → All (IsPerformed office rows) all → All (IsRow n) rows → IsClosed office all programs → IsRunOf rows (flat_history programs.history)
run_of_closed office n rows first all programs sessions-are new numbers performed rows-are closed = record {
  legal = closed.legal.0;
  calls = calls;
  count = sym (length-map h (λ (e : Entry). record { session = e.session; call = e.call })) ∙ sym (calls_to-all (rows-of h) office.sessions (rows-within office.sessions h entries-within))
      ∙ calls_to-same (rows-of h) rows (λ i. sym (calls-of-rows i 0 h) ∙ calls i) office.sessions ∙ calls_to-all rows office.sessions (All-weaker (IsRow office.sessions) (IsNumbered office.sessions) (λ r w. (w.first, w.last)) rows within);
}
  where
    h : List Entry
    h = flat_history programs.history

    within : All (IsRow office.sessions) rows
    within = subst (λ k. All (IsRow k) rows) (sym sessions-are) rows-are

    entries-within : All (IsEntryWithin office.sessions) h
    entries-within = flat-within program_form office.sessions programs.history closed.within

    go : (i : ℕ) → (0 < i) ⊎ (i ≤ 0) → (office.sessions < i) ⊎ (i ≤ office.sessions) → calls_answered (calls_of i h) ≡ calls_of_rows i rows
    go i (inl some) (inr few) = calls-of-session office rows all programs.history i closed.legal performed closed.accounts (closed.all.each i some few)
    go i (inr none) h = calls-of-nobody office.sessions rows (flat_history programs.history) i within entries-within (inl (omega (arith, none)))
    go i (inl some) (inl above) = calls-of-nobody office.sessions rows h i within entries-within (inr above)

    calls : (i : ℕ) → calls_answered (calls_of i h) ≡ calls_of_rows i rows
    calls i = go i (cases_lt 0 i) (cases_lt office.sessions i)

-- an office whose sessions performed their rows isn't refused a close
pub closes : (office : BoardView) (n : ℕ) (rows : List TraceRow) (first all : List TicketView) (fault : CloseFault)
    → office.sessions ≡ n → first ≡ new_tickets office.id n n → numbers_of all ≡ numbers_of first → All (IsPerformed office rows) all
    → (fault ≡ close.Missing → ¬ IsEachOnce office.sessions all)
    → (fault ≡ close.Unsettled → IsEachOnce office.sessions all × ¬ All HasNothingPending all) → ⊥
closes office n rows first all close.Missing are new numbers performed missing unsettled =
    missing refl (each_once office office.sessions all (numbers-all office n first all are new numbers))
closes office n rows first all close.Unsettled are new numbers performed missing unsettled =
    (unsettled refl).1 (nothing_pending office rows all performed)
