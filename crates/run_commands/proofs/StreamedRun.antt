-- The sessions of a run in pieces: those that perform rows, and the last one, which takes the history.
use Rattle.std.proofs.Common.{ap, ap₂, sym, refl, subst, ◌≡◌, ◌∙◌, ◌≢◌, ◌+◌, ◌≤◌, ℕ, zero, suc, add-one, List, [], ◌∷◌, ◌++◌, length, take, drop, get_or, Some, Option, inl, inr, arith}
use Rattle.std.specs.List.{All}
use Rattle.std.specs.Prelude.{option_to_list}
use mathlib.Core.List.{IsPrefix}
use Rattle.std.proofs.Math.Seq.{take-append_seam, drop-append_seam}
use Rattle.std.proofs.lemmas.List.{length_push, map-append}
use Rattle.std.proofs.lemmas.List.Elements.{All-pop, All-push, All-weaker}
use Rattle.publication.specs.Views.{BoardView}
use Rattle.lock_programs.specs.Answers.{program_form}
use Rattle.lock_office.specs.ProgramBoards.{TicketView, ProgramsView, flat_history, new_tickets}
use Rattle.publication.specs.declared.closing.CloseFault.{CloseFault}
use Rattle.publication.specs.declared.closing.CloseFault.TheVariants as close
use Rattle.publication.specs.Boards.{AccountsFor, IsEachOnce, new_ticket}
use Rattle.lock_office.specs.Sessions.{HasNothingPending, IsSessionOf, IsIdle}
use Rattle.lock_office.specs.Closed.{IsClosed}
use Rattle.lock_trace.specs.declared.trace_row.TraceRow.{TraceRow}
use Rattle.lock_trace.specs.Rows.{IsRow}
use Rattle.run_commands.specs.Calls.{calls_collected}
use Rattle.lock_rules.specs.Entries.{Entry}
use Rattle.lock_trace.specs.Histories.{text_of_history, text_of_piece}
use Rattle.replay_commands.specs.Pieces.{IsFaultOfPiece}
use Rattle.replay_commands.specs.declared.tool_fault.ToolFault.{ToolFault}
use Rattle.run_commands.specs.Runs.{HasRun, IsRunOf}
use Rattle.run_commands.specs.Streams.{HasWrittenRest, IsFaultOfRest, IsFaultOfStream, IsNeverRefused, IsOpenedFor, IsWrittenUpTo, bare}
use Rattle.run_commands.specs.Workers.{IsNewSession, IsPerformed, numbers_of}
use Rattle.run_commands.proofs.CallsOfRows.{calls-none}
use Rattle.std.specs.Io.KnownBytes.{Appends}
use Rattle.std.proofs.KnownBytes.{Appends-kept}
use Rattle.run_commands.proofs.WrittenUpTo.{flat-prefix, front_of, rest_failed, rest_written}
use Rattle.run_commands.proofs.IsRunOf.{closes, run_of_closed, sessions_new}

-- there are as many new sessions as are asked for
length-new : (office : BoardView) (n k : ℕ) → length (new_tickets office.id n k) ≡ k
length-new office n zero = refl
length-new office n (suc k) =
    length_push (new_tickets office.id n k) (new_ticket office.id n (suc k)) ∙ (let is = length-new office n k in omega (arith, is))

-- there is a session
pub some_new : (office : BoardView) (k : ℕ) (all : List TicketView) → all ≡ new_tickets office.id (k + 1) (k + 1) → length all ≡ 0 → ⊥
some_new office k all new none = let long = length-new office (k + 1) (k + 1) in let is = ap length new in omega arith

-- the last new session stands behind the others
last-new : (office : BoardView) (n k : ℕ) → new_tickets office.id n (k + 1) ≡ new_tickets office.id n k ++ new_ticket office.id n (k + 1) ∷ []
last-new office n k =
    ap (λ (m : ℕ). new_tickets office.id n m) (add-one k)
    ∙ ap (λ (m : ℕ). new_tickets office.id n k ++ new_ticket office.id n m ∷ []) (sym (add-one k))

-- two lists in two parts are the same if their first parts are as long
same-parts : {X : Type 0} (xs ys us vs : List X) → xs ++ us ≡ ys ++ vs → length xs ≡ length ys → (xs ≡ ys) × (us ≡ vs)
same-parts {X} xs ys us vs same long =
    let cut : (n : ℕ) → take n (xs ++ us) ≡ take n (ys ++ vs) = λ n. ap (λ (l : List X). take n l) same in
    let rest : (n : ℕ) → drop n (xs ++ us) ≡ drop n (ys ++ vs) = λ n. ap (λ (l : List X). drop n l) same in (
      sym (take-append_seam xs us) ∙ cut (length xs) ∙ ap (λ (n : ℕ). take n (ys ++ vs)) long ∙ take-append_seam ys vs,
      sym (drop-append_seam xs us) ∙ rest (length xs) ∙ ap (λ (n : ℕ). drop n (ys ++ vs)) long ∙ drop-append_seam ys vs,
    )

-- the sessions of an office, without the last one and the last one
parts : (office : BoardView) (k : ℕ) (all workers : List TicketView) (taker : TicketView) → all ≡ new_tickets office.id (k + 1) (k + 1)
    → all ≡ workers ++ taker ∷ []
    → (workers ≡ new_tickets office.id (k + 1) k) × (taker ∷ [] ≡ new_ticket office.id (k + 1) (k + 1) ∷ [])
parts office k all workers taker new split =
    let whole : workers ++ taker ∷ [] ≡ new_tickets office.id (k + 1) k ++ new_ticket office.id (k + 1) (k + 1) ∷ [] =
    sym split ∙ new ∙ last-new office (k + 1) k in
    let long : length workers ≡ length (new_tickets office.id (k + 1) k) =
    omega (arith, length_push workers taker, length_push (new_tickets office.id (k + 1) k) (new_ticket office.id (k + 1) (k + 1)), ap length whole) in
    same-parts workers (new_tickets office.id (k + 1) k) (taker ∷ []) (new_ticket office.id (k + 1) (k + 1) ∷ []) whole long

-- the sessions that perform rows are all but the last one
pub workers_are : (office : BoardView) (k : ℕ) (all workers : List TicketView) (taker : TicketView) → all ≡ new_tickets office.id (k + 1) (k + 1)
    → all ≡ workers ++ option_to_list (Some taker) → workers ≡ new_tickets office.id (k + 1) k
workers_are office k all workers taker new split = (parts office k all workers taker new split).0

-- the taker is the last session
pub taker_is : (office : BoardView) (k : ℕ) (all workers : List TicketView) (taker : TicketView) → all ≡ new_tickets office.id (k + 1) (k + 1)
    → all ≡ workers ++ option_to_list (Some taker) → taker ≡ new_ticket office.id (k + 1) (k + 1)
taker_is office k all workers taker new split = ap (λ (l : List TicketView). get_or l 0 taker) (parts office k all workers taker new split).1

-- both are new sessions
pub both_new : (office : BoardView) (k : ℕ) (all workers : List TicketView) (taker : TicketView) → all ≡ new_tickets office.id (k + 1) (k + 1)
    → All (λ (s : TicketView). IsSessionOf office s × IsIdle s) all → all ≡ workers ++ option_to_list (Some taker)
    → All (IsNewSession office) workers × IsNewSession office taker
both_new office k all workers taker new ready split =
    All-pop (IsNewSession office) all workers (Some taker) split (sessions_new office (k + 1) all new ready)

-- a session that only took the history still has its number
number-kept : (taker after : TicketView) → bare after ≡ bare taker → after.number ≡ taker.number
number-kept taker after same = ap (λ (t : TicketView). t.number) same

-- the taker, which has no rows, performed them
pub taker_performed : (office : BoardView) (rows : List TraceRow) (k : ℕ) (taker after : TicketView) → taker ≡ new_ticket office.id (k + 1) (k + 1)
    → IsNewSession office taker → All (IsRow k) rows → IsSessionOf office after → bare after ≡ bare taker → IsPerformed office rows after
taker_performed office rows k taker after is new within ours same =
    let number : after.number ≡ k + 1 = number-kept taker after same ∙ ap (λ (t : TicketView). t.number) is in
    record {
      ours = ours;
      idle = (ap (λ (t : TicketView). t.pending) same ∙ new.idle.0, ap (λ (t : TicketView). t.retired) same ∙ new.idle.1);
      calls = ap calls_collected (ap (λ (t : TicketView). t.collected) same ∙ new.none)
          ∙ sym (calls-none after.number rows (All-weaker (IsRow k) (λ (r : TraceRow). r.session ≢ after.number)
          (λ r w. let few = w.last in λ here. omega (arith, few, here, number)) rows within));
    }

-- all sessions performed their rows
pub all_performed : (office : BoardView) (rows : List TraceRow) (k : ℕ) (done all : List TicketView) (taker after : TicketView)
    → taker ≡ new_ticket office.id (k + 1) (k + 1) → IsNewSession office taker → All (IsRow k) rows → IsSessionOf office after → bare after ≡ bare taker
    → All (IsPerformed office rows) done → all ≡ done ++ after ∷ [] → All (IsPerformed office rows) all
all_performed office rows k done all taker after is new within ours same performed pushed =
    subst (All (IsPerformed office rows)) (sym pushed)
    (All-push (IsPerformed office rows) done after performed (taker_performed office rows k taker after is new within ours same))

-- all sessions have the numbers of the opened ones
numbers-all : (office : BoardView) (k : ℕ) (workers done all : List TicketView) (taker after : TicketView) → workers ≡ new_tickets office.id (k + 1) k
    → taker ≡ new_ticket office.id (k + 1) (k + 1) → numbers_of done ≡ numbers_of workers → bare after ≡ bare taker → all ≡ done ++ after ∷ []
    → numbers_of all ≡ numbers_of (new_tickets office.id (k + 1) (k + 1))
numbers-all office k workers done all taker after are is numbers same pushed =
    let last = new_ticket office.id (k + 1) (k + 1) in
    ap numbers_of pushed ∙ map-append (λ (s : TicketView). s.number) done (after ∷ [])
    ∙ ap₂ (λ (xs ys : List ℕ). xs ++ ys) (numbers ∙ ap numbers_of are)
    (ap (λ (n : ℕ). n ∷ []) (number-kept taker after same ∙ ap (λ (t : TicketView). t.number) is))
    ∙ sym (map-append (λ (s : TicketView). s.number) (new_tickets office.id (k + 1) k) (last ∷ []))
    ∙ ap numbers_of (sym (last-new office (k + 1) k))

-- rows of k sessions are rows of k + 1
one-more : (rows : List TraceRow) (k : ℕ) → All (IsRow k) rows → All (IsRow (k + 1)) rows
one-more rows k within = All-weaker (IsRow k) (IsRow (k + 1)) (λ r w. let few = w.last in record { first = w.first; last = omega (arith, few); resources = w.resources }) rows within

-- the history of calls of the closed office is a history of the rows
pub run_of_streamed : (office : BoardView) (rows : List TraceRow) (k : ℕ) (workers done all : List TicketView) (taker after : TicketView) (programs : ProgramsView)
    → office.sessions ≡ k + 1 → workers ≡ new_tickets office.id (k + 1) k → taker ≡ new_ticket office.id (k + 1) (k + 1) → numbers_of done ≡ numbers_of workers
    → bare after ≡ bare taker → all ≡ done ++ after ∷ [] → All (IsPerformed office rows) all → All (IsRow k) rows → IsClosed office all programs
    → IsRunOf rows (flat_history programs.history)
run_of_streamed office rows k workers done all taker after programs sessions are is numbers same pushed performed within closed =
    run_of_closed office (k + 1) rows (new_tickets office.id (k + 1) (k + 1)) all programs sessions refl
    (numbers-all office k workers done all taker after are is numbers same pushed) performed (one-more rows k within) closed

-- such an office isn't refused a close
pub closes_streamed : (office : BoardView) (rows : List TraceRow) (k : ℕ) (workers done all : List TicketView) (taker after : TicketView) (fault : CloseFault)
    → office.sessions ≡ k + 1 → workers ≡ new_tickets office.id (k + 1) k → taker ≡ new_ticket office.id (k + 1) (k + 1) → numbers_of done ≡ numbers_of workers
    → bare after ≡ bare taker → all ≡ done ++ after ∷ [] → All (IsPerformed office rows) all
    → (fault ≡ close.Missing → ¬ IsEachOnce office.sessions all)
    → (fault ≡ close.Unsettled → IsEachOnce office.sessions all × ¬ All HasNothingPending all) → ⊥
closes_streamed office rows k workers done all taker after fault sessions are is numbers same pushed performed missing unsettled =
    closes office (k + 1) rows (new_tickets office.id (k + 1) (k + 1)) all fault sessions refl
    (numbers-all office k workers done all taker after are is numbers same pushed) performed missing unsettled

-- the calls that the taker knows begin the history of calls
pub taker_begins : (office : BoardView) (done all : List TicketView) (after : TicketView) (programs : ProgramsView) → all ≡ done ++ after ∷ []
    → IsClosed office all programs → IsPrefix (flat_history after.front) (flat_history programs.history)
taker_begins office done all after programs pushed closed =
    flat-prefix after.front programs.history (All-pop (AccountsFor programs.history) all done (Some after) pushed closed.accounts).1.front

-- all sessions of an opened office performed their rows
pub all_ready : (k : ℕ) (office : BoardView) (workers : List TicketView) (taker : TicketView) (rows : List TraceRow) (done : List TicketView) (after : TicketView)
    → IsOpenedFor k office workers taker → All (IsRow k) rows → IsSessionOf office after → bare after ≡ bare taker
    → All (IsPerformed office rows) done → All (IsPerformed office rows) (done ++ after ∷ [])
all_ready k office workers taker rows done after opened within ours same performed =
    all_performed office rows k done (done ++ after ∷ []) taker after opened.taker_is opened.taker_new within ours same performed refl

-- such an office isn't refused a close
pub never_refused : (k : ℕ) (office : BoardView) (workers : List TicketView) (taker : TicketView) (rows : List TraceRow) (done : List TicketView) (after : TicketView)
    → IsOpenedFor k office workers taker → numbers_of done ≡ numbers_of workers → bare after ≡ bare taker
    → All (IsPerformed office rows) (done ++ after ∷ []) → IsNeverRefused office (done ++ after ∷ [])
never_refused k office workers taker rows done after opened numbers same performed fault missing unsettled =
    closes_streamed office rows k workers done (done ++ after ∷ []) taker after fault opened.sessions opened.workers_are opened.taker_is numbers same refl
    performed missing unsettled

-- once the rest is written, the text of a history of the rows is
pub run_written : (k : ℕ) (office : BoardView) (workers : List TicketView) (taker : TicketView) (rows : List TraceRow) (done : List TicketView) (after : TicketView)
    (next : ℕ) (old mid new : Option (List ℕ))
    → IsOpenedFor k office workers taker → All (IsRow k) rows → numbers_of done ≡ numbers_of workers → bare after ≡ bare taker
    → All (IsPerformed office rows) (done ++ after ∷ []) → IsWrittenUpTo next (flat_history after.front) old mid
    → HasWrittenRest office (done ++ after ∷ []) next mid new → HasRun rows old new
run_written k office workers taker rows done after next old mid new opened within numbers same performed way rest =
    let all = done ++ after ∷ [] in
    let (programs, (closed, same_history)) = rest.1.0 in
    let h = flat_history programs.history in
    let behind = subst (λ (l : List Entry). (next ≤ length l) × Appends mid new (text_of_piece next (drop next l))) same_history (rest.1.1, rest.1.2) in
    let run : IsRunOf rows h =
    run_of_streamed office rows k workers done all taker after programs opened.sessions opened.workers_are opened.taker_is numbers same refl performed within closed in
    record {
      text = text_of_history h;
      is_history = (h, (run, refl));
      written = rest_written next (flat_history after.front) h old mid new way (taker_begins office done all after programs refl closed) behind.0 behind.1;
    }

-- if the rest isn't written, the text of a legal history is, or the beginning of one
pub rest_fault : (office : BoardView) (done : List TicketView) (after : TicketView) (next : ℕ) (old mid new : Option (List ℕ)) (fault : ToolFault)
    → IsWrittenUpTo next (flat_history after.front) old mid → IsFaultOfRest office (done ++ after ∷ []) next mid new fault → IsFaultOfStream old new fault
rest_fault office done after next old mid new fault way (inl (is, kept)) =
    let (history, (legal, written)) = front_of next (flat_history after.front) old mid way in
    subst (IsFaultOfStream old new) (sym is) (history, (legal, Appends-kept old mid new _ written kept))
rest_fault office done after next old mid new fault way (inr (book, ((programs, (closed, same)), is))) =
    rest_failed next (flat_history after.front) (flat_history programs.history) old mid new fault way (taker_begins office done _ after programs refl closed) closed.legal.0
    (subst (λ (l : List Entry). IsFaultOfPiece (text_of_piece next (drop next l)) mid new fault) same is)
