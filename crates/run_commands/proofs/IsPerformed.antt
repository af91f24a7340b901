-- From the calls of a session to the sessions that performed their rows.
use Rattle.std.proofs.Common.{ap, sym, refl, ◌≡◌, ◌∙◌, ℕ, List, [], None, Some, Option, option_map, false}
use Rattle.publication.specs.Views.{BoardView}
use Rattle.lock_rules.specs.declared.calls.Call.{Call}
use Rattle.lock_programs.specs.Calls.{calls_of}
use Rattle.lock_office.specs.ProgramBoards.{TicketView, Pending}
use Rattle.lock_office.specs.Sessions.{IsSessionOf}
use Rattle.lock_trace.specs.declared.trace_row.TraceRow.{TraceRow}
use Rattle.run_commands.specs.Calls.{calls_collected, calls_of_rows}
use Rattle.run_commands.specs.Workers.{Calls, calls_known, first_call, IsNewSession, IsPerformed}

-- an option whose image is none is none
none-of_map : (p : Option Pending) → option_map (λ (q : Pending). first_call (calls_of q.call)) p ≡ None → p ≡ None
none-of_map None is = refl
none-of_map (Some q) is = cc

-- a session whose calls are those of its rows performed its rows
pub performed_known : (office : BoardView) (session : TicketView) (number : ℕ) (rows : List TraceRow)
    → IsSessionOf office session → session.retired ≡ false
    → calls_known session ≡ record { number = number; pending = None; collected = calls_of_rows number rows }
    → (session.number ≡ number) × IsPerformed office rows session
performed_known office session number rows ours still is =
    let number_is : session.number ≡ number = ap (λ (c : Calls). c.number) is in (
      number_is,
      record {
        ours = ours;
        idle = (none-of_map session.pending (ap (λ (c : Calls). c.pending) is), still);
        calls = ap (λ (c : Calls). c.collected) is ∙ ap (λ n. calls_of_rows n rows) (sym number_is);
      },
    )

-- a new session without rows performed its rows
pub performed_none : (office : BoardView) (session : TicketView) (rows : List TraceRow)
    → IsNewSession office session → calls_of_rows session.number rows ≡ [] → IsPerformed office rows session
performed_none office session rows new none = record {
  ours = new.ours;
  idle = new.idle;
  calls = ap calls_collected new.none ∙ sym none;
}
