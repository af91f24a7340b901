-- The calls of one session, from the rows of a trace or from its answers.
use Rattle.std.specs.Prelude.{◌==◌, ℕ, List, map}
use Rattle.std.specs.List.{filter}
use Rattle.lock_rules.specs.declared.calls.Call.{Call}
use Rattle.lock_rules.specs.Entries.{Answered}
use Rattle.lock_office.specs.ProgramBoards.{AnsweredProgram, calls_answered as answers_of_calls}
use Rattle.lock_trace.specs.declared.trace_row.TraceRow.{TraceRow}

-- the calls of session `i` in the rows of a trace, in order
abbrev pub calls_of_rows : ℕ → List TraceRow → List Call
calls_of_rows i rows = map (λ (row : TraceRow). row.call) (filter (λ (row : TraceRow). row.session == i) rows)

-- the calls of a list of answers, in order
abbrev pub calls_answered : List Answered → List Call
calls_answered answers = map (λ (a : Answered). a.call) answers

-- the calls of the programs of a list of answers, in order, up to where each stopped
abbrev pub calls_collected : List AnsweredProgram → List Call
calls_collected answers = calls_answered (answers_of_calls answers)
