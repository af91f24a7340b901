-- What programs weigh in a pass: how many locks they give back.
use Rattle.std.specs.Prelude.{ℕ, Bool, true, false, if◌then◌else◌, List, [], ◌∷◌, length}
use Rattle.lock_rules.specs.declared.calls.Call.{Call}
use Rattle.lock_rules.specs.declared.calls.Call.TheVariants.{Commit, Abort, Restart}
use Rattle.lock_rules.specs.Legal.{state_of}
use Rattle.lock_rules.specs.State.{claims_of}
use Rattle.lock_programs.specs.declared.program.Program.{Program}
use Rattle.lock_programs.specs.Calls.{calls_of}
use Rattle.lock_office.specs.ProgramBoards.{ProgramEntry, flat_history}

-- The call gives back all locks of its session: it ends the transaction or restarts it.
abbrev pub gives_all_back : Call → Bool
gives_all_back Commit = true
gives_all_back Abort = true
gives_all_back Restart = true
gives_all_back call = false

-- A program of these calls begins with such a call. No later call of a program is one.
abbrev pub begins_with_an_end : List Call → Bool
begins_with_an_end [] = false
begins_with_an_end (c ∷ cs) = gives_all_back c

-- How many locks a program of this session gives back by its first call, if it is served behind this history.
abbrev pub locks_given_back : List ProgramEntry → ℕ → Program → ℕ
locks_given_back history session program =
    if begins_with_an_end (calls_of program) then length (claims_of session (state_of (flat_history history)).table.held) else 0
