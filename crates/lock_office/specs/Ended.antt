-- Whose waits the passes of a session have ended, by the calls of the programs that it entered.
use Rattle.std.specs.Prelude.{ℕ, ◌+◌, ◌-◌, List}
use Rattle.std.specs.List.{flat_map, range_with_len}
use Rattle.programs.specs.Views.{place_of}
use Rattle.programs.specs.Ended.{EndsWait as EndsWaitOf}
use Rattle.combining.specs.Woken.{AreToldBy as AreToldByAny}
use Rattle.lock_desk.specs.Batches.{ends_wait}
use Rattle.lock_programs.specs.Answers.{program_form}
use Rattle.lock_office.specs.ProgramBoards.{ProgramEntry}

-- The program, which follows this history, has ended the wait of session u: one of its calls has.
abbrev pub EndsWait : List ProgramEntry → ProgramEntry → ℕ → Type 0
EndsWait = EndsWaitOf program_form ends_wait

-- The list has exactly the sessions from 1 to n whose wait the program at one of these places of the history has ended, each once.
abbrev pub AreToldBy : ℕ → List ProgramEntry → List ℕ → List ℕ → Type 0
AreToldBy = AreToldByAny EndsWait

-- The places that the calls of the program at this place have in the history of calls: from that of its first call up to that of
-- the next program's.
abbrev pub places_within : List ProgramEntry → ℕ → List ℕ
places_within history place =
    range_with_len (place_of program_form place history) (place_of program_form (place + 1) history - place_of program_form place history)

-- The places of the calls of the programs at these places.
abbrev pub places_of_calls : List ProgramEntry → List ℕ → List ℕ
places_of_calls history places = flat_map (places_within history) places
