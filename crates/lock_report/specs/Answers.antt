-- What the answer to a poll tells of its session: for whom it waits, since when, and which call made its transaction a deadlock victim.
use Rattle.std.specs.Prelude.{ℕ, List, [], ◌++◌, Option, Some, None, codes, decimal}
use Rattle.std.specs.List.{flat_map}
use Rattle.lock_report.specs.declared.snapshot.Doom.{Doom}
use Rattle.lock_report.specs.declared.snapshot.WaitLine.{WaitLine}
use Rattle.lock_report.specs.JamText.{line_of_wait}

-- the line of a wait, as in the section of the waits, but indented
abbrev pub line_of_answer : WaitLine → List ℕ
line_of_answer w = codes "  " ++ line_of_wait w

-- the place at which a transaction was made a victim
abbrev pub words_of_place : ℕ → List ℕ
words_of_place place = codes "  made a victim at place " ++ decimal place

-- the session whose call made it one
abbrev pub words_of_caller : ℕ → List ℕ
words_of_caller s = codes ", by a call of session " ++ decimal s ++ codes "\n"

-- the line of the call that made the transaction a victim, nothing for None
abbrev pub line_of_doom : Option Doom → List ℕ
line_of_doom None = []
line_of_doom (Some d) = words_of_place d.place ++ words_of_caller d.session

-- the answer as lines for people
abbrev pub text_of_answer : List WaitLine → Option Doom → List ℕ
text_of_answer waits doom = flat_map line_of_answer waits ++ line_of_doom doom

-- the row of the place since when the session waits, nothing for None
abbrev pub row_of_since : ℕ → ℕ → Option ℕ → List ℕ
row_of_since place s None = []
row_of_since place s (Some since) = decimal place ++ codes ",since," ++ decimal s ++ codes ",,,," ++ decimal since ++ codes "\n"

-- the rows of a wait
abbrev pub rows_of_told : ℕ → WaitLine → List ℕ
rows_of_told place w =
    decimal place ++ codes ",waits," ++ decimal w.wait.session ++ codes ",,,," ++ decimal w.wait.other ++ codes "\n"
    ++ row_of_since place w.wait.session w.since

-- the row of the call that made the transaction a victim, nothing for None
abbrev pub row_of_doom : ℕ → Option Doom → List ℕ
row_of_doom place None = []
row_of_doom place (Some d) = decimal place ++ codes ",doomed," ++ decimal d.session ++ codes ",,,," ++ decimal d.place ++ codes "\n"

-- the answer to the poll at this place as rows
abbrev pub rows_of_answer : ℕ → List WaitLine → Option Doom → List ℕ
rows_of_answer place waits doom = flat_map (rows_of_told place) waits ++ row_of_doom place doom
