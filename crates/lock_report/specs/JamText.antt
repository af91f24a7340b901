-- The parts of the text for people that tell a jam. The format is this project's own choice.
use Rattle.std.specs.Prelude.{ℕ, Bool, if◌then◌else◌, List, [], ◌++◌, Option, Some, None, codes, decimal}
use Rattle.std.specs.List.{flat_map}
use Rattle.lock_rules.specs.declared.calls.Transaction.{Transaction}
use Rattle.lock_report.specs.declared.snapshot.OpenTransaction.{OpenTransaction}
use Rattle.lock_report.specs.declared.snapshot.Root.{Root}
use Rattle.lock_report.specs.declared.snapshot.WaitLine.{WaitLine}

-- the mark of a deadlock victim, at the end of what is said of its transaction
abbrev pub victim_mark : Transaction → List ℕ
victim_mark t = if t.doomed then codes ", victim" else []

-- a session with its open transaction
abbrev pub words_of_open : OpenTransaction → List ℕ
words_of_open o =
    codes "session " ++ decimal o.session ++ codes ", transaction " ++ decimal o.transaction.number
    ++ victim_mark o.transaction

-- the first line of a session: its number and its transaction
abbrev pub session_heading : OpenTransaction → List ℕ
session_heading o = words_of_open o ++ codes "\n"

-- how many sessions a root blocks, directly or through others
abbrev pub words_of_blocks : ℕ → List ℕ
words_of_blocks n = codes ", blocks " ++ decimal n ++ codes " in all"

-- how many waiting requests the abort of a root would grant
abbrev pub words_of_grants : ℕ → List ℕ
words_of_grants n = codes ", its abort would grant " ++ decimal n ++ codes "\n"

-- the line of a root
abbrev pub line_of_root : Root → List ℕ
line_of_root r = codes "root: " ++ words_of_open r.begun ++ words_of_blocks r.blocks ++ words_of_grants r.grants

-- the line of a deadlock victim, which hasn't aborted yet
abbrev pub line_of_victim : OpenTransaction → List ℕ
line_of_victim o = codes "not aborted: " ++ session_heading o

-- the line of a transaction if it is a deadlock victim, nothing for another
abbrev pub line_if_victim : OpenTransaction → List ℕ
line_if_victim o = if o.transaction.doomed then line_of_victim o else []

-- the section of the jam: how many sessions wait, the roots, and the victims among the open transactions
abbrev pub lines_of_jam : ℕ → List Root → List OpenTransaction → List ℕ
lines_of_jam waiting roots opens =
    codes "waiting: " ++ decimal waiting ++ codes "\n" ++ flat_map line_of_root roots ++ flat_map line_if_victim opens

-- the end of a wait's line: since when the session waits, where that is told
abbrev pub since_mark : Option ℕ → List ℕ
since_mark None = codes "\n"
since_mark (Some place) = codes ", since place " ++ decimal place ++ codes "\n"

-- what is between the session and the one that it waits for: blockers other than the first have `also`
abbrev pub wait_verb : Bool → List ℕ
wait_verb first = if first then codes "waits for" else codes "waits also for"

-- the line of a wait
abbrev pub line_of_wait : WaitLine → List ℕ
line_of_wait w =
    codes "session " ++ decimal w.wait.session ++ codes " " ++ wait_verb w.first ++ codes " session " ++ decimal w.wait.other
    ++ since_mark w.since
