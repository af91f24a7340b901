use Rattle.std.proofs.Common.{◌≡◌, ◌++◌, map, take}
use Rattle.library_sessions.specs.Dumps.{numbers_of_open}
use Rattle.library_sessions.proofs.dump.add_opens.Given as goal

-- the rows of those before this one are added
abbrev pub invariant-loop-open : goal.invariant-loop-open
invariant-loop-open l = l.rows.items ≡ l.fn.rows.items ++ map numbers_of_open (take l.open-index l.opens)
