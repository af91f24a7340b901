-- The calls of a program.
use Rattle.std.specs.Prelude.{◌+◌, ◌-◌, List, [], ◌∷◌, ◌++◌, length}
use Rattle.lock_rules.specs.declared.calls.Call.{Call}
use Rattle.lock_programs.specs.declared.path.StartedPath.{StartedPath}
use Rattle.lock_programs.specs.declared.program.Calls.{Calls}
use Rattle.lock_programs.specs.declared.program.Calls.TheVariants.{One, Path}
use Rattle.lock_programs.specs.declared.program.Program.{Program}
use Rattle.lock_programs.specs.Starts.{start_calls, path_calls}

-- the calls of a path, one for each level from the first to that of the resource
abbrev pub path_of : StartedPath → List Call
path_of p = path_calls p.resource p.above p.last p.from (length p.resource + 1 - p.from)

-- the calls of a path, with those before it
abbrev pub calls_started : StartedPath → List Call
calls_started p = start_calls p.start ++ path_of p

-- one call, or those of a path
abbrev pub calls_in : Calls → List Call
calls_in (One c) = c ∷ []
calls_in (Path p) = calls_started p

-- all calls of a program, in order
abbrev pub calls_of : Program → List Call
calls_of p = calls_in p.calls
