-- The calls with which a program begins, and those of a path.
use Rattle.std.specs.Prelude.{ℕ, zero, suc, ◌+◌, List, [], ◌∷◌, take}
use Rattle.lock_modes.specs.declared.Mode.{Mode}
use Rattle.lock_rules.specs.declared.calls.Call.{Call}
use Rattle.lock_rules.specs.declared.calls.Call.TheVariants.{Begin, Lock, Convert, Poll, Release, Commit, Abort, Try, Withdraw, Restart}
use Rattle.lock_programs.specs.declared.program.Start.{Start}
use Rattle.lock_programs.specs.declared.program.Start.TheVariants.{Nothing, Begins, Commits, Aborts, CommitsAndBegins, AbortsAndBegins, Restarts}
use Rattle.lock_programs.specs.declared.program.Last.{Last}
use Rattle.lock_programs.specs.declared.program.Last.TheVariants.{Locks, Converts, Tries, Releases, Polls, Withdraws}

-- the calls that end a transaction and begin one, or restart it
abbrev pub start_calls : Start → List Call
start_calls Nothing = []
start_calls Begins = Begin ∷ []
start_calls Commits = Commit ∷ []
start_calls Aborts = Abort ∷ []
start_calls CommitsAndBegins = Commit ∷ Begin ∷ []
start_calls AbortsAndBegins = Abort ∷ Begin ∷ []
start_calls Restarts = Restart ∷ []

-- the last call of a path to this resource
abbrev pub last_call : Last → List ℕ → Call
last_call (Locks m) r = Lock r m
last_call (Converts m) r = Convert r m
last_call (Tries m) r = Try r m
last_call Releases r = Release r
last_call Polls r = Poll
last_call Withdraws r = Withdraw

-- the call on an ancestor: a path that ends with a try tries the ancestors, too, so that none of its requests waits
abbrev pub ancestor_call : Mode → Last → List ℕ → Call
ancestor_call above (Tries m) r = Try r above
ancestor_call above _ r = Lock r above

-- the call on a resource of a path with so many calls behind it: an ancestor is locked in the mode above
abbrev pub call_before : Mode → Last → ℕ → List ℕ → Call
call_before above last zero r = last_call last r
call_before above last (suc n) r = ancestor_call above last r

-- so many calls on the path to resource r, from this level on downwards: the resource of level k is the first k numbers of r
abbrev pub path_calls : List ℕ → Mode → Last → ℕ → ℕ → List Call
path_calls r above last from zero = []
path_calls r above last from (suc n) = call_before above last n (take from r) ∷ path_calls r above last (from + 1) n
