-- Which call made the transaction of a session a deadlock victim.
use Rattle.std.specs.Prelude.{ℕ, ◌+◌, Bool, not, ◌&&◌, if◌then◌else◌, List, [], ◌∷◌, Option, Some, None}
use Rattle.lock_rules.specs.Entries.{Entry}
use Rattle.lock_rules.specs.State.{State, empty, is_doomed}
use Rattle.lock_rules.specs.Step.{step}
use Rattle.lock_report.specs.declared.snapshot.Doom.{Doom}

-- the call of the entry makes the transaction of session s a victim in this state
abbrev pub does_doom : ℕ → State → Entry → Bool
does_doom s st e = not (is_doomed st s) && is_doomed (step st e.session e.call).state s

-- the last of these calls that makes the transaction of session s a victim, where the first of them is at `place` and is made in this
-- state, and `last` is the answer for those before it
abbrev pub doom_from : ℕ → State → ℕ → Option Doom → List Entry → Option Doom
doom_from s st place last [] = last
doom_from s st place last (e ∷ es) =
    doom_from s (step st e.session e.call).state (place + 1) (if does_doom s st e then Some (record { place = place; session = e.session }) else last) es

-- the last call of the history that made the transaction of session s a victim, None if no call did
abbrev pub doomed_by : ℕ → List Entry → Option Doom
doomed_by s history = doom_from s empty 0 None history
