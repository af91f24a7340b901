-- A wait under a test.
use Rattle.std.specs.Prelude.{ℕ, Bool, if◌then◌else◌, List, [], ◌∷◌}
use Rattle.lock_report.specs.declared.snapshot.WaitFor.{WaitFor}

-- the wait of session s for session u in a list, the empty list if the test fails
abbrev pub wait_if : Bool → ℕ → ℕ → List WaitFor
wait_if test s u = if test then record { session = s; other = u } ∷ [] else []
