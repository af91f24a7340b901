-- What a step of the code tells: its outcome, and that what its kind requires was met.
use Rattle.std.specs.Prelude.{ℕ, Option, Some, None}
use Rattle.sequential.specs.declared.object.Sequential.{Ghosts}
use Rattle.publication.specs.StepKinds.{Seated, Kind, enters_named}
use Rattle.publication.specs.Runs.{StepName, enter, kind_of, StepRequires}

module _ {O C R : Type 0} (obj : Ghosts O C R) where
  -- A step of this kind: its outcome is as the kind says, and what the kind requires of its word and its seat was met.
  abbrev pub tells : StepName C R → Kind O C R
  tells name st m found n = kind_of obj name st m found n × StepRequires obj name st.word m

  -- What a direct entry requires, where the call and the reply are named.
  abbrev pub EntryRequires : Option C → Option R → ℕ → Seated O C R → Type 0
  EntryRequires (Some call) (Some reply) at m = StepRequires obj (enter call reply) at m
  EntryRequires (Some call) None at m = Unit {0}
  EntryRequires None reply at m = Unit {0}

  -- A direct entry of the call and the reply that are named.
  abbrev pub tells_entry : Option C → Option R → Kind O C R
  tells_entry call reply st m found n = enters_named call reply st m found n × EntryRequires call reply st.word m
