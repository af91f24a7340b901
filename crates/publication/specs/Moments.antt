-- The moments of events. The moment of an event is how many events there were before it, of all sessions: the clock, which goes
-- on by one at each event. No session sees it whole; each notes the moments of its own events.
use Rattle.std.specs.Prelude.{ℕ, ◌+◌, ◌==◌, if◌then◌else◌, List, [], ◌∷◌}
use Rattle.sequential.specs.Linearizable.{Event, invocation, response}

module _ {C R : Type 0} where
  -- The session whose event it is.
  abbrev pub session_of : Event C R → ℕ
  session_of (invocation i call) = i
  session_of (response i reply) = i

  -- The events of session i among these, each with its moment, if the first has this moment.
  abbrev pub noted_from : ℕ → ℕ → List (Event C R) → List (ℕ × Event C R)
  noted_from i at [] = []
  noted_from i at (e ∷ es) = if session_of e == i then (at, e) ∷ noted_from i (at + 1) es else noted_from i (at + 1) es

  -- What session i notes of these events: its own, each with its moment.
  abbrev pub noted_by : ℕ → List (Event C R) → List (ℕ × Event C R)
  noted_by i es = noted_from i 0 es
