-- The calls of one session in a history.
use Rattle.std.specs.Prelude.{◌≡◌, ℕ, ◌+◌, ◌<◌, ◌≤◌, if◌then◌else◌, ◌==◌, List, [], ◌∷◌, Some, slice_get}
use Rattle.sequential.specs.declared.entry.Entry.{Entry}

-- A call of one session: its place in the history, counted from 0, and its reply.
pub record Answered (C R : Type 0) : Type 0 where
  pub place : ℕ
  pub call : C
  pub reply : R

module _ {C R : Type 0} where
  -- The session's calls among these entries, if the first entry has this place.
  abbrev pub calls_from : ℕ → ℕ → List (Entry C R) → List (Answered C R)
  calls_from s place [] = []
  calls_from s place (e ∷ es) =
      if e.session == s then record { place = place; call = e.call; reply = e.reply } ∷ calls_from s (place + 1) es else calls_from s (place + 1) es

  -- The session's calls in a history, in order.
  abbrev pub calls_of : ℕ → List (Entry C R) → List (Answered C R)
  calls_of s es = calls_from s 0 es

  -- The answered call is the session's entry at its place.
  abbrev pub IsEntryOf : ℕ → List (Entry C R) → Answered C R → Type 0
  IsEntryOf s es a = slice_get es a.place ≡ Some record { session = s; call = a.call; reply = a.reply }

  -- The places of these calls rise.
  abbrev pub ArePlacesRising : List (Answered C R) → Type 0
  ArePlacesRising [] = Unit {0}
  ArePlacesRising (a ∷ []) = Unit {0}
  ArePlacesRising (a ∷ b ∷ rest) = (a.place < b.place) × ArePlacesRising (b ∷ rest)

  -- The entry is of one of the sessions 1 to `sessions`.
  pub record IsEntryWithin (sessions : ℕ) (e : Entry C R) : Type 0 where
    pub some : 1 ≤ e.session
    pub within : e.session ≤ sessions
