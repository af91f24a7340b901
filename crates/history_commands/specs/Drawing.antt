-- What `timeline` writes: a picture of a legal history, of which only that it is of a legal one is said; else the verdict.
use Rattle.std.specs.Prelude.{◌≡◌, ◌⊎◌, ℕ, ◌<◌, ◌≤◌, List, length, All, Option, Some, None, Result, Ok, Err}
use Rattle.std.specs.Io.KnownBytes.{Appends}
use Rattle.lock_rules.specs.Entries.{Entry}
use Rattle.lock_trace.specs.Entries.{IsEntry}
use Rattle.lock_trace.specs.ReadHistories.{history_of, TellsOfHistory}
use Rattle.replay_commands.specs.declared.checking.Verdict.{Verdict}
use Rattle.replay_commands.specs.declared.checking.Verdict.TheVariants as verdict
use Rattle.history_commands.specs.declared.show_fault.ShowFault.{ShowFault}
use Rattle.history_commands.specs.declared.show_fault.ShowFault.TheVariants as show
use Rattle.history_commands.specs.Explaining.{HasPlace}
use Rattle.replay_commands.specs.Verdicts.{IsHistory, IsVerdict, text_of_verdict}
use Rattle.replay_commands.specs.Written.{AppendsPart}

-- the first place that was asked for isn't behind the last
abbrev pub IsInOrder : Option ℕ → Option ℕ → Type 0
IsInOrder (Some first) (Some last) = first ≤ last
IsInOrder _ _ = Unit {0}

-- a place is before the first that was asked for
abbrev pub IsBefore : ℕ → Option ℕ → Type 0
IsBefore place None = ⊥
IsBefore place (Some first) = place < first

-- the history has entries at the first and the last place that were asked for, in this order
pub record HasRange (from to : Option ℕ) (history : List Entry) : Type 0 where
  pub first : HasPlace from history
  pub last : HasPlace to history
  pub order : IsInOrder from to

-- a place that was asked for and that the history hasn't got, or the last place, if it is before the first
abbrev pub IsMissing : Option ℕ → Option ℕ → List Entry → ℕ → Type 0
IsMissing from to history place =
    ((from ≡ Some place) × (length history ≤ place)) ⊎ ((to ≡ Some place) × ((length history ≤ place) ⊎ IsBefore place from))

-- the text is what is written of a history with this verdict: of one that isn't legal, the verdict
abbrev pub IsTextDrawn : Verdict → List ℕ → Type 0
IsTextDrawn (verdict.Legal count) text = Unit {0}
IsTextDrawn (verdict.Illegal first) text = text ≡ text_of_verdict (verdict.Illegal first)

-- the text is what is written of some history of the sessions 1 to n that has the places and this verdict
pub record IsDrawn (from to : Option ℕ) (verdict : Verdict) (history : List Entry) (text : List ℕ) : Type 0 where
  pub within : HasRange from to history
  pub is_right : IsVerdict history verdict
  pub text_is : IsTextDrawn verdict text

-- for some history of the sessions 1 to n, the output grew by what is written of it, and by nothing else
abbrev pub HasDrawn : ℕ → Option ℕ → Option ℕ → Verdict → Option (List ℕ) → Option (List ℕ) → Type 0
HasDrawn n from to verdict old new =
    (history : List Entry) × (text : List ℕ) × (All (IsEntry n) history × IsDrawn from to verdict history text × Appends old new text)

-- for some history of the sessions 1 to n, the output grew by the first bytes of what is written of it, and by nothing else
abbrev pub HasDrawnPart : ℕ → Option ℕ → Option ℕ → Option (List ℕ) → Option (List ℕ) → Type 0
HasDrawnPart n from to old new =
    (history : List Entry) × (verdict : Verdict) × (text : List ℕ) × (All (IsEntry n) history × IsDrawn from to verdict history text × AppendsPart old new text)

-- the result of drawing the history that these bytes are; the output holds `old` before and `new` after
abbrev pub Draws : ℕ → Option ℕ → Option ℕ → List ℕ → Option (List ℕ) → Option (List ℕ) → Result Verdict ShowFault → Type 0
Draws n from to bytes old new (Ok found) =
    (history : List Entry) × (text : List ℕ) × ((history_of n bytes ≡ Ok history) × IsDrawn from to found history text × Appends old new text)
Draws n from to bytes old new (Err (show.Trace fault)) = TellsOfHistory n bytes fault
Draws n from to bytes old new (Err (show.NoPlace place entries)) =
    (history : List Entry) × ((history_of n bytes ≡ Ok history) × (entries ≡ length history) × IsMissing from to history place)
Draws n from to bytes old new (Err show.NoMemory) = IsHistory n bytes
Draws n from to bytes old new (Err show.Device) = (history : List Entry) × (found : Verdict) × (text : List ℕ)
    × ((history_of n bytes ≡ Ok history) × IsDrawn from to found history text × AppendsPart old new text)
