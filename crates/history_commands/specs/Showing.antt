-- What `show` writes: the state of the lock table at a place of a history.
use Rattle.std.specs.Prelude.{◌≡◌, ℕ, ◌<◌, ◌≤◌, List, [], ◌∷◌, if◌then◌else◌, length, take, All, Option, Some, None, Result, Ok, Err}
use Rattle.std.specs.List.{flat_map, range_with_len}
use Rattle.std.specs.Io.KnownBytes.{Appends}
use Rattle.lock_rules.specs.Entries.{Entry}
use Rattle.lock_rules.specs.declared.calls.Transaction.{Transaction}
use Rattle.lock_rules.specs.State.{State}
use Rattle.lock_rules.specs.Waits.{waits_for}
use Rattle.lock_rules.specs.Legal.{state_of}
use Rattle.lock_rules.specs.Listing.{listing_of}
use Rattle.lock_trace.specs.Entries.{IsEntry}
use Rattle.lock_trace.specs.ReadHistories.{history_of, TellsOfHistory}
use Rattle.lock_report.specs.declared.snapshot.OpenTransaction.{OpenTransaction}
use Rattle.lock_report.specs.declared.snapshot.WaitFor.{WaitFor}
use Rattle.lock_report.specs.StateText.{text_of_state}
use Rattle.lock_report.specs.StateRows.{rows_of_state}
use Rattle.lock_report.specs.Dot.{dot_of_waits}
use Rattle.lock_report.specs.LocksDot.{dot_of_locks}
use Rattle.lock_report.specs.Blocking.{first_waits}
use Rattle.command_line.specs.declared.args.Form.{Form}
use Rattle.command_line.specs.declared.args.Form.TheVariants as form
use Rattle.replay_commands.specs.declared.checking.Verdict.{Verdict}
use Rattle.replay_commands.specs.declared.checking.Verdict.TheVariants as verdict
use Rattle.history_commands.specs.declared.show_fault.ShowFault.{ShowFault}
use Rattle.history_commands.specs.declared.show_fault.ShowFault.TheVariants as show
use Rattle.history_commands.specs.Roots.{roots_of}
use Rattle.replay_commands.specs.Verdicts.{IsHistory, IsVerdict, text_of_verdict}
use Rattle.history_commands.specs.Waits.{waits_told}
use Rattle.replay_commands.specs.Written.{AppendsPart}

-- the session's open transaction in a list, the empty list if it has none
abbrev pub open_of : ℕ → Option Transaction → List OpenTransaction
open_of s None = []
open_of s (Some x) = record { session = s; transaction = x } ∷ []

-- the open transactions of the sessions 1 to n, by session number
abbrev pub opens_of : ℕ → State → List OpenTransaction
opens_of n st = flat_map (λ s. open_of s (st.begun s)) (range_with_len 1 n)

-- the edge of the waits-for graph from s to u in a list, the empty list if there is none
abbrev pub wait_of : State → ℕ → ℕ → List WaitFor
wait_of st s u = if waits_for st.table s u then record { session = s; other = u } ∷ [] else []

-- for whom session s waits directly, of the sessions 1 to n, by session number
abbrev pub waits_by : ℕ → State → ℕ → List WaitFor
waits_by n st s = flat_map (wait_of st s) (range_with_len 1 n)

-- who of the sessions 1 to n waits directly for whom, by session number
abbrev pub waits_of : ℕ → State → List WaitFor
waits_of n st = flat_map (waits_by n st) (range_with_len 1 n)

-- the text for people of the state in front of a place, to which these entries have led
abbrev pub lines_in : ℕ → ℕ → List Entry → List ℕ
lines_in n place front =
    let st = state_of front in
    text_of_state (Some place) (length st.table.requests) (roots_of n st) (opens_of n st) (listing_of st) (waits_told n st front)

-- the contended resources as boxes in that state, and for whom each session waits first, as a graph
abbrev pub boxes_in : ℕ → List Entry → List ℕ
boxes_in n front =
    let st = state_of front in
    dot_of_locks (opens_of n st) (listing_of st) (waits_told n st front)

-- the text of the state in front of a place, to which these entries have led
abbrev pub text_in : Form → ℕ → ℕ → List Entry → List ℕ
text_in form.Lines n place front = lines_in n place front
text_in form.Rows n place front = rows_of_state (opens_of n (state_of front)) (listing_of (state_of front)) (first_waits (waits_told n (state_of front) front))
text_in form.Graph n place front = boxes_in n front
text_in form.Waits n place front = dot_of_waits (opens_of n (state_of front)) (waits_of n (state_of front))

-- the place that is shown: the one that was asked for, or the end of the history
abbrev pub place_shown : Option ℕ → List Entry → ℕ
place_shown None history = length history
place_shown (Some place) history = place

-- what is written of a history with this verdict: if it is legal, the state behind the entries in front of the place, else the verdict
abbrev pub text_shown : Form → ℕ → ℕ → List Entry → Verdict → List ℕ
text_shown form n place history (verdict.Legal count) = text_in form n place (take place history)
text_shown form n place history (verdict.Illegal first) = text_of_verdict (verdict.Illegal first)

-- the text is what is written of some history of the sessions 1 to n that has the place and this verdict
pub record IsShown (form : Form) (n : ℕ) (asked : Option ℕ) (verdict : Verdict) (history : List Entry) (text : List ℕ) : Type 0 where
  pub within : place_shown asked history ≤ length history
  pub is_right : IsVerdict history verdict
  pub text_is : text ≡ text_shown form n (place_shown asked history) history verdict

-- for some history of the sessions 1 to n, the output grew by what is written of it, and by nothing else
abbrev pub HasShown : Form → ℕ → Option ℕ → Verdict → Option (List ℕ) → Option (List ℕ) → Type 0
HasShown form n asked verdict old new =
    (history : List Entry) × (text : List ℕ) × (All (IsEntry n) history × IsShown form n asked verdict history text × Appends old new text)

-- for some history of the sessions 1 to n, the output grew by the first bytes of what is written of it, and by nothing else
abbrev pub HasShownPart : Form → ℕ → Option ℕ → Option (List ℕ) → Option (List ℕ) → Type 0
HasShownPart form n asked old new =
    (history : List Entry) × (verdict : Verdict) × (text : List ℕ) × (All (IsEntry n) history × IsShown form n asked verdict history text × AppendsPart old new text)

-- the result of showing a state of the history that these bytes are; the output holds `old` before and `new` after
abbrev pub Shows : Form → ℕ → Option ℕ → List ℕ → Option (List ℕ) → Option (List ℕ) → Result Verdict ShowFault → Type 0
Shows form n asked bytes old new (Ok found) =
    (history : List Entry) × (text : List ℕ) × ((history_of n bytes ≡ Ok history) × IsShown form n asked found history text × Appends old new text)
Shows form n asked bytes old new (Err (show.Trace fault)) = TellsOfHistory n bytes fault
Shows form n asked bytes old new (Err (show.NoPlace place entries)) =
    (history : List Entry) × ((history_of n bytes ≡ Ok history) × (asked ≡ Some place) × (entries ≡ length history) × (length history < place))
Shows form n asked bytes old new (Err show.NoMemory) = IsHistory n bytes
Shows form n asked bytes old new (Err show.Device) = (history : List Entry) × (found : Verdict) × (text : List ℕ)
    × ((history_of n bytes ≡ Ok history) × IsShown form n asked found history text × AppendsPart old new text)
