-- What `explain` writes: what the calls of a history did, and why.
use Rattle.std.specs.Prelude.{◌≡◌, ℕ, ◌<◌, ◌≤◌, Bool, true, false, if◌then◌else◌, List, [], ◌∷◌, ◌++◌, length, take, slice_get, All, Option, Some, None, Result, Ok, Err}
use Rattle.std.specs.Io.KnownBytes.{Appends}
use Rattle.lock_rules.specs.declared.calls.Call.{Call}
use Rattle.lock_rules.specs.declared.calls.Call.TheVariants.{Poll}
use Rattle.lock_rules.specs.Entries.{Entry}
use Rattle.lock_rules.specs.State.{is_doomed}
use Rattle.lock_rules.specs.Step.{step}
use Rattle.lock_rules.specs.Ended.{ended_waits}
use Rattle.lock_rules.specs.Legal.{state_of}
use Rattle.lock_trace.specs.Entries.{IsEntry}
use Rattle.lock_trace.specs.Histories.{text_of_piece}
use Rattle.lock_trace.specs.ReadHistories.{history_of, TellsOfHistory}
use Rattle.lock_explain.specs.declared.explanation.Explanation.{Explanation}
use Rattle.lock_explain.specs.Explanations.{IsExplanation, is_eventful}
use Rattle.lock_explain.specs.ExplanationText.{text_of_explanation}
use Rattle.lock_explain.specs.ExplanationRows.{rows_of_explanation}
use Rattle.lock_explain.specs.ExplanationDot.{dot_of_explanation}
use Rattle.lock_report.specs.declared.snapshot.Doom.{Doom}
use Rattle.lock_report.specs.Answers.{rows_of_answer, text_of_answer}
use Rattle.history_commands.specs.Dooms.{doomed_by}
use Rattle.history_commands.specs.Waits.{waits_of}
use Rattle.command_line.specs.declared.args.Form.{Form}
use Rattle.command_line.specs.declared.args.Form.TheVariants as form
use Rattle.replay_commands.specs.declared.checking.Verdict.{Verdict}
use Rattle.replay_commands.specs.declared.checking.Verdict.TheVariants as verdict
use Rattle.history_commands.specs.declared.show_fault.ShowFault.{ShowFault}
use Rattle.history_commands.specs.declared.show_fault.ShowFault.TheVariants as show
use Rattle.replay_commands.specs.Verdicts.{IsHistory, IsVerdict, text_of_verdict}
use Rattle.replay_commands.specs.Written.{AppendsPart}

-- the account of an entry at a place, in this form: lines begin with the row of the entry
abbrev pub account_in : Form → ℕ → Entry → Explanation → List ℕ
account_in form.Lines place e x = text_of_piece place (e ∷ []) ++ text_of_explanation x
account_in form.Rows place e x = rows_of_explanation place e.session x
account_in form.Graph place e x = dot_of_explanation place x
account_in form.Waits place e x = dot_of_explanation place x

-- the call is a poll
abbrev pub is_poll : Call → Bool
is_poll Poll = true
is_poll _ = false

-- behind these entries, the call that made the transaction of the session a victim, None if it is no victim
abbrev pub doom_answered : List Entry → ℕ → Option Doom
doom_answered front s = if is_doomed (state_of front) s then doomed_by s front else None

-- with sessions 1 to n, behind these entries, what the answer to a poll of session s tells, in this form; a graph doesn't tell it
abbrev pub answer_in : Form → ℕ → List Entry → ℕ → List ℕ
answer_in form.Lines n front s = text_of_answer (waits_of n (state_of front).table front s) (doom_answered front s)
answer_in form.Rows n front s = rows_of_answer (length front) (waits_of n (state_of front).table front s) (doom_answered front s)
answer_in form.Graph n front s = []
answer_in form.Waits n front s = []

-- what the answer to this call tells, nothing if it is no poll
abbrev pub answer_told : Form → ℕ → List Entry → Entry → List ℕ
answer_told form n front e = if is_poll e.call then answer_in form n front e.session else []

-- with sessions 1 to n, the text is the account of this entry behind these entries
abbrev pub IsAccount : Form → ℕ → List Entry → Entry → List ℕ → Type 0
IsAccount form n front e text =
    (x : Explanation) × IsExplanation n (state_of front) e.session e.call x × (text ≡ account_in form (length front) e x ++ answer_told form n front e)

-- with sessions 1 to n, the entry behind these entries was refused, its request waited, or it ended the wait of another session
abbrev pub is_entry_eventful : ℕ → List Entry → Entry → Bool
is_entry_eventful n front e = is_eventful e.call e.reply (ended_waits n e.session (state_of front) (step (state_of front) e.session e.call).state)

-- the text is the account of the entry if its call is eventful, and else empty
abbrev pub IsAccountIfEventful : Bool → Form → ℕ → List Entry → Entry → List ℕ → Type 0
IsAccountIfEventful true form n front e text = IsAccount form n front e text
IsAccountIfEventful false form n front e text = text ≡ []

-- the text is the accounts of the eventful ones of these entries, one after another; the first of them is behind `front`
abbrev pub AreAccounts : Form → ℕ → List Entry → List Entry → List ℕ → Type 0
AreAccounts form n front [] text = text ≡ []
AreAccounts form n front (e ∷ es) text = (first rest : List ℕ)
    × (IsAccountIfEventful (is_entry_eventful n front e) form n front e first × AreAccounts form n (front ++ e ∷ []) es rest × (text ≡ first ++ rest))

-- the history has an entry at the place, if one was asked for
abbrev pub HasPlace : Option ℕ → List Entry → Type 0
HasPlace None history = Unit {0}
HasPlace (Some place) history = place < length history

-- the text is what is written of a legal history: the account of the entry at the place that was asked for, or else those of all
-- eventful entries
abbrev pub IsLegalExplained : Form → ℕ → Option ℕ → List Entry → List ℕ → Type 0
IsLegalExplained form n None history text = AreAccounts form n [] history text
IsLegalExplained form n (Some place) history text = (e : Entry) × (slice_get history place ≡ Some e) × IsAccount form n (take place history) e text

-- the text is what is written of a history with this verdict: of one that isn't legal, the verdict
abbrev pub IsTextExplained : Form → ℕ → Option ℕ → List Entry → Verdict → List ℕ → Type 0
IsTextExplained form n asked history (verdict.Legal count) text = IsLegalExplained form n asked history text
IsTextExplained form n asked history (verdict.Illegal first) text = text ≡ text_of_verdict (verdict.Illegal first)

-- the text is what is written of some history of the sessions 1 to n that has the place and this verdict
pub record IsExplained (form : Form) (n : ℕ) (asked : Option ℕ) (verdict : Verdict) (history : List Entry) (text : List ℕ) : Type 0 where
  pub within : HasPlace asked history
  pub is_right : IsVerdict history verdict
  pub text_is : IsTextExplained form n asked history verdict text

-- for some history of the sessions 1 to n, the output grew by what is written of it, and by nothing else
abbrev pub HasExplained : Form → ℕ → Option ℕ → Verdict → Option (List ℕ) → Option (List ℕ) → Type 0
HasExplained form n asked verdict old new =
    (history : List Entry) × (text : List ℕ) × (All (IsEntry n) history × IsExplained form n asked verdict history text × Appends old new text)

-- for some history of the sessions 1 to n, the output grew by the first bytes of what is written of it, and by nothing else
abbrev pub HasExplainedPart : Form → ℕ → Option ℕ → Option (List ℕ) → Option (List ℕ) → Type 0
HasExplainedPart form n asked old new =
    (history : List Entry) × (verdict : Verdict) × (text : List ℕ) × (All (IsEntry n) history × IsExplained form n asked verdict history text × AppendsPart old new text)

-- the result of explaining the history that these bytes are; the output holds `old` before and `new` after
abbrev pub Explains : Form → ℕ → Option ℕ → List ℕ → Option (List ℕ) → Option (List ℕ) → Result Verdict ShowFault → Type 0
Explains form n asked bytes old new (Ok found) =
    (history : List Entry) × (text : List ℕ) × ((history_of n bytes ≡ Ok history) × IsExplained form n asked found history text × Appends old new text)
Explains form n asked bytes old new (Err (show.Trace fault)) = TellsOfHistory n bytes fault
Explains form n asked bytes old new (Err (show.NoPlace place entries)) =
    (history : List Entry) × ((history_of n bytes ≡ Ok history) × (asked ≡ Some place) × (entries ≡ length history) × (length history ≤ place))
Explains form n asked bytes old new (Err show.NoMemory) = IsHistory n bytes
Explains form n asked bytes old new (Err show.Device) = (history : List Entry) × (found : Verdict) × (text : List ℕ)
    × ((history_of n bytes ≡ Ok history) × IsExplained form n asked found history text × AppendsPart old new text)
