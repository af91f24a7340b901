-- A legal history goes on with the calls of further rows, and its text with their lines.
use Rattle.std.proofs.Common.{◌≡◌, ◌∙◌, ℕ, List, [], ◌∷◌, ◌++◌, Option, length, take, drop, map, refl, sym, ap, subst, take-append-drop, zero-add}
use Rattle.std.proofs.lemmas.List.{map-append}
use Rattle.lock_rules.specs.declared.calls.Call.{Call}
use Rattle.lock_rules.specs.Entries.{Entry}
use Rattle.lock_rules.specs.State.{State, empty}
use Rattle.lock_rules.specs.Step.{step}
use Rattle.lock_rules.specs.Legal.{state_after, state_of, IsLegal, IsLegalFrom}
use Rattle.sequential.specs.Batches.{asked_in}
use Rattle.lock_rules.proofs.Histories.{one-history}
use Rattle.lock_trace.specs.declared.trace_row.TraceRow.{TraceRow}
use Rattle.lock_trace.specs.Histories.{row_of_entry, text_of_history, text_of_piece}
use Rattle.lock_trace.proofs.Lines.{lines_append}
use Rattle.replay_commands.specs.Replays.{HasReplayedFront, HasReplayedPart, IsHistoryOf, IsTextFor}
use Rattle.replay_commands.proofs.Written.{part_of}

-- the entries of these rows with the replies that the manager gives, starting from st
abbrev pub served : State → List TraceRow → List Entry
served st [] = []
served st (r ∷ rs) = record { session = r.session; call = r.call; reply = (step st r.session r.call).reply } ∷ served (step st r.session r.call).state rs

-- they are entries of these rows
served-rows : (rs : List TraceRow) (st : State) → map row_of_entry (served st rs) ≡ rs
served-rows [] st = refl
served-rows (r ∷ rs) st = ap (λ (rest : List TraceRow). r ∷ rest) (served-rows rs (step st r.session r.call).state)

-- behind entries that are legal they are legal
served-legal : (es : List Entry) (st : State) (rs : List TraceRow) → IsLegalFrom st es → IsLegalFrom st (es ++ served (state_after st es) rs)
served-legal [] st [] legal = tt
served-legal [] st (r ∷ rs) legal = (refl, served-legal [] (step st r.session r.call).state rs tt)
served-legal (e ∷ es) st rs legal = (legal.0, served-legal es (step st e.session e.call).state rs legal.1)

-- the history of some rows goes on to the history of these rows and further ones
pub history_goes_on : (rows rest : List TraceRow) (h : List Entry) → map row_of_entry h ≡ rows → IsLegal h → IsHistoryOf (rows ++ rest) (h ++ served (state_of h) rest)
history_goes_on rows rest h calls legal = record {
  calls = map-append row_of_entry h (served (state_of h) rest) ∙ ap (λ (xs : List TraceRow). xs ++ map row_of_entry (served (state_of h) rest)) calls
      ∙ ap (λ (xs : List TraceRow). rows ++ xs) (served-rows rest (state_of h));
  legal = served-legal h empty rest legal;
}

-- the text of a history goes on with the text of the piece behind it
pub text_goes_on : (h more : List Entry) → text_of_history (h ++ more) ≡ text_of_history h ++ text_of_piece (length h) more
text_goes_on h more = lines_append 0 h more ∙ ap (λ (k : ℕ). text_of_history h ++ text_of_piece k more) (zero-add (length h))

-- the text of the history of the first rows is a part of the text of the history of all rows
pub fronts_are_parts : (rows : List TraceRow) (old new : Option (List ℕ)) → HasReplayedFront rows old new → HasReplayedPart rows old new
fronts_are_parts rows old new front =
    let (count, replayed) = front in
    let (h, is_of) = replayed.is_history in
    let (is, text_is) = is_of in
    let more = served (state_of h) (drop count rows) in
    let whole : IsHistoryOf rows (h ++ more) =
    subst (λ (rs : List TraceRow). IsHistoryOf rs (h ++ more)) (take-append-drop count rows) (history_goes_on (take count rows) (drop count rows) h is.calls is.legal) in (
      text_of_history (h ++ more),
      (
        (h ++ more, (whole, refl)),
        part_of old new (text_of_history (h ++ more)) replayed.text (text_of_piece (length h) more)
            (text_goes_on h more ∙ ap (λ (t : List ℕ). t ++ text_of_piece (length h) more) (sym text_is)) replayed.written,
      ),
    )

-- the session and the call of a row
abbrev asked_by : TraceRow → ℕ × Call
asked_by r = (r.session, r.call)

-- the calls of entries are those of their rows
asked_by_rows : (es : List Entry) → map asked_by (map row_of_entry es) ≡ asked_in es
asked_by_rows [] = refl
asked_by_rows (e ∷ es) = ap (λ (rest : List (ℕ × Call)). (e.session, e.call) ∷ rest) (asked_by_rows es)

-- rows have one text
pub one_text : (rows : List TraceRow) (a b : List ℕ) → IsTextFor rows a → IsTextFor rows b → a ≡ b
one_text rows a b p q =
    let (es, first) = p in
    let (one, a_is) = first in
    let (fs, second) = q in
    let (other, b_is) = second in
    let asked : asked_in es ≡ asked_in fs = sym (asked_by_rows es) ∙ ap (map asked_by) (one.calls ∙ sym other.calls) ∙ asked_by_rows fs in
    a_is ∙ ap text_of_history (one-history es fs asked one.legal other.legal) ∙ sym b_is
