-- A run in pieces on its way: the history that its taker knows, and the text that was written.
use Rattle.std.proofs.Common.{◌≡◌, ◌∙◌, ℕ, ◌+◌, ◌≤◌, List, [], ◌++◌, Option, length, length-take-le, take, drop, sym, ap, subst, append-nil, take-append-drop, take_all, arith}
use Rattle.std.proofs.Math.Seq.{take-add}
use Rattle.std.proofs.lemmas.List.{take-append-le}
use mathlib.Core.List.{IsPrefix}
use Rattle.std.specs.Io.KnownBytes.{Appends}
use Rattle.std.proofs.KnownBytes.{Appends-kept, Appends-nil, Appends-trans}
use Rattle.lock_rules.specs.Entries.{Entry}
use Rattle.lock_rules.specs.Legal.{IsLegal}
use Rattle.lock_rules.proofs.Histories.{legal-front}
use Rattle.programs.specs.Fronts.{flat-append}
use Rattle.lock_programs.specs.Answers.{program_form}
use Rattle.lock_office.specs.ProgramBoards.{TicketView, ProgramEntry, flat_history}
use Rattle.publication.proofs.Histories.{length-begins}
use Rattle.lock_office.specs.Sessions.{HasTakenPiece}
use Rattle.lock_trace.specs.Histories.{text_of_history, text_of_piece}
use Rattle.replay_commands.specs.Pieces.{IsFaultOfPiece}
use Rattle.run_commands.specs.Runs.{HasWrittenFront, HasWrittenPart}
use Rattle.run_commands.specs.Streams.{IsFaultOfStream, IsWrittenUpTo, bare}
use Rattle.replay_commands.specs.declared.tool_fault.ToolFault.{ToolFault}
use Rattle.replay_commands.specs.declared.tool_fault.ToolFault.TheVariants as tool
use Rattle.replay_commands.proofs.ServedRows.{text_goes_on}
use Rattle.replay_commands.proofs.Written.{part_behind}

-- the calls of a longer history of programs begin with those of its front
pub flat-prefix : (f g : List ProgramEntry) → IsPrefix f g → IsPrefix (flat_history f) (flat_history g)
flat-prefix f g begins = (flat_history begins.0, sym (flat-append program_form f begins.0) ∙ ap flat_history begins.1)

-- nothing is written of an empty front
pub begun : (front : List ProgramEntry) (old : Option (List ℕ)) → front ≡ [] → IsWrittenUpTo 0 (flat_history front) old old
begun front old none = subst (λ (f : List ProgramEntry). IsWrittenUpTo 0 (flat_history f) old old) (sym none) (record { legal = tt; within = omega arith; written = Appends-nil old })

-- the first entries of a longer history are those of its front
pub same_first : (next : ℕ) (f g : List Entry) → IsPrefix f g → next ≤ length f → take next g ≡ take next f
same_first next f g begins within = ap (take next) (sym begins.1) ∙ take-append-le next f begins.0 within

-- what is written of a front is written of each legal history that it begins
pub goes_on : (next : ℕ) (f g : List Entry) (old new : Option (List ℕ)) → IsWrittenUpTo next f old new → IsPrefix f g → IsLegal g → IsWrittenUpTo next g old new
goes_on next f g old new way begins legal = record {
  legal = legal;
  within = omega (arith, way.within, length-begins f g begins);
  written = subst (λ (es : List Entry). Appends old new (text_of_history es)) (sym (same_first next f g begins way.within)) way.written;
}

-- the text of the first entries, and then that of the entries behind them
text_up_to : (next count : ℕ) (g : List Entry) → next ≤ length g
    → text_of_history (take (next + count) g) ≡ text_of_history (take next g) ++ text_of_piece next (take count (drop next g))
text_up_to next count g within =
    ap text_of_history (take-add next count g) ∙ text_goes_on (take next g) (take count (drop next g))
    ∙ ap (λ (k : ℕ). text_of_history (take next g) ++ text_of_piece k (take count (drop next g))) (length-take-le next g within)

-- the first entries of a legal history are legal
legal_first : (next : ℕ) (g : List Entry) → IsLegal g → IsLegal (take next g)
legal_first next g legal = legal-front (take next g) (drop next g) (subst IsLegal (sym (take-append-drop next g)) legal)

-- what was written so far is the whole text of a legal history
pub front_of : (next : ℕ) (g : List Entry) (old new : Option (List ℕ)) → IsWrittenUpTo next g old new → HasWrittenFront old new
front_of next g old new way = (take next g, (legal_first next g way.legal, way.written))

-- the whole text is a part of itself
pub part_of_front : (old new : Option (List ℕ)) → HasWrittenFront old new → HasWrittenPart old new
part_of_front old new (h, (legal, written)) =
    let text = text_of_history h in
    (h, (legal, (length text, subst (Appends old new) (sym (take_all (length text) text (omega arith))) written)))

-- a piece is written
pub more_written : (next : ℕ) (entries g : List Entry) (old mid new : Option (List ℕ)) → IsWrittenUpTo next g old mid
    → entries ≡ take (length entries) (drop next g) → next + length entries ≤ length g → Appends mid new (text_of_piece next entries)
    → IsWrittenUpTo (next + length entries) g old new
more_written next entries g old mid new way are within piece = record {
  legal = way.legal;
  within = within;
  written = subst (Appends old new) (sym (text_up_to next (length entries) g way.within ∙ ap (λ (es : List Entry). text_of_history (take next g) ++ text_of_piece next es) (sym are)))
      (Appends-trans old mid new _ _ way.written piece);
}

-- a piece isn't written, or a part of it
pub more_failed : (next : ℕ) (entries g : List Entry) (old mid new : Option (List ℕ)) (fault : ToolFault) → IsWrittenUpTo next g old mid
    → entries ≡ take (length entries) (drop next g) → IsFaultOfPiece (text_of_piece next entries) mid new fault → IsFaultOfStream old new fault
more_failed next entries g old mid new (tool.Trace f) way are is = is
more_failed next entries g old mid new tool.NoMemory way are is =
    (take next g, (legal_first next g way.legal, Appends-kept old mid new _ way.written is))
more_failed next entries g old mid new tool.Device way are is =
    let done = text_of_history (take next g) in
    let part = text_of_piece next entries in
    let text : text_of_history (take (next + length entries) g) ≡ done ++ (part ++ []) =
    text_up_to next (length entries) g way.within ∙ ap (λ (es : List Entry). done ++ text_of_piece next es) (sym are)
    ∙ ap (λ (l : List ℕ). done ++ l) (sym (append-nil part)) in (
      take (next + length entries) g,
      (legal_first (next + length entries) g way.legal, part_behind old mid new _ done part [] text way.written is),
    )
more_failed next entries g old mid new tool.GateShut way are is = absurd is
more_failed next entries g old mid new tool.TurnLimit way are is = absurd is

-- what the taker knows after it took a piece

-- taking changes nothing else of the session
pub bare_taken : (before after : TicketView) (first : ℕ) (entries : List Entry) → HasTakenPiece before after first entries → bare after ≡ bare before
bare_taken before after first entries taken = ap bare taken.session

-- the session took a piece, and it is written
pub piece_written : (before after : TicketView) (first next end : ℕ) (entries : List Entry) (old mid new : Option (List ℕ))
    → HasTakenPiece before after first entries → first ≡ next → end ≡ next + length entries → Appends mid new (text_of_piece next entries)
    → IsWrittenUpTo next (flat_history before.front) old mid → IsWrittenUpTo end (flat_history after.front) old new
piece_written before after first next end entries old mid new taken here there piece way =
    let known = flat_history after.front in
    subst (λ (k : ℕ). IsWrittenUpTo k known old new) (sym there)
    (more_written next entries known old mid new (goes_on next (flat_history before.front) known old mid way (flat-prefix before.front after.front taken.longer) taken.legal.0)
    (subst (λ (k : ℕ). entries ≡ take (length entries) (drop k known)) here taken.lines_are)
    (subst (λ (k : ℕ). k + length entries ≤ length known) here taken.within) piece)

-- the session took a piece, and it isn't written
pub piece_failed : (before after : TicketView) (first next : ℕ) (entries : List Entry) (old mid new : Option (List ℕ)) (fault : ToolFault)
    → HasTakenPiece before after first entries → first ≡ next → IsFaultOfPiece (text_of_piece next entries) mid new fault
    → IsWrittenUpTo next (flat_history before.front) old mid → IsFaultOfStream old new fault
piece_failed before after first next entries old mid new fault taken here is way =
    let known = flat_history after.front in
    more_failed next entries known old mid new fault (goes_on next (flat_history before.front) known old mid way (flat-prefix before.front after.front taken.longer) taken.legal.0)
    (subst (λ (k : ℕ). entries ≡ take (length entries) (drop k known)) here taken.lines_are) is

-- the rest of the history is written, which begins with what the taker knows
pub rest_written : (next : ℕ) (front history : List Entry) (old mid new : Option (List ℕ)) → IsWrittenUpTo next front old mid → IsPrefix front history
    → next ≤ length history → Appends mid new (text_of_piece next (drop next history)) → Appends old new (text_of_history history)
rest_written next front history old mid new way begins within rest =
    let whole : text_of_history history ≡ text_of_history (take next history) ++ text_of_piece next (drop next history) =
    ap text_of_history (sym (take-append-drop next history)) ∙ text_goes_on (take next history) (drop next history)
    ∙ ap (λ (k : ℕ). text_of_history (take next history) ++ text_of_piece k (drop next history)) (length-take-le next history within) in
    subst (Appends old new) (sym (whole ∙ ap (λ (es : List Entry). text_of_history es ++ text_of_piece next (drop next history)) (same_first next front history begins way.within)))
    (Appends-trans old mid new _ _ way.written rest)

-- the rest of the history isn't written, or a part of it
pub rest_failed : (next : ℕ) (front history : List Entry) (old mid new : Option (List ℕ)) (fault : ToolFault) → IsWrittenUpTo next front old mid
    → IsPrefix front history → IsLegal history → IsFaultOfPiece (text_of_piece next (drop next history)) mid new fault → IsFaultOfStream old new fault
rest_failed next front history old mid new fault way begins legal is =
    let rest = drop next history in
    more_failed next rest history old mid new fault (goes_on next front history old mid way begins legal) (sym (take_all (length rest) rest (omega arith))) is
