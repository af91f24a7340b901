-- A replay in pieces on its way: the rows that were served, and the text that was written.
use Rattle.std.proofs.Common.{◌≡◌, ◌∙◌, ℕ, ◌+◌, ◌-◌, ◌^◌, ◌<◌, ◌≤◌, append_assoc, List, [], ◌∷◌, ◌++◌, Option, length, length-append, length-take-le, take, drop, map, refl, sym, ap, subst, take-append-drop, take_all, take-suc, get_or, add-one, arith}
use Rattle.std.proofs.lemmas.List.{map-append, take-append-le, length-map, take-map}
use Rattle.std.specs.Io.KnownBytes.{Appends}
use Rattle.std.proofs.KnownBytes.{Appends-kept, Appends-nil, Appends-trans}
use Rattle.lock_desk.specs.BookView.{BookView, first_kept_by}
use Rattle.lock_rules.specs.declared.calls.Reply.{Reply}
use Rattle.lock_rules.specs.Entries.{Entry}
use Rattle.lock_rules.specs.Step.{step}
use Rattle.lock_rules.specs.Legal.{state_of, IsLegal}
use Rattle.lock_rules.proofs.Histories.{legal-front, legal-push}
use Rattle.lock_trace.specs.declared.trace_row.TraceRow.{TraceRow}
use Rattle.lock_trace.specs.Histories.{row_of_entry, text_of_history, text_of_piece}
use Rattle.replay_commands.specs.declared.pieces.TheConstants.{PIECE_ENTRIES}
use Rattle.replay_commands.specs.declared.tool_fault.ToolFault.{ToolFault}
use Rattle.replay_commands.specs.declared.tool_fault.ToolFault.TheVariants as tool
use Rattle.replay_commands.specs.Pieces.{IsFaultOfPiece, IsFaultOfPieces}
use Rattle.replay_commands.specs.Replays.{HasReplayed, HasReplayedFront, HasReplayedPart}
use Rattle.replay_commands.specs.Written.{AppendsPart}
use Rattle.replay_commands.proofs.ServedRows.{history_goes_on, served, text_goes_on}
use Rattle.replay_commands.proofs.Written.{part_behind}

-- the book, for `n` sessions, has served these rows; the output held `old` before, and grew by the text of the entries before the cut
pub record IsUnderWay (n : ℕ) (rows : List TraceRow) (book : BookView) (old new : Option (List ℕ)) : Type 0 where
  pub sessions : book.sessions ≡ n
  pub unbounded : book.bound ≡ 2 ^ 64 - 1
  pub calls : map row_of_entry book.history ≡ rows
  pub legal : IsLegal book.history
  pub within : book.cut ≤ length book.history
  pub written : Appends old new (text_of_history (take book.cut book.history))

-- the text of the entries behind the cut
abbrev pub piece_of : BookView → List ℕ
piece_of b = text_of_piece b.cut (drop b.cut b.history)

-- fewer entries than a piece has are kept if those are fewer that the book counts
pub few_are_kept : (n : ℕ) (rows : List TraceRow) (b : BookView) (old new : Option (List ℕ)) (served first : ℕ) → IsUnderWay n rows b old new
    → served ≡ length b.history → served < 2 ^ 64 → first ≡ first_kept_by b → served - first < PIECE_ENTRIES → length b.history < b.cut + PIECE_ENTRIES
few_are_kept n rows b old new served first way all fits place few = omega (arith, way.within, way.unbounded, all, fits, place, few)

-- nothing is kept once the piece behind the cut is let go
pub none_are_kept : (b c : BookView) → c ≡ record b { cut = length b.history } → length c.history < c.cut + PIECE_ENTRIES
none_are_kept b c gone = subst (λ (x : BookView). length x.history < x.cut + PIECE_ENTRIES) (sym gone) (omega arith)

-- the text up to the cut, and then the text of the piece behind it, are the text of the history
whole_text : (h : List Entry) (cut : ℕ) → cut ≤ length h → text_of_history h ≡ text_of_history (take cut h) ++ text_of_piece cut (drop cut h)
whole_text h cut within =
    ap text_of_history (sym (take-append-drop cut h)) ∙ text_goes_on (take cut h) (drop cut h)
    ∙ ap (λ (k : ℕ). text_of_history (take cut h) ++ text_of_piece k (drop cut h)) (length-take-le cut h within)

-- a fresh book is under way
pub begun : (n : ℕ) (b : BookView) (old : Option (List ℕ)) → b.sessions ≡ n → b.history ≡ [] → b.cut ≡ 0 → b.bound ≡ 2 ^ 64 - 1 → IsUnderWay n [] b old old
begun n b old sessions empty cut bound = record {
  sessions = sessions;
  unbounded = bound;
  calls = ap (map row_of_entry) empty;
  legal = subst IsLegal (sym empty) tt;
  within = omega (arith, cut);
  written = subst (λ (h : List Entry). Appends old old (text_of_history (take b.cut h))) (sym empty)
      (subst (λ (k : ℕ). Appends old old (text_of_history (take k []))) (sym cut) (Appends-nil old));
}

-- one more row of a trace
one_more : (rows : List TraceRow) (i : ℕ) (row : TraceRow) → i < length rows → row ≡ get_or rows i row → take (i + 1) rows ≡ take i rows ++ row ∷ []
one_more rows i row lt is =
    ap (λ (k : ℕ). take k rows) (add-one i) ∙ take-suc rows i row lt ∙ ap (λ (x : TraceRow). take i rows ++ x ∷ []) (sym is)

-- one more row is served
pub row_served : {told : List ℕ} (n : ℕ) (rows : List TraceRow) (i : ℕ) (row : TraceRow) (reply : Reply) (b c : BookView) (old new : Option (List ℕ)) → i < length rows
    → row ≡ get_or rows i row → IsUnderWay n (take i rows) b old new → reply ≡ (step (state_of b.history) row.session row.call).reply
    → c ≡ record b { history = b.history ++ record { session = row.session; call = row.call; reply = reply } ∷ []; ended = told }
    → IsUnderWay n (take (i + 1) rows) c old new
row_served n rows i row reply b c old new lt is way by_step more =
    let e : Entry = record { session = row.session; call = row.call; reply = reply } in
    subst (λ (x : BookView). IsUnderWay n (take (i + 1) rows) x old new) (sym more) (record {
      sessions = way.sessions;
      unbounded = way.unbounded;
      calls = map-append row_of_entry b.history (e ∷ []) ∙ ap (λ (xs : List TraceRow). xs ++ row ∷ []) way.calls ∙ sym (one_more rows i row lt is);
      legal = legal-push b.history e way.legal by_step;
      within = omega (arith, length-append b.history (e ∷ []), way.within);
      written = subst (λ (h : List Entry). Appends old new (text_of_history h)) (sym (take-append-le b.cut b.history (e ∷ []) way.within)) way.written;
    })

-- the piece behind the cut is written, and its entries are let go
pub piece_written : (n : ℕ) (rows : List TraceRow) (b c : BookView) (old mid new : Option (List ℕ)) → IsUnderWay n rows b old mid
    → Appends mid new (piece_of b) → c ≡ record b { cut = length b.history } → IsUnderWay n rows c old new
piece_written n rows b c old mid new way piece gone =
    let all : Appends old new (text_of_history b.history) =
    subst (Appends old new) (sym (whole_text b.history b.cut way.within)) (Appends-trans old mid new _ _ way.written piece) in
    subst (λ (x : BookView). IsUnderWay n rows x old new) (sym gone) (record {
      sessions = way.sessions;
      unbounded = way.unbounded;
      calls = way.calls;
      legal = way.legal;
      within = omega arith;
      written = subst (λ (h : List Entry). Appends old new (text_of_history h)) (sym (take_all (length b.history) b.history (omega arith))) all;
    })

-- the last piece is written
pub last_written : (n : ℕ) (rows : List TraceRow) (b : BookView) (old mid new : Option (List ℕ)) → IsUnderWay n rows b old mid
    → Appends mid new (piece_of b) → HasReplayed rows old new
last_written n rows b old mid new way piece = record {
  text = text_of_history b.history;
  is_history = (b.history, (record { calls = way.calls; legal = way.legal }, refl));
  written = subst (Appends old new) (sym (whole_text b.history b.cut way.within)) (Appends-trans old mid new _ _ way.written piece);
}

-- what was written is the text of the history of the first rows
pub front_written : (n : ℕ) (rows rest all : List TraceRow) (b : BookView) (old new : Option (List ℕ)) → IsUnderWay n rows b old new → all ≡ rows ++ rest
    → HasReplayedFront all old new
front_written n rows rest all b old new way split =
    let few : b.cut ≤ length rows = omega (arith, way.within, length-map b.history row_of_entry, ap (λ (xs : List TraceRow). length xs) way.calls) in (
      b.cut,
      record {
        text = text_of_history (take b.cut b.history);
        is_history = (
          take b.cut b.history,
          (
            record {
              calls = sym (take-map row_of_entry b.cut b.history) ∙ ap (take b.cut) way.calls
                  ∙ sym (ap (take b.cut) split ∙ take-append-le b.cut rows rest few);
              legal = legal-front (take b.cut b.history) (drop b.cut b.history) (subst IsLegal (sym (take-append-drop b.cut b.history)) way.legal);
            },
            refl,
          ),
        );
        written = way.written;
      },
    )

-- the part of a piece that was written is a part of the text of the whole history
pub part_written : (n : ℕ) (rows rest all : List TraceRow) (b : BookView) (old mid new : Option (List ℕ)) → IsUnderWay n rows b old mid → all ≡ rows ++ rest
    → AppendsPart mid new (piece_of b) → HasReplayedPart all old new
part_written n rows rest all b old mid new way split part =
    let h = b.history in
    let more = served (state_of h) rest in
    let done = text_of_history (take b.cut h) in
    let text : text_of_history (h ++ more) ≡ done ++ (piece_of b ++ text_of_piece (length h) more) = text_goes_on h more
    ∙ ap (λ (t : List ℕ). t ++ text_of_piece (length h) more) (whole_text h b.cut way.within)
    ∙ append_assoc done (piece_of b) (text_of_piece (length h) more) in (
      text_of_history (h ++ more),
      (
        (h ++ more, (rw split (history_goes_on rows rest h way.calls way.legal), refl)),
        part_behind old mid new (text_of_history (h ++ more)) done (piece_of b) (text_of_piece (length h) more) text way.written part,
      ),
    )

-- the fault of a piece is a fault of the history
pub fault_on_the_way : (n : ℕ) (rows rest all : List TraceRow) (b : BookView) (old mid new : Option (List ℕ)) (fault : ToolFault) → IsUnderWay n rows b old mid
    → all ≡ rows ++ rest → IsFaultOfPiece (piece_of b) mid new fault → IsFaultOfPieces all old new fault
fault_on_the_way n rows rest all b old mid new (tool.Trace f) way split is = is
fault_on_the_way n rows rest all b old mid new tool.NoMemory way split is =
    let kept : IsUnderWay n rows b old new = record {
      sessions = way.sessions;
      unbounded = way.unbounded;
      calls = way.calls;
      legal = way.legal;
      within = way.within;
      written = Appends-kept old mid new _ way.written is;
    } in
    front_written n rows rest all b old new kept split
fault_on_the_way n rows rest all b old mid new tool.Device way split is = part_written n rows rest all b old mid new way split is
fault_on_the_way n rows rest all b old mid new tool.GateShut way split is = is
fault_on_the_way n rows rest all b old mid new tool.TurnLimit way split is = is
