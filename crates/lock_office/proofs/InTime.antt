-- Programs stand in the order of time.
use Rattle.std.proofs.Common.{◌≡◌, ℕ, zero, suc, inl, inr, Option, Some, slice_get, List, [], ◌∷◌, ◌++◌, Contains, refl, sym, subst, arith}
use Rattle.std.proofs.lemmas.List.Elements.{Contains-append_left, Contains-append_right}
use Rattle.sequential.proofs.Members.{member-contains}
use Rattle.sequential.proofs.SessionCalls.{contains-entry}
use Rattle.sequential.specs.Histories.{IsEntryOf}
use Rattle.programs.proofs.Placed.{ordered}
use Rattle.lock_programs.specs.Answers.{program_form}
use Rattle.publication.specs.Views.{IsAccountedIn, answer, entry}
use Rattle.publication.proofs.BoardHistory.{is-history}
use Rattle.publication.proofs.RealTime.{there, still-ruled, begins, accounted, behind-all}
use Rattle.lock_office.specs.ProgramBoards.{ProgramEntry, AnsweredProgram, Pending, BoardState, IsLegal, IsRuled, IsRun, history_of, program_object}
use Rattle.lock_office.specs.InTime.{DoProgramsRespectTime}

-- The history of a board is legal.
pub board-legal : (s : BoardState) → IsRuled s → IsLegal (history_of s)
board-legal s ruled = subst IsLegal (is-history s ruled.records) ruled.records.legal

-- A collected answer is to a program of the history.
in-history : (h : List ProgramEntry) (i : ℕ) (answers : List AnsweredProgram) (pending : Option Pending) (x : AnsweredProgram) → IsAccountedIn h i answers pending → Contains answers x → IsEntryOf i h x
in-history h i answers pending x (inl calls) has = contains-entry i h x (subst (λ (l : List AnsweredProgram). Contains l x) (sym calls) has)
in-history h i answers pending x (inr k) has =
    contains-entry i h x (subst (λ (l : List AnsweredProgram). Contains l x) (sym k.6) (Contains-append_left answers (answer k.2 k.0 k.3 ∷ []) x has))

-- An entry of a front stands there in the whole.
in-whole : (f rest : List ProgramEntry) (n : ℕ) (e : ProgramEntry) → slice_get f n ≡ Some e → slice_get (f ++ rest) n ≡ Some e
in-whole [] rest n e is = absurd (cc is)
in-whole (x ∷ xs) rest zero e is = is
in-whole (x ∷ xs) rest (suc n) e is = in-whole xs rest n e is

pub in-time : (s t : BoardState) → IsRuled s → IsRun s t → DoProgramsRespectTime s t
in-time s t ruled run i j theirs mine later their_pending my_pending later_pending a b d x y before after has is many =
    let longer = begins ruled run in
    let late = behind-all {obj = program_object} s t ruled run j mine later my_pending later_pending b d y before after is many in
    let early : IsEntryOf i (history_of s) x = in-history (history_of s) i theirs their_pending x (accounted {obj = program_object} s ruled i theirs their_pending a) has in
    let few = there (history_of s) x.place (entry i x.call x.reply) early in
    let first : slice_get (history_of t) x.place ≡ Some (entry i x.call x.reply)
    = subst (λ (l : List ProgramEntry). slice_get l x.place ≡ Some (entry i x.call x.reply)) longer.1 (in-whole (history_of s) longer.0 x.place (entry i x.call x.reply) early) in
    let second : IsEntryOf j (history_of t) y
    = contains-entry j (history_of t) y (subst (λ (l : List AnsweredProgram). Contains l y) (sym is) (Contains-append_right before (y ∷ after) y (member-contains y (y ∷ after) (inl refl)))) in
    ordered program_form 0 (history_of t) x.place y.place (entry i x.call x.reply) (entry j y.call y.reply) (board-legal t (still-ruled ruled run)).1 (omega (arith, few, late)) first second
