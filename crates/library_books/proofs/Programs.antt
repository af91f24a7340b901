-- Why numbers encode no program, at which reply a program has stopped, and what was run on a book.
use Rattle.std.proofs.Common.{◌≡◌, ◌⊎◌, inl, inr, ℕ, zero, suc, ◌+◌, List, [], ◌∷◌, ◌++◌, length, Some, slice_get, sym, ap, arith}
use Rattle.lock_modes.specs.declared.Mode.{Mode}
use Rattle.lock_rules.specs.declared.calls.Call.TheVariants.{Lock, Convert, Try}
use Rattle.lock_rules.specs.declared.calls.Reply.{Reply}
use Rattle.lock_rules.specs.Entries.{Entry}
use Rattle.lock_rules.specs.Legal.{IsLegal}
use Rattle.sequential.specs.Bounds.{Bounds}
use Rattle.programs.specs.Flat.{entries}
use Rattle.programs.specs.Runs.{HasRun as RunOn}
use Rattle.lock_programs.specs.declared.program.Program.{Program}
use Rattle.lock_programs.specs.declared.answer.ProgramAnswer.{ProgramAnswer}
use Rattle.lock_programs.specs.Calls.{calls_of}
use Rattle.lock_programs.specs.Answers.{replies_of, program_form}
use Rattle.lock_desk.specs.BookView.{BookView}
use Rattle.lock_desk.specs.Batches.{TellsFrom}
use Rattle.library_books.specs.declared.program_numbers.ProgramNumbers.{ProgramNumbers}
use Rattle.library_books.specs.declared.status.TheConstants.{NOT_ON_PATH, NO_SUCH_ABOVE}
use Rattle.library_books.specs.Numbers.{IsModeCode, IsCall}
use Rattle.library_books.specs.Programs.{IsStart, IsOnPath, LeadsTo, IsProgramFault, HasRun, stop_number, stop_of}

-- the last call is one on the resource that it names
pub leads_lock : (n : ProgramNumbers) (r : List ℕ) (m : Mode) → IsCall n.last (Lock r m) → LeadsTo n r
leads_lock n r m h = (inl h.0, h.1, (Lock r m, h))

pub leads_convert : (n : ProgramNumbers) (r : List ℕ) (m : Mode) → IsCall n.last (Convert r m) → LeadsTo n r
leads_convert n r m h = (inr (inl h.0), h.1, (Convert r m, h))

pub leads_try : (n : ProgramNumbers) (r : List ℕ) (m : Mode) → IsCall n.last (Try r m) → LeadsTo n r
leads_try n r m h = (inr (inr (inr (inl h.0))), h.1, (Try r m, h))

-- the path's numbers encode none
pub path_fault : (n : ProgramNumbers) (r : List ℕ) (fault : ℕ) → IsStart n.start → LeadsTo n r
    → ((fault ≡ NOT_ON_PATH) × ¬ (IsOnPath n.level r)) ⊎ ((fault ≡ NO_SUCH_ABOVE) × IsOnPath n.level r × ¬ (IsModeCode n.above)) → IsProgramFault n fault
path_fault n r fault s to (inl h) = record {
  known = inr (omega (arith, h.0), omega (arith, h.0));
  start = (λ e. absurd (omega (arith, e, h.0)), λ _. s);
  op = λ e. absurd (omega (arith, e, h.0));
  level = λ e. absurd (omega (arith, e, h.0));
  mode = λ e. absurd (omega (arith, e, h.0));
  path = λ e. (r, to, h.1);
  above = λ e. absurd (omega (arith, e, h.0));
}
path_fault n r fault s to (inr h) = record {
  known = inr (omega (arith, h.0), omega (arith, h.0));
  start = (λ e. absurd (omega (arith, e, h.0)), λ _. s);
  op = λ e. absurd (omega (arith, e, h.0));
  level = λ e. absurd (omega (arith, e, h.0));
  mode = λ e. absurd (omega (arith, e, h.0));
  path = λ e. absurd (omega (arith, e, h.0));
  above = λ e. (r, to, h.1, h.2);
}

-- the last reply says at what a program has stopped
pub stop_last : (rs : List Reply) (k : ℕ) (r : Reply) → slice_get rs k ≡ Some r → length rs ≡ k + 1 → stop_number r ≡ stop_of rs
stop_last [] k r h n = absurd (cc)
stop_last (q ∷ []) zero r h n = let e : q ≡ r = cc in ap stop_number (sym e)
stop_last (q ∷ []) (suc k) r h n = absurd (omega (arith, n))
stop_last (q ∷ x ∷ rs) zero r h n = absurd (omega (arith, n))
stop_last (q ∷ x ∷ rs) (suc k) r h n = stop_last (x ∷ rs) k r h (omega (arith, n))

abbrev as_book : ℕ → List Entry → ℕ → ℕ → List ℕ → ℕ → BookView
as_book n h c b e t = record { sessions = n; history = h; cut = c; bound = b; ended = e; deadlocks = t }

-- a book with other entries, and the same sessions and the same bounds
same_book : (n m c d b a t s : ℕ) (h l : List Entry) (e : List ℕ) → n ≡ m → c ≡ d → b ≡ a → t ≡ s → h ≡ l → as_book n h c b e t ≡ as_book m l d a e s
same_book n m c d b a t s h l e i j k f g = cc

-- what a book keeps at most
abbrev pub bounds : BookView → Bounds
bounds b = record { lines = b.bound; notes = b.deadlocks }

-- a program that was run on a history was run on the book
pub run_on_book : (before after : BookView) (s : ℕ) (p : Program) (a : ProgramAnswer) → RunOn program_form s p before.history after.history a
    → after.sessions ≡ before.sessions → after.cut ≡ before.cut → bounds after ≡ bounds before → IsLegal after.history → TellsFrom after (length before.history)
    → HasRun before after s p a
run_on_book before after s p a h i j k legal told = record {
  place = h.first;
  run = h.run;
  history =
      same_book after.sessions before.sessions after.cut before.cut after.bound before.bound after.deadlocks before.deadlocks after.history (before.history ++ entries s (calls_of p) (replies_of p a)) after.ended i j
      (ap (λ (b : Bounds). b.lines) k) (ap (λ (b : Bounds). b.notes) k) h.history;
  legal = legal;
  ended = told;
}
