-- What a session that makes programs was told that it holds is held.
use Rattle.std.proofs.Common.{◌≡◌, inl, inr, ℕ, ◌+◌, Option, Some, None, List, [], ◌∷◌, ◌++◌, sym, ap, subst, ◌∙◌, append-nil, append_assoc}
use Rattle.std.specs.Prelude.{All}
use Rattle.std.proofs.lemmas.List.Elements.{All-nil, All-cons, All-head, All-tail, All-append}
use Rattle.lock_modes.specs.declared.Mode.{Mode}
use Rattle.lock_rules.specs.declared.calls.Call.{Call}
use Rattle.lock_rules.specs.declared.calls.Reply.{Reply}
use Rattle.lock_rules.specs.Entries.{Answered}
use Rattle.lock_rules.specs.State.{State}
use Rattle.lock_rules.specs.Legal.{state_of}
use Rattle.lock_rules.specs.Laws.{DoesRefusalKeep, HoldsAtLeast}
use Rattle.programs.specs.Flat.{answers_from}
use Rattle.programs.proofs.Sessions.{calls_of-flat}
use Rattle.lock_programs.specs.Calls.{calls_of}
use Rattle.lock_programs.specs.Answers.{replies_of, program_form}
use Rattle.lock_programs.specs.declared.program.Program.{Program}
use Rattle.publication.specs.Views.{IsAccountedIn, answer, asks}
use Rattle.lock_office.specs.by_calls.HoldsAsTold.{KeepsLock as KeepsLockByCall, KeptLock as KeptLockByCall, HoldsAsTold as HoldsAsToldByCalls}
use Rattle.lock_office.proofs.by_calls.HoldsAsTold.{goes-on}
use Rattle.lock_office.proofs.by_calls.ToldTogether.{told-held}
use Rattle.lock_office.specs.ProgramBoards.{ProgramEntry, AnsweredProgram, Pending, IsLegal, flat_history, calls_answered}
use Rattle.lock_office.specs.HoldsAsTold.{KeepsLock, KeptLock, HoldsAsTold}
use Rattle.lock_office.proofs.Flats.{flat_calls-append}

-- calls that give a lock back by no call keep it, whatever their replies
calls-kept : (r : List ℕ) (place : ℕ) (cs : List Call) (rs : List Reply) → All (KeepsLockByCall r) cs → All (KeptLockByCall r) (answers_from place cs rs)
calls-kept r place [] rs all = All-nil (KeptLockByCall r)
calls-kept r place (c ∷ cs) [] all = All-nil (KeptLockByCall r)
calls-kept r place (c ∷ cs) (q ∷ qs) all =
    All-cons (KeptLockByCall r) (answer place c q) (answers_from (place + 1) cs qs) (inl (All-head (KeepsLockByCall r) c cs all)) (calls-kept r (place + 1) cs qs (All-tail (KeepsLockByCall r) c cs all))

pub program-kept : (r : List ℕ) (a : AnsweredProgram) → KeepsLock r a.call → KeptLock r a
program-kept r a keeps =
    All-append (KeptLockByCall r) (answers_from a.reply.first (calls_of a.call) (replies_of a.call a.reply)) [] (calls-kept r a.reply.first (calls_of a.call) (replies_of a.call a.reply) keeps) (All-nil (KeptLockByCall r))

-- a lock is held as told past each call that kept it
calls-on : (answers more : List Answered) (r : List ℕ) (m : Mode) → All (KeptLockByCall r) more → HoldsAsToldByCalls answers None r m → HoldsAsToldByCalls (answers ++ more) None r m
calls-on answers [] r m all t = subst (λ (l : List Answered). HoldsAsToldByCalls l None r m) (sym (append-nil answers)) t
calls-on answers (x ∷ xs) r m all t =
    subst (λ (l : List Answered). HoldsAsToldByCalls l None r m) (append_assoc answers (x ∷ []) xs)
    (calls-on (answers ++ x ∷ []) xs r m (All-tail (KeptLockByCall r) x xs all) (goes-on answers x None r m (All-head (KeptLockByCall r) x xs all) t))

-- and past each program that did
pub stays : (answers : List AnsweredProgram) (a : AnsweredProgram) (pending : Option Pending) (r : List ℕ) (m : Mode) → KeptLock r a → HoldsAsTold answers pending r m → HoldsAsTold (answers ++ a ∷ []) None r m
stays answers a pending r m kept t = record {
  told = subst (λ (l : List Answered). HoldsAsToldByCalls l None r m) (sym (flat_calls-append program_form answers (a ∷ []))) (calls-on (calls_answered answers) (calls_answered (a ∷ [])) r m kept t.told);
  kept = λ p none. absurd (cc none);
}

-- and while a program is pending that does
pub asks-on : (answers : List AnsweredProgram) (program : Program) (floor : ℕ) (r : List ℕ) (m : Mode) → KeepsLock r program → HoldsAsTold answers None r m → HoldsAsTold answers (Some (asks program floor)) r m
asks-on answers program floor r m keeps t = record {
  told = t.told;
  kept = λ p e. let same : asks program floor ≡ p = cc e in subst (λ (q : Pending). KeepsLock r q.call) same keeps;
}

module _ (refuses : (st : State) → DoesRefusalKeep st) where
  -- What a session was told that it holds is held in the state of any legal history in which its programs are those that it
  -- collected answers to, or those and its pending one.
  pub held : (h : List ProgramEntry) → IsLegal h → (i : ℕ) (answers : List AnsweredProgram) (pending : Option Pending) → IsAccountedIn h i answers pending
      → (r : List ℕ) (m : Mode) → HoldsAsTold answers pending r m → HoldsAtLeast (state_of (flat_history h)).table i r m
  held h legal i answers pending (inl calls) r m t =
      told-held refuses (flat_history h) legal.0 i (calls_answered answers) [] None r m
      (calls_of-flat program_form i h legal.1 ∙ (ap calls_answered calls ∙ sym (append-nil (calls_answered answers)))) (All-nil (KeptLockByCall r)) t.told
  held h legal i answers pending (inr k) r m t =
      let a : AnsweredProgram = answer k.2 k.0 k.3 in
      told-held refuses (flat_history h) legal.0 i (calls_answered answers) (calls_answered (a ∷ [])) None r m
      (calls_of-flat program_form i h legal.1 ∙ (ap calls_answered k.6 ∙ flat_calls-append program_form answers (a ∷ []))) (program-kept r a (t.kept (asks k.0 k.1) k.4)) t.told
