use Rattle.std.proofs.Common.{inl, inr, ℕ, Option, List, [], ◌∷◌, sym, ◌∙◌, append-nil}
use Rattle.std.proofs.lemmas.List.Elements.{All-nil, All-cons}
use Rattle.lock_modes.specs.declared.Mode.{Mode}
use Rattle.lock_rules.specs.Entries.{Entry, Answered}
use Rattle.lock_rules.specs.State.{State}
use Rattle.lock_rules.specs.Legal.{IsLegal, state_of}
use Rattle.lock_rules.specs.Laws.{DoesRefusalKeep, HoldsAtLeast}
use Rattle.publication.specs.Views.{IsAccountedIn, answer, asks}
use Rattle.lock_office.specs.by_calls.HoldsAsTold.{Pending, KeptLock, HoldsAsTold}
use Rattle.lock_office.proofs.by_calls.ToldTogether.{told-held, modes-together, access-apart}
use Rattle.lock_office.proofs.told_laws.one_history_tells_what_goes_together.Goals as goal

hold : (refuses : (st : State) → DoesRefusalKeep st) (h : List Entry) → IsLegal h → (i : ℕ) (a : List Answered) (p : Option Pending) → IsAccountedIn h i a p
    → (r : List ℕ) (m : Mode) → HoldsAsTold a p r m → HoldsAtLeast (state_of h).table i r m
hold refuses h legal i a p (inl e) r m t = told-held refuses h legal i a [] p r m (e ∙ sym (append-nil a)) (All-nil (KeptLock r)) t
hold refuses h legal i a p (inr k) r m t =
    let x : Answered = answer k.2 k.0 k.3 in
    told-held refuses h legal i a (x ∷ []) p r m k.6 (All-cons (KeptLock r) x [] (inl (t.kept (asks k.0 k.1) k.4)) (All-nil (KeptLock r))) t

pub returns-clause-modes : goal.returns-clause-modes
returns-clause-modes c h i j mine theirs my_pending their_pending r m k legal ne a b t u =
    let refuses = c.refusals_keep_the_state.ensures.keeps in
    modes-together h i j ne (HoldsAsTold mine my_pending) (HoldsAsTold theirs their_pending) (hold refuses h legal i mine my_pending a) (hold refuses h legal j theirs their_pending b) r m k t u

pub returns-clause-access : goal.returns-clause-access
returns-clause-access c h i j mine theirs my_pending their_pending x legal ne a b t u =
    let refuses = c.refusals_keep_the_state.ensures.keeps in
    access-apart h i j ne (HoldsAsTold mine my_pending) (HoldsAsTold theirs their_pending) (hold refuses h legal i mine my_pending a) (hold refuses h legal j theirs their_pending b) x t u
