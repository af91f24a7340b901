-- The runs of a machine.
use Rattle.std.proofs.Common.{◌≡◌, ◌∙◌, List, [], ◌∷◌, ◌++◌, refl, sym, ap}
use mathlib.Core.Option as opt
use mathlib.Core.List.{IsPrefix}
use lib.ListN.{get_elem?}
use Rattle.sequential.specs.declared.entry.Entry.{Entry}
use Rattle.publication.specs.Views.{TicketView}
use Rattle.flat_combining.specs.declared.machine.Machine.{Ghosts}
use Rattle.flat_combining.specs.Runs.{state_from, BeginsWith}

-- The state behind one call more.
pub state-push : {S C R : Type 0} (machine : Ghosts S C R) (state : S) (es : List (Entry C R)) (e : Entry C R) →
    state_from machine state (es ++ e ∷ []) ≡ machine.after (state_from machine state es) e.session e.call
state-push machine state [] e = refl
state-push machine state (x ∷ xs) e = state-push machine (machine.after state x.session x.call) xs e

-- What each call keeps holds of every state that calls lead to.
pub kept-from : {S C R : Type 0} (machine : Ghosts S C R) (holds : S → Type 0) (kept : (state : S) (session : _) (call : C) → holds state → holds (machine.after state session call))
    (state : S) (es : List (Entry C R)) → holds state → holds (state_from machine state es)
kept-from machine holds kept state [] now = now
kept-from machine holds kept state (x ∷ xs) now = kept-from machine holds kept (machine.after state x.session x.call) xs (kept state x.session x.call now)

module _ {C R : Type 0} (call : C) where
  -- A longer history begins with the same call.
  pub begins-longer : (front history : List (Entry C R)) → BeginsWith call front → IsPrefix front history → BeginsWith call history
  begins-longer [] history begins longer = absurd begins
  begins-longer (e ∷ es) [] begins longer = absurd (cc longer.1)
  begins-longer (e ∷ es) (x ∷ xs) begins longer = let same : e ≡ x = cc longer.1 in ap (λ (w : Entry C R). w.call) (sym same) ∙ begins

  -- It begins with the call at its place 0.
  pub begins-at : (history : List (Entry C R)) (e : Entry C R) → e.call ≡ call → get_elem? history 0 ≡ opt.some e → BeginsWith call history
  begins-at [] e is at = absurd (opt.some-ne-none e (sym at))
  begins-at (x ∷ xs) e is at = ap (λ (w : Entry C R). w.call) (opt.some-injective x e at) ∙ is

-- The session, but for what it knows.
abbrev pub but_known : {C R : Type 0} → TicketView C R → TicketView C R
but_known session = record session { front = []; heard = [] }
