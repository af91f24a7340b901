-- The laws of the book's histories.
use Rattle.std.specs.Prelude.{◌≡◌, ℕ, List, [], ◌∷◌, ◌++◌}
use Rattle.std.proofs.Common.{◌∙◌, refl, sym}
use Rattle.lock_rules.specs.declared.calls.Call.{Call}
use Rattle.lock_rules.specs.declared.calls.Reply.{Reply}
use Rattle.lock_rules.specs.Entries.{Entry}
use Rattle.lock_rules.specs.State.{State, empty}
use Rattle.lock_rules.specs.Step.{step}
use Rattle.lock_rules.specs.Legal.{IsLegal, IsLegalFrom, state_after}

-- The last reply of a legal history is that of the step.
last-reply : (st : State) (es : List Entry) (e : Entry) → IsLegalFrom st (es ++ e ∷ []) → e.reply ≡ (step (state_after st es) e.session e.call).reply
last-reply st [] e h = h.0
last-reply st (x ∷ xs) e h = last-reply (step st x.session x.call).state xs e h.1

-- Two replies that are legal at one place are equal.
pub replies_are_determined : (front : List Entry) (session : ℕ) (call : Call) (reply other : Reply) → IsLegal (front ++ record { session = session; call = call; reply = reply } ∷ [])
    → IsLegal (front ++ record { session = session; call = call; reply = other } ∷ []) → reply ≡ other
replies_are_determined front session call reply other h k =
    last-reply empty front (record { session = session; call = call; reply = reply }) h
    ∙ sym (last-reply empty front (record { session = session; call = call; reply = other }) k)

total_from : (st : State) (es : List Entry) (session : ℕ) (call : Call) → IsLegalFrom st es → (reply : Reply) × IsLegalFrom st (es ++ record { session = session; call = call; reply = reply } ∷ [])
total_from st [] session call h = ((step st session call).reply, (refl, tt))
total_from st (e ∷ es) session call h = let r = total_from (step st e.session e.call).state es session call h.1 in (r.0, (h.0, r.1))

-- Each call has a reply behind each legal history.
pub replies_are_total : (front : List Entry) (session : ℕ) (call : Call) → IsLegal front → (reply : Reply) × IsLegal (front ++ record { session = session; call = call; reply = reply } ∷ [])
replies_are_total = total_from empty
