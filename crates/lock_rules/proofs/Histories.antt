-- Histories, one entry at a time.
use Rattle.std.proofs.Common.{◌≡◌, ℕ, List, [], ◌∷◌, ◌++◌, refl, sym, ◌∙◌, ap, subst}
use Rattle.lock_rules.specs.declared.calls.Call.{Call}
use Rattle.lock_rules.specs.Entries.{Entry}
use Rattle.lock_rules.specs.State.{State, empty}
use Rattle.lock_rules.specs.Step.{step}
use Rattle.lock_rules.specs.Legal.{state_after, state_of, IsLegalFrom, IsLegal}
use Rattle.sequential.specs.Batches.{asked_in}
use Rattle.lock_rules.specs.Laws.{AreRepliesOfSteps}

-- the state after a concatenation is the state after its second list, starting from the state after its first
pub state_after-append : (es fs : List Entry) (st : State) → state_after st (es ++ fs) ≡ state_after (state_after st es) fs
state_after-append [] fs st = refl
state_after-append (e ∷ es) fs st = state_after-append es fs (step st e.session e.call).state

-- an entry of a legal history has the reply of the step at its place
legal-at : (front rest : List Entry) (e : Entry) (st : State) → IsLegalFrom st (front ++ e ∷ rest) → e.reply ≡ (step (state_after st front) e.session e.call).reply
legal-at [] rest e st h = h.0
legal-at (f ∷ front) rest e st h = legal-at front rest e (step st f.session f.call).state h.1

-- starting from st, each reply is the one that the step gives
abbrev AreSteps : State → List Entry → Type 0
AreSteps st es = (front rest : List Entry) (e : Entry) → es ≡ front ++ e ∷ rest → e.reply ≡ (step (state_after st front) e.session e.call).reply

-- entries whose replies are those of the steps are legal
from-steps : (es : List Entry) (st : State) → AreSteps st es → IsLegalFrom st es
from-steps [] st h = tt
from-steps (e ∷ es) st h = (h [] es e refl, from-steps es (step st e.session e.call).state (λ front rest f k. h (e ∷ front) rest f (ap (λ (xs : List Entry). e ∷ xs) k)))

-- the replies of a legal history are those of the steps
pub legal-steps : (es : List Entry) → IsLegal es → AreRepliesOfSteps es
legal-steps es h front rest e k = legal-at front rest e empty (subst IsLegal k h)

-- a history whose replies are those of the steps is legal
pub steps-legal : (es : List Entry) → AreRepliesOfSteps es → IsLegal es
steps-legal es h = from-steps es empty h

-- a front of legal entries is legal
legal_from-front : (front rest : List Entry) (st : State) → IsLegalFrom st (front ++ rest) → IsLegalFrom st front
legal_from-front [] rest st h = tt
legal_from-front (e ∷ front) rest st h = (h.0, legal_from-front front rest (step st e.session e.call).state h.1)

-- a front of a legal history is legal
pub legal-front : (front rest : List Entry) → IsLegal (front ++ rest) → IsLegal front
legal-front front rest h = legal_from-front front rest empty h

-- legal entries with one more that has the step's reply are legal
legal_from-push : (es : List Entry) (e : Entry) (st : State) → IsLegalFrom st es → e.reply ≡ (step (state_after st es) e.session e.call).reply → IsLegalFrom st (es ++ e ∷ [])
legal_from-push [] e st h k = (k, tt)
legal_from-push (f ∷ es) e st h k = (h.0, legal_from-push es e (step st f.session f.call).state h.1 k)

-- a legal history with one more entry that has the step's reply is legal
pub legal-push : (es : List Entry) (e : Entry) → IsLegal es → e.reply ≡ (step (state_of es) e.session e.call).reply → IsLegal (es ++ e ∷ [])
legal-push es e h k = legal_from-push es e empty h k

-- one more entry leads to the state after one more step
pub state_of-push : (es : List Entry) (e : Entry) → state_of (es ++ e ∷ []) ≡ (step (state_of es) e.session e.call).state
state_of-push es e = state_after-append es (e ∷ []) empty

-- one legal history for each list of calls

-- the entries of these calls with the replies that the manager gives, starting from st
abbrev pub served : State → List (ℕ × Call) → List Entry
served st [] = []
served st (c ∷ cs) = record { session = c.0; call = c.1; reply = (step st c.0 c.1).reply } ∷ served (step st c.0 c.1).state cs

-- they are entries of these calls
served-asked : (cs : List (ℕ × Call)) (st : State) → asked_in (served st cs) ≡ cs
served-asked [] st = refl
served-asked (c ∷ cs) st = ap (λ (rest : List (ℕ × Call)). c ∷ rest) (served-asked cs (step st c.0 c.1).state)

-- they are legal
served-legal : (cs : List (ℕ × Call)) (st : State) → IsLegalFrom st (served st cs)
served-legal [] st = tt
served-legal (c ∷ cs) st = (refl, served-legal cs (step st c.0 c.1).state)

-- for every list of calls there is a legal history
pub some-history : (cs : List (ℕ × Call)) → (es : List Entry) × ((asked_in es ≡ cs) × IsLegal es)
some-history cs = (served empty cs, (served-asked cs empty, served-legal cs empty))

-- a history with the replies that the manager gives to its calls is legal
pub legal-served : (es : List Entry) → served empty (asked_in es) ≡ es → IsLegal es
legal-served es e = subst IsLegal e (served-legal (asked_in es) empty)

-- two entries of one session and call, each with the step's reply, are equal
same-entry : (st : State) (e f : Entry) → e.session ≡ f.session → e.call ≡ f.call → e.reply ≡ (step st e.session e.call).reply → f.reply ≡ (step st f.session f.call).reply → e ≡ f
same-entry st e f p q h k =
    let r : e.reply ≡ f.reply = h ∙ (ap (λ (n : ℕ). (step st n e.call).reply) p ∙ (ap (λ (c : Call). (step st f.session c).reply) q ∙ sym k)) in
    λ i. record { session = p i; call = q i; reply = r i }

-- equal lists of calls have equal heads and equal rests
same-calls : (x y : ℕ × Call) (xs ys : List (ℕ × Call)) → x ∷ xs ≡ y ∷ ys → (x.0 ≡ y.0) × (x.1 ≡ y.1) × (xs ≡ ys)
same-calls x y xs ys e = let head : x ≡ y = cc in (ap (λ (c : ℕ × Call). c.0) head, ap (λ (c : ℕ × Call). c.1) head, cc)

-- two legal lists of entries of the same calls are equal
one-from : (es fs : List Entry) (st : State) → asked_in es ≡ asked_in fs → IsLegalFrom st es → IsLegalFrom st fs → es ≡ fs
one-from [] [] st a h k = refl
one-from [] (f ∷ fs) st a h k = absurd (cc)
one-from (e ∷ es) [] st a h k = absurd (cc)
one-from (e ∷ es) (f ∷ fs) st a h k =
    let c = same-calls (e.session, e.call) (f.session, f.call) (asked_in es) (asked_in fs) a in
    let legal : IsLegalFrom (step st e.session e.call).state fs = rw (c.0, c.1) k.1 in
    let tail = one-from es fs (step st e.session e.call).state c.2 h.1 legal in
    ap (λ (x : Entry). x ∷ es) (same-entry st e f c.0 c.1 h.0 k.0) ∙ ap (λ (xs : List Entry). f ∷ xs) tail

-- two legal histories of the same calls are equal
pub one-history : (es fs : List Entry) → asked_in es ≡ asked_in fs → IsLegal es → IsLegal fs → es ≡ fs
one-history es fs = one-from es fs empty
