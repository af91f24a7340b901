-- The verdict on a history, one entry at a time.
use Rattle.std.proofs.Common.{◌≡◌, ℕ, zero, suc, ◌+◌, ◌<◌, ◌≤◌, List, [], ◌∷◌, ◌++◌, length, take, take-suc, get_or, add-one, sym, ap, ◌∙◌, subst, arith}
use Rattle.std.specs.List.{All}
use Rattle.lock_rules.specs.declared.calls.Reply.{Reply}
use Rattle.lock_rules.specs.Entries.{Entry}
use Rattle.lock_rules.specs.State.{State, empty}
use Rattle.lock_rules.specs.Step.{step}
use Rattle.lock_rules.specs.Legal.{state_of, IsLegalFrom, IsLegal}
use Rattle.lock_rules.proofs.Histories.{legal-push, legal-steps}
use Rattle.lock_trace.specs.Entries.{IsEntry}
use Rattle.replay_commands.specs.Verdicts.{IsFirstWrong}

-- a prefix of a prefix that is legal from a state is legal from this state
fewer_from : (es : List Entry) (i j : ℕ) (st : State) → i ≤ j → IsLegalFrom st (take j es) → IsLegalFrom st (take i es)
fewer_from es zero j st le legal = tt
fewer_from [] (suc i) j st le legal = tt
fewer_from (e ∷ es) (suc i) zero st le legal = absurd (omega (arith, le))
fewer_from (e ∷ es) (suc i) (suc j) st le legal = (legal.0, fewer_from es i j (step st e.session e.call).state (omega (arith, le)) legal.1)

-- a prefix of a legal prefix is legal
pub fewer : (es : List Entry) (i j : ℕ) → i ≤ j → IsLegal (take j es) → IsLegal (take i es)
fewer es i j le legal = fewer_from es i j empty le legal

-- the prefix of one more entry is the prefix and this entry
pub grown : (es : List Entry) (i : ℕ) (e : Entry) → i < length es → e ≡ get_or es i e → take (i + 1) es ≡ take i es ++ (e ∷ [])
grown es i e lt is = ap (λ (k : ℕ). take k es) (add-one i) ∙ take-suc es i e lt ∙ ap (λ (x : Entry). take i es ++ (x ∷ [])) (sym is)

-- an entry of valid entries is valid
pub within_at : (n : ℕ) (es : List Entry) (i : ℕ) (e : Entry) → All (IsEntry n) es → i < length es → e ≡ get_or es i e → IsEntry n e
within_at n es i e are lt is = subst (IsEntry n) (sym is) (are i e lt)

-- the prefix stays legal with an entry whose recorded reply is the book's
pub right : (es : List Entry) (i : ℕ) (e : Entry) (given : Reply) (before : List Entry) → i < length es → e ≡ get_or es i e → before ≡ take i es → IsLegal (take i es)
    → given ≡ (step (state_of before) e.session e.call).reply → given ≡ e.reply → IsLegal (take (i + 1) es)
right es i e given before lt is so_far legal by_step same =
    let there : given ≡ (step (state_of (take i es)) e.session e.call).reply = by_step ∙ ap (λ (xs : List Entry). (step (state_of xs) e.session e.call).reply) so_far in
    subst IsLegal (sym (grown es i e lt is)) (legal-push (take i es) e legal (sym same ∙ there))

-- the book's history is then the prefix with this entry
pub one_more : (es : List Entry) (i : ℕ) (e : Entry) (given : Reply) (before after : List Entry) → i < length es → e ≡ get_or es i e → before ≡ take i es
    → after ≡ before ++ record { session = e.session; call = e.call; reply = given } ∷ [] → given ≡ e.reply → after ≡ take (i + 1) es
one_more es i e given before after lt is so_far more same =
    more ∙ ap (λ (r : Reply). before ++ record { session = e.session; call = e.call; reply = r } ∷ []) same
    ∙ ap (λ (xs : List Entry). xs ++ e ∷ []) so_far ∙ sym (grown es i e lt is)

-- an entry whose recorded reply isn't the book's is the first wrong entry
pub first_wrong : (es : List Entry) (i : ℕ) (e : Entry) (given : Reply) (before : List Entry) → i < length es → e ≡ get_or es i e → before ≡ take i es → IsLegal (take i es)
    → given ≡ (step (state_of before) e.session e.call).reply → ¬ (given ≡ e.reply) → IsFirstWrong es i
first_wrong es i e given before lt is so_far legal by_step other =
    let there : given ≡ (step (state_of (take i es)) e.session e.call).reply = by_step ∙ ap (λ (xs : List Entry). (step (state_of xs) e.session e.call).reply) so_far in
    record { within = lt; wrong = λ too. other (there ∙ sym (legal-steps (take (i + 1) es) too (take i es) [] e (grown es i e lt is))); least = λ q below. fewer es (q + 1) i (omega (arith, below)) legal }
