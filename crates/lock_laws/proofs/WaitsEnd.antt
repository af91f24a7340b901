-- Waits end by themselves if there is no cycle, and then alone.
use Rattle.std.proofs.Common.{◌≡◌, ℕ, Bool, true, cond, inl, inr, List, [], ◌∷◌, Some, refl, sym, ◌∙◌, ap, subst}
use Rattle.std.specs.Prelude.{◌↔◌, is_some}
use Rattle.lock_rules.specs.declared.calls.Call.TheVariants.{Abort}
use Rattle.lock_rules.specs.Entries.{Entry}
use Rattle.lock_rules.specs.State.{Claim, State, request_of, is_waiting}
use Rattle.lock_rules.specs.Step.{Outcome}
use Rattle.lock_rules.specs.Legal.{state_of}
use Rattle.lock_rules.specs.Laws.{DoesNobodyWaitNeedlessly, HasNoCircle}
use Rattle.lock_rules.specs.Sound.{IsNumbered, IsSound}
use Rattle.lock_rules.proofs.Lists.{eqb-refl}
use Rattle.lock_rules.proofs.Alters.{true≢false}
use Rattle.lock_rules.proofs.Cuts.{IsQuiescent, ended-lawful}
use Rattle.lock_rules.proofs.Owners.{step-numbered, state-numbered, owners-open}
use Rattle.lock_rules.proofs.Steps.{state-lawful}
use Rattle.lock_laws.specs.Ends.{ended, AreEnds, CanNobodyEnd, DoWaitsEnd, DoesEverybodyEnd, AreOpenBelow}
use Rattle.lock_laws.proofs.Chains.{waits-lead}
use Rattle.lock_laws.proofs.Circles.{circles-stay}
use Rattle.lock_laws.proofs.Orders.{abort-ends, ends-or-open}

-- if nobody can end, nobody waits: whoever waits, waits in the end for a session that can end
nobody-waits : (st : State) → IsQuiescent st.table → IsNumbered st → CanNobodyEnd st → st.table.requests ≡ []
nobody-waits st i n none = go st.table.requests refl
  where
    go : (qs : List Claim) → st.table.requests ≡ qs → qs ≡ []
    go [] e = refl
    go (q ∷ qs) e =
        let found = ap (λ (b : Bool). is_some (cond b (Some q) (request_of q.session qs))) (eqb-refl q.session) in
        let waits : is_waiting st q.session ≡ true = ap (λ (xs : List Claim). is_some (request_of q.session xs)) e ∙ found in
        let w = waits-lead st i.sound.order i.sound.once i.unfit i.no_circle (owners-open st n) q.session waits in
        absurd (true≢false (none w.0 w.1.opened) w.1.runs)

-- without a cycle waits end
pub quiescent-ends : (st : State) → IsQuiescent st.table → IsNumbered st → DoWaitsEnd st
quiescent-ends st i n ss last a none = go ss st i n a
  where
    go : (ss : List ℕ) (st : State) → IsQuiescent st.table → IsNumbered st → AreEnds ss st last → last.table.requests ≡ []
    go [] st i n a = nobody-waits last (subst (λ (x : State). IsQuiescent x.table) (sym a) i) (subst IsNumbered (sym a) n) none
    go (s ∷ ss) st i n a = go ss (ended s st) (ended-lawful s st.table i) (subst IsNumbered (ap (λ (o : Outcome). o.state) (abort-ends st s a.0.0)) (step-numbered st s Abort n)) a.1

-- without a cycle everybody ends: whoever has a transaction afterwards waits, and nobody does
pub everybody-ends : (st : State) → IsQuiescent st.table → IsNumbered st → DoesEverybodyEnd st
everybody-ends st i n ss last a none s o = elim (ends-or-open ss st last s a o) [
  | inl c ↦ c
  | inr k ↦
      let e = quiescent-ends st i n ss last a none in
      let f = ap (λ (qs : List Claim). is_some (request_of s qs)) e in
      absurd (true≢false (none s k) f)
]

-- from every state that a history leads to waits end
pub history-ends : (es : List Entry) → DoWaitsEnd (state_of es)
history-ends es = quiescent-ends (state_of es) (state-lawful es) (state-numbered es)

-- with a cycle waits don't end, and without one they do
pub ends-exactly : (st : State) (n : ℕ) → AreOpenBelow n st → IsSound st.table → DoesNobodyWaitNeedlessly st → IsNumbered st → DoWaitsEnd st ↔ HasNoCircle st
ends-exactly st n below i unfit k = (
  λ ends s c. circles-stay n st below i.once ends s c.others c.walk,
  λ none. quiescent-ends st (record { sound = i; no_circle = λ s ws walk. none s (record { others = ws; walk = walk }); unfit = unfit }) k,
)

-- and everybody ends
pub history-everybody : (es : List Entry) → DoesEverybodyEnd (state_of es)
history-everybody es = everybody-ends (state_of es) (state-lawful es) (state-numbered es)
