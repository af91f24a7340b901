-- What a begin opens and what a poll reports, as the laws state it.
use Rattle.std.proofs.Common.{◌≡◌, ℕ, ◌+◌, Bool, true, false, cond, not, ◌↔◌, Option, Some, None, is_some, refl, sym, ◌∙◌, ap, subst, Decides}
use Rattle.lock_rules.specs.declared.calls.Call.TheVariants.{Begin, Poll}
use Rattle.lock_rules.specs.declared.calls.Reply.{Reply}
use Rattle.lock_rules.specs.declared.calls.Reply.TheVariants.{Began, Waiting, Deadlock, Clear, Refused}
use Rattle.lock_rules.specs.declared.calls.Transaction.{Transaction}
use Rattle.lock_rules.specs.declared.calls.Why.TheVariants.{NoTransaction}
use Rattle.lock_rules.specs.State.{Claim, State, request_of, is_open, is_waiting, is_doomed, doomed_in}
use Rattle.lock_rules.specs.Step.{Outcome, step, act, outcome_of}
use Rattle.lock_rules.specs.Laws.{HasTransaction, HasDoomedTransaction, HasRequest}
use Rattle.lock_rules.specs.Effects.{IsBeginOf, DoesBeginOpen, DoesPollReport}
use Rattle.lock_rules.specs.Sound.{IsNumbered}
use Rattle.lock_rules.proofs.Lists.{other, eqb-refl}
use Rattle.lock_rules.proofs.Taken.{step-acts}

-- tests of a session

-- the test whether an option is some decides whether it has a value
some-decides : {A : Type 0} (o : Option A) → Decides (is_some o) ((x : A) × (o ≡ Some x))
some-decides None = (λ h. absurd (cc), λ h. let e = h.1 in cc)
some-decides (Some x) = (λ h. (x, refl), λ h. refl)

-- is_open decides HasTransaction
pub open-decides : (st : State) (s : ℕ) → Decides (is_open st s) (HasTransaction st s)
open-decides st s = some-decides (st.begun s)

-- is_waiting decides HasRequest
pub waiting-decides : (st : State) (s : ℕ) → Decides (is_waiting st s) (HasRequest st s)
waiting-decides st s = some-decides (request_of s st.table.requests)

-- doomed_in decides whether there is a doomed transaction
doomed_in-decides : (o : Option Transaction) → Decides (doomed_in o) ((x : Transaction) × (o ≡ Some x) × (x.doomed ≡ true))
doomed_in-decides None = (λ h. absurd (cc), λ h. let e = h.1 in cc)
doomed_in-decides (Some x) = (λ h. (x, refl, h), λ h. ap doomed_in h.1 ∙ h.2)

-- is_doomed decides HasDoomedTransaction
pub doomed-decides : (st : State) (s : ℕ) → Decides (is_doomed st s) (HasDoomedTransaction st s)
doomed-decides st s = doomed_in-decides (st.begun s)

-- a begin

-- a begin opens a transaction with the next number and changes nothing else
begin-of : (s : ℕ) (st : State) → IsBeginOf s st (act st s Begin).state
begin-of s st = record {
  count = refl;
  own = ap (λ (b : Bool). cond b (Some (record { number = st.count + 1; doomed = false })) (st.begun s)) (eqb-refl s);
  others = λ u n. ap (λ (b : Bool). cond b (Some (record { number = st.count + 1; doomed = false })) (st.begun u)) (other s u n);
  table = refl;
}

-- a begin that isn't refused does so, and replies with the number
pub begin-opens : (st : State) → DoesBeginOpen st
begin-opens st s h = subst (λ (o : Outcome). (o.reply ≡ Began (st.count + 1)) × IsBeginOf s st o.state) (sym (step-acts st s Begin h)) (refl, begin-of s st)

-- a poll

-- the reply to a poll of a session with this transaction and this request
abbrev pub told_of : Option Transaction → Option Claim → Reply
told_of None r = Refused NoTransaction
told_of (Some x) r = cond x.doomed Deadlock (cond (is_some r) Waiting Clear)

-- a poll replies so
pub poll-told : (st : State) (s : ℕ) → (step st s Poll).reply ≡ told_of (st.begun s) (request_of s st.table.requests)
poll-told st s = go (st.begun s) refl
  where
    go : (o : Option Transaction) → st.begun s ≡ o → (outcome_of (cond (not (is_some o)) (Some NoTransaction) None) st s Poll).reply ≡ told_of o (request_of s st.table.requests)
    go None e = refl
    go (Some x) e = ap (λ (p : Option Transaction). cond (doomed_in p) Deadlock (cond (is_waiting st s) Waiting Clear)) e

-- a poll changes nothing
poll-keeps : (st : State) (s : ℕ) → (step st s Poll).state ≡ st
poll-keeps st s = go (is_open st s)
  where
    go : (b : Bool) → (outcome_of (cond (not b) (Some NoTransaction) None) st s Poll).state ≡ st
    go true = refl
    go false = refl

-- if there is a request, there is a transaction
abbrev OwnsRequest : Option Transaction → Option Claim → Type 0
OwnsRequest o r = (q : Claim) → r ≡ Some q → is_some o ≡ true

-- the reply is Deadlock exactly if the transaction is doomed
told-deadlock : (o : Option Transaction) (r : Option Claim) → (told_of o r ≡ Deadlock) ↔ ((x : Transaction) × (o ≡ Some x) × (x.doomed ≡ true))
told-deadlock None r = (λ h. absurd (cc), λ h. let e = h.1 in absurd (cc))
told-deadlock (Some x) r = (λ h. (x, refl, go x.doomed (is_some r) h), λ h. let e : x ≡ h.0 = let f = h.1 in cc in ap (λ (b : Bool). cond b Deadlock (cond (is_some r) Waiting Clear)) (ap (λ (y : Transaction). y.doomed) e ∙ h.2))
  where
    go : (d w : Bool) → cond d Deadlock (cond w Waiting Clear) ≡ Deadlock → d ≡ true
    go true w h = refl
    go false true h = absurd (cc)
    go false false h = absurd (cc)

-- the reply is Waiting exactly if there is a request and the transaction isn't doomed
told-waiting : (o : Option Transaction) (r : Option Claim) → OwnsRequest o r → (told_of o r ≡ Waiting) ↔ (((q : Claim) × (r ≡ Some q)) × (((x : Transaction) × (o ≡ Some x) × (x.doomed ≡ true)) → ⊥))
told-waiting None r own = (λ h. absurd (cc), λ h. let e = own h.0.0 h.0.1 in absurd (cc))
told-waiting (Some x) r own = (λ h. go x.doomed r refl h, λ h. back x.doomed r refl h.0 h.1)
  where
    go : (d : Bool) (w : Option Claim) → x.doomed ≡ d → cond d Deadlock (cond (is_some w) Waiting Clear) ≡ Waiting → ((q : Claim) × (w ≡ Some q)) × (((y : Transaction) × (Some x ≡ Some y) × (y.doomed ≡ true)) → ⊥)
    go true w e h = absurd (cc)
    go false None e h = absurd (cc)
    go false (Some q) e h = ((q, refl), λ k. let f = k.1 in let g = k.2 in let same : x ≡ k.0 = cc in let j = ap (λ (y : Transaction). y.doomed) same in cc)

    back : (d : Bool) (w : Option Claim) → x.doomed ≡ d → ((q : Claim) × (w ≡ Some q)) → (((y : Transaction) × (Some x ≡ Some y) × (y.doomed ≡ true)) → ⊥) → cond d Deadlock (cond (is_some w) Waiting Clear) ≡ Waiting
    back true w e h n = absurd (n (x, refl, e))
    back false None e h n = let f = h.1 in absurd (cc)
    back false (Some q) e h n = refl

-- the reply is Clear exactly if there is a transaction, not doomed, and no request
told-clear : (o : Option Transaction) (r : Option Claim)
    → (told_of o r ≡ Clear) ↔ (((x : Transaction) × (o ≡ Some x)) × (((q : Claim) × (r ≡ Some q)) → ⊥) × (((x : Transaction) × (o ≡ Some x) × (x.doomed ≡ true)) → ⊥))
told-clear None r = (λ h. absurd (cc), λ h. let e = h.0.1 in absurd (cc))
told-clear (Some x) r = (λ h. go x.doomed r refl h, λ h. back x.doomed r refl h.1 h.2)
  where
    go : (d : Bool) (w : Option Claim) → x.doomed ≡ d → cond d Deadlock (cond (is_some w) Waiting Clear) ≡ Clear → ((y : Transaction) × (Some x ≡ Some y)) × (((q : Claim) × (w ≡ Some q)) → ⊥) × (((y : Transaction) × (Some x ≡ Some y) × (y.doomed ≡ true)) → ⊥)
    go true w e h = absurd (cc)
    go false (Some q) e h = absurd (cc)
    go false None e h = ((x, refl), λ k. let f = k.1 in cc, λ k. let f = k.1 in let g = k.2 in let same : x ≡ k.0 = cc in let j = ap (λ (y : Transaction). y.doomed) same in cc)

    back : (d : Bool) (w : Option Claim) → x.doomed ≡ d → (((q : Claim) × (w ≡ Some q)) → ⊥) → (((y : Transaction) × (Some x ≡ Some y) × (y.doomed ≡ true)) → ⊥) → cond d Deadlock (cond (is_some w) Waiting Clear) ≡ Clear
    back true w e m n = absurd (n (x, refl, e))
    back false (Some q) e m n = absurd (m (q, refl))
    back false None e m n = refl

-- a poll reports how the session stands, as the law states it
pub poll-tells : (st : State) → IsNumbered st → DoesPollReport st
poll-tells st i s =
    let r = request_of s st.table.requests in
    let own : OwnsRequest (st.begun s) r = λ q e. i.owners.waiting s q e in
    record {
      keeps = poll-keeps st s;
      deadlock = rw (poll-told st s) (told-deadlock (st.begun s) r);
      waiting = rw (poll-told st s) (told-waiting (st.begun s) r own);
      clear = rw (poll-told st s) (told-clear (st.begun s) r);
    }
