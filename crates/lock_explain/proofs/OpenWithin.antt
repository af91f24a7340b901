-- Only sessions that have called have open transactions.
use Rattle.std.proofs.Common.{◌≡◌, ℕ, zero, suc, ◌+◌, ◌≤◌, Bool, true, false, cond, eqb, inl, inr, List, [], ◌∷◌, length, Option, Some, None, is_some, refl, sym, ◌∙◌, ap}
use Rattle.std.specs.List.{All}
use Rattle.std.proofs.lemmas.Bool.{cases_Bool}
use Rattle.std.proofs.lemmas.Bool.Decides.{Decides-eqb}
use Rattle.std.proofs.lemmas.List.Elements.{All-head, All-tail}
use Rattle.lock_modes.specs.declared.Mode.{Mode}
use Rattle.lock_rules.specs.declared.calls.Call.{Call}
use Rattle.lock_rules.specs.declared.calls.Call.TheVariants.{Begin, Lock, Convert, Poll, Release, Commit, Abort, Try, Withdraw, Restart}
use Rattle.lock_rules.specs.Entries.{Entry}
use Rattle.lock_rules.specs.declared.calls.Transaction.{Transaction}
use Rattle.lock_rules.specs.declared.calls.Why.{Why}
use Rattle.lock_rules.specs.State.{Claim, State, empty, held_mode, request_of, is_open, with_table}
use Rattle.lock_rules.specs.Queue.{after_grant, is_granted_at_once, with_request}
use Rattle.lock_rules.specs.Waits.{reaches, doom, victim_of, after_victim, after_victims}
use Rattle.lock_rules.specs.Step.{target_of, tests, first_failing, is_held, after_wait, after_asking, restarted, act, outcome_of, step}
use Rattle.lock_rules.specs.Legal.{state_after, state_of}
use Rattle.lock_rules.proofs.Owners.{state-numbered}
use Rattle.sequential.specs.Histories.{IsEntryWithin}

-- a doom opens and closes no transaction
pub doomed-open : (o : Option Transaction) → is_some (doom o) ≡ is_some o
doomed-open None = refl
doomed-open (Some x) = refl

-- a victim opens and closes no transaction
pub victim-open : (v : ℕ) (st : State) (u : ℕ) → is_open (after_victim v st) u ≡ is_open st u
victim-open v st u = elim (cases_Bool (eqb u v)) [
  | inl y ↦ (let e = (Decides-eqb u v).0 y in ap (λ (b : Bool). is_some (cond b (doom (st.begun v)) (st.begun u))) y ∙ (doomed-open (st.begun v) ∙ ap (λ (i : ℕ). is_open st i) (sym e)))
  | inr n ↦ ap (λ (b : Bool). is_some (cond b (doom (st.begun v)) (st.begun u))) n
]

-- nor does the choice of victims
victims-open : (n s : ℕ) (st : State) (u : ℕ) → is_open (after_victims n s st) u ≡ is_open st u
victims-open zero s st u = refl
victims-open (suc n) s st u = go (victims-open n s (after_victim (victim_of st s) st) u ∙ victim-open (victim_of st s) st u) (reaches st.table s s)
  where
    go : is_open (after_victims n s (after_victim (victim_of st s) st)) u ≡ is_open st u → (b : Bool) → is_open (cond b (after_victims n s (after_victim (victim_of st s) st)) st) u ≡ is_open st u
    go rest true = rest
    go rest false = refl

-- nor does a request
asked-open : (st : State) (s : ℕ) (r : List ℕ) (m : Mode) (u : ℕ) → is_open (after_asking st s r m) u ≡ is_open st u
asked-open st s r m u = go (is_held (held_mode st.table s r) m) (is_granted_at_once st.table s r m)
  where
    go : (b c : Bool) → is_open (cond b st (cond c (with_table (after_grant s r m st.table) st) (after_wait st s r m))) u ≡ is_open st u
    go true c = refl
    go false true = refl
    go false false = victims-open (length st.table.requests + 2) s (with_table (with_request s r m st.table) st) u

-- a call opens and closes no transaction of another session
act-open : (st : State) (s : ℕ) (c : Call) (u : ℕ) → eqb u s ≡ false → is_open (act st s c).state u ≡ is_open st u
act-open st s Begin u n = ap (λ (b : Bool). is_some (cond b (Some (record { number = st.count + 1; doomed = false })) (st.begun u))) n
act-open st s (Lock r m) u n = asked-open st s r (target_of (held_mode st.table s r) m) u
act-open st s (Convert r m) u n = asked-open st s r (target_of (held_mode st.table s r) m) u
act-open st s Poll u n = refl
act-open st s (Release r) u n = refl
act-open st s Commit u n = ap (λ (b : Bool). is_some (cond b None (st.begun u))) n
act-open st s Abort u n = ap (λ (b : Bool). is_some (cond b None (st.begun u))) n
act-open st s (Try r m) u n = asked-open st s r (target_of (held_mode st.table s r) m) u
act-open st s Withdraw u n = refl
act-open st s Restart u n = ap (λ (b : Bool). is_some (cond b (restarted (st.begun s)) (st.begun u))) n

-- the same, refused or not
step-open : (st : State) (s : ℕ) (c : Call) (u : ℕ) → eqb u s ≡ false → is_open (step st s c).state u ≡ is_open st u
step-open st s c u n = go (first_failing (tests st s c))
  where
    go : (o : Option Why) → is_open (outcome_of o st s c).state u ≡ is_open st u
    go None = act-open st s c u n
    go (Some y) = refl

-- all open transactions are of sessions 1 to n
abbrev pub AreWithin : ℕ → State → Type 0
AreWithin n st = (u : ℕ) → is_open st u ≡ true → (1 ≤ u) × (u ≤ n)

-- a call of such a session keeps that
pub step-within : (n : ℕ) (st : State) (s : ℕ) (c : Call) → 1 ≤ s → s ≤ n → AreWithin n st → AreWithin n (step st s c).state
step-within n st s c some most w u h = elim (cases_Bool (eqb u s)) [
  | inl y ↦ (let e = (Decides-eqb u s).0 y in rw e (some, most))
  | inr k ↦ w u (sym (step-open st s c u k) ∙ h)
]

-- so do the entries of such sessions
after-within : (n : ℕ) (es : List Entry) (st : State) → All (IsEntryWithin n) es → AreWithin n st → AreWithin n (state_after st es)
after-within n [] st a w = w
after-within n (e ∷ es) st a w =
    let first = All-head (IsEntryWithin n) e es a in
    after-within n es (step st e.session e.call).state (All-tail (IsEntryWithin n) e es a) (step-within n st e.session e.call first.some first.within w)

-- a history of sessions 1 to n leads to a state whose open transactions are of these sessions
pub state-within : (n : ℕ) (history : List Entry) → All (IsEntryWithin n) history → AreWithin n (state_of history)
state-within n history a = after-within n history empty a (λ u h. absurd (cc))

-- a session that waits after such a history is one of them
pub waiting-within : (n : ℕ) (history : List Entry) → All (IsEntryWithin n) history → (u : ℕ) (q : Claim) → request_of u (state_of history).table.requests ≡ Some q → (1 ≤ u) × (u ≤ n)
waiting-within n history a u q e = state-within n history a u ((state-numbered history).owners.waiting u q e)
