-- Which sessions can have an open transaction after a history.
use Rattle.std.proofs.Common.{◌≡◌, ℕ, zero, suc, ◌+◌, ◌<◌, ◌≤◌, Bool, true, false, cond, eqb, List, [], ◌∷◌, Option, Some, None, refl, ◌∙◌, ap, arith, length}
use Rattle.std.specs.Prelude.{is_some, All}
use Rattle.std.proofs.lemmas.Bool.Decides.{Decides-eqb}
use Rattle.std.proofs.lemmas.List.Elements.{All-head, All-tail, All-cons, All-nil}
use Rattle.lock_modes.specs.declared.Mode.{Mode}
use Rattle.lock_rules.specs.declared.calls.Call.{Call}
use Rattle.lock_rules.specs.declared.calls.Call.TheVariants.{Begin, Lock, Convert, Poll, Release, Commit, Abort, Try, Withdraw, Restart}
use Rattle.lock_rules.specs.declared.calls.Transaction.{Transaction}
use Rattle.lock_rules.specs.declared.calls.Why.{Why}
use Rattle.lock_rules.specs.Entries.{Entry}
use Rattle.lock_rules.specs.State.{State, empty, held_mode, is_open, with_table}
use Rattle.lock_rules.specs.Queue.{after_grant, with_request, is_granted_at_once}
use Rattle.lock_rules.specs.Waits.{doom, reaches, victim_of, after_victim, after_victims}
use Rattle.lock_rules.specs.Step.{target_of, tests, first_failing, is_held, after_wait, after_asking, restarted, act, outcome_of, step}
use Rattle.lock_rules.specs.Legal.{state_after, state_of}
use Rattle.lock_laws.specs.Ends.{AreOpenBelow}
use Rattle.lock_laws.proofs.Orders.{ended-below}

-- a doom opens no transaction
doom-open : (o : Option Transaction) → is_some (doom o) ≡ true → is_some o ≡ true
doom-open None h = absurd (cc)
doom-open (Some x) h = refl

-- a victim opens no transaction
pub victim-below : (n v : ℕ) (st : State) → AreOpenBelow n st → AreOpenBelow n (after_victim v st)
victim-below n v st h u o = go (eqb u v) refl o
  where
    go : (b : Bool) → eqb u v ≡ b → is_some (cond b (doom (st.begun v)) (st.begun u)) ≡ true → u < n
    go true e k = let same = (Decides-eqb u v).0 e in h u (ap (is_open st) same ∙ doom-open (st.begun v) k)
    go false e k = h u k

-- the choice of victims opens no transaction
settled-below : (n m s : ℕ) (st : State) → AreOpenBelow n st → AreOpenBelow n (after_victims m s st)
settled-below n zero s st h = h
settled-below n (suc m) s st h = go (reaches st.table s s) (settled-below n m s (after_victim (victim_of st s) st) (victim-below n (victim_of st s) st h))
  where
    go : (b : Bool) → AreOpenBelow n (after_victims m s (after_victim (victim_of st s) st)) → AreOpenBelow n (cond b (after_victims m s (after_victim (victim_of st s) st)) st)
    go true k = k
    go false k = h

-- a restart opens no transaction
restarted-opens : (o : Option Transaction) → is_some (restarted o) ≡ true → is_some o ≡ true
restarted-opens None h = absurd (cc)
restarted-opens (Some x) h = refl

-- a request opens no transaction
asked-below : (n : ℕ) (st : State) (s : ℕ) (r : List ℕ) (m : Mode) → AreOpenBelow n st → AreOpenBelow n (after_asking st s r m)
asked-below n st s r m h = go (is_held (held_mode st.table s r) m) (is_granted_at_once st.table s r m)
  where
    go : (b g : Bool) → AreOpenBelow n (cond b st (cond g (with_table (after_grant s r m st.table) st) (after_wait st s r m)))
    go true g = h
    go false true = h
    go false false = settled-below n (length st.table.requests + 2) s (with_table (with_request s r m st.table) st) h

-- a call opens no transaction but one of its session
act-below : (n : ℕ) (st : State) (s : ℕ) (c : Call) → s < n → AreOpenBelow n st → AreOpenBelow n (act st s c).state
act-below n st s Begin l h = λ u o. go u (eqb u s) refl o
  where
    go : (u : ℕ) (b : Bool) → eqb u s ≡ b → is_some (cond b (Some (record { number = st.count + 1; doomed = false })) (st.begun u)) ≡ true → u < n
    go u true e k = let same = (Decides-eqb u s).0 e in omega arith
    go u false e k = h u k
act-below n st s (Lock r m) l h = asked-below n st s r (target_of (held_mode st.table s r) m) h
act-below n st s (Convert r m) l h = asked-below n st s r (target_of (held_mode st.table s r) m) h
act-below n st s Poll l h = h
act-below n st s (Release r) l h = h
act-below n st s Commit l h = ended-below n s st h
act-below n st s Abort l h = ended-below n s st h
act-below n st s (Try r m) l h = asked-below n st s r (target_of (held_mode st.table s r) m) h
act-below n st s Withdraw l h = h
act-below n st s Restart l h = λ u o. go u (eqb u s) refl o
  where
    go : (u : ℕ) (b : Bool) → eqb u s ≡ b → is_some (cond b (restarted (st.begun s)) (st.begun u)) ≡ true → u < n
    go u true e k = let same = (Decides-eqb u s).0 e in h u (ap (is_open st) same ∙ restarted-opens (st.begun s) k)
    go u false e k = h u k

-- a call, refused or not, opens no transaction but one of its session
step-below : (n : ℕ) (st : State) (s : ℕ) (c : Call) → s < n → AreOpenBelow n st → AreOpenBelow n (step st s c).state
step-below n st s c l h = go (first_failing (tests st s c))
  where
    go : (o : Option Why) → AreOpenBelow n (outcome_of o st s c).state
    go None = act-below n st s c l h
    go (Some w) = h

-- entries of sessions below n leave open transactions below n
after-below : (n : ℕ) (es : List Entry) (st : State) → All (λ (e : Entry). e.session < n) es → AreOpenBelow n st → AreOpenBelow n (state_after st es)
after-below n [] st all h = h
after-below n (e ∷ es) st all h = after-below n es (step st e.session e.call).state (All-tail (λ (e : Entry). e.session < n) e es all) (step-below n st e.session e.call (All-head (λ (e : Entry). e.session < n) e es all) h)

-- if every entry of a history is of a session below n, so is every open transaction
pub history-below : (es : List Entry) (n : ℕ) → All (λ (e : Entry). e.session < n) es → AreOpenBelow n (state_of es)
history-below es n all = after-below n es empty all (λ s o. absurd (cc))

-- one more than the sum of the entries' sessions, which is above each of them
abbrev bound : List Entry → ℕ
bound [] = 1
bound (e ∷ es) = e.session + bound es

-- no session of the entries reaches a number at or above their bound
below-bound : (es : List Entry) (n : ℕ) → bound es ≤ n → All (λ (e : Entry). e.session < n) es
below-bound [] n le = All-nil (λ (e : Entry). e.session < n)
below-bound (e ∷ es) n le = All-cons (λ (e : Entry). e.session < n) e es (let p = positive es in omega arith) (below-bound es n (omega arith))
  where
    positive : (es : List Entry) → 0 < bound es
    positive [] = omega arith
    positive (e ∷ es) = let p = positive es in omega arith

-- some number is above every session with an open transaction
pub some-below : (es : List Entry) → (n : ℕ) × AreOpenBelow n (state_of es)
some-below es = (bound es, history-below es (bound es) (below-bound es (bound es) (omega arith)))
