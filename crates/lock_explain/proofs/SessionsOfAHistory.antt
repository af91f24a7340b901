-- Only sessions of a history's entries have transactions, hold locks, wait, or are waited for.
use Rattle.std.proofs.Common.{◌≡◌, ℕ, zero, suc, ◌+◌, ◌≤◌, Bool, true, false, cond, not, eqb, leb, ◌&&◌, inl, inr, List, [], ◌∷◌, length, Option, Some, None, is_some, refl, ◌∙◌, ap, arith}
use Rattle.std.specs.List.{All}
use Rattle.std.proofs.lemmas.Bool.{and_parts, and_from, or_cases, le-leb, leb-true}
use Rattle.std.proofs.lemmas.Bool.Decides.{Decides-eqb}
use Rattle.lock_modes.specs.declared.Mode.{Mode}
use Rattle.lock_rules.specs.declared.calls.Call.{Call}
use Rattle.lock_rules.specs.declared.calls.Call.TheVariants.{Begin, Lock, Convert, Poll, Release, Commit, Abort, Try, Withdraw, Restart}
use Rattle.lock_rules.specs.declared.calls.Why.{Why}
use Rattle.lock_rules.specs.Entries.{Entry}
use Rattle.lock_rules.specs.declared.calls.Transaction.{Transaction}
use Rattle.lock_rules.specs.State.{Claim, Table, State, empty, held_mode, request_of, is_open, with_table}
use Rattle.lock_rules.specs.Queue.{queue, after_grant, with_request, is_granted_at_once}
use Rattle.lock_rules.specs.Waits.{conflicts, stands_before, keeps_waiting, waits_for, doom, reaches, victim_of, after_victim, after_victims}
use Rattle.lock_rules.specs.Step.{target_of, tests, first_failing, is_held, after_wait, after_asking, restarted, act, outcome_of, step}
use Rattle.lock_rules.specs.Legal.{state_after, state_of}
use Rattle.lock_rules.specs.Sound.{AllOpen}
use Rattle.lock_rules.proofs.Owners.{state-numbered, begins-open}
use Rattle.sequential.specs.Histories.{IsEntryWithin}
use Rattle.lock_explain.proofs.WaitingGraph.{stands-some}

-- the session is one of 1 to n
abbrev pub inside : ℕ → ℕ → Bool
inside n u = leb 1 u && leb u n

-- the transactions are those of sessions 1 to n
abbrev AreInside : ℕ → State → Type 0
AreInside n st = (u : ℕ) → is_open st u ≡ true → inside n u ≡ true

-- a victim keeps its transaction
victim-inside : (n v : ℕ) (st : State) → AreInside n st → AreInside n (after_victim v st)
victim-inside n v st h u = go (eqb u v) refl
  where
    doomed : (o : Option Transaction) → is_some (doom o) ≡ true → is_some o ≡ true
    doomed None k = k
    doomed (Some x) k = refl

    go : (b : Bool) → eqb u v ≡ b → is_some (cond b (doom (st.begun v)) (st.begun u)) ≡ true → inside n u ≡ true
    go true e k = h u (ap (λ (x : ℕ). is_some (st.begun x)) ((Decides-eqb u v).0 e) ∙ doomed (st.begun v) k)
    go false e k = h u k

-- so do the victims of a wait
victims-inside : (n m s : ℕ) (st : State) → AreInside n st → AreInside n (after_victims m s st)
victims-inside n zero s st h = h
victims-inside n (suc m) s st h = go (reaches st.table s s) (victims-inside n m s (after_victim (victim_of st s) st) (victim-inside n (victim_of st s) st h))
  where
    go : (b : Bool) → AreInside n (after_victims m s (after_victim (victim_of st s) st)) → AreInside n (cond b (after_victims m s (after_victim (victim_of st s) st)) st)
    go true k = k
    go false k = h

-- a request begins and ends no transaction
asked-inside : (n : ℕ) (st : State) (s : ℕ) (r : List ℕ) (m : Mode) → AreInside n st → AreInside n (after_asking st s r m)
asked-inside n st s r m h = go (is_held (held_mode st.table s r) m) (is_granted_at_once st.table s r m)
  where
    go : (b c : Bool) → AreInside n (cond b st (cond c (with_table (after_grant s r m st.table) st) (after_wait st s r m)))
    go true c = h
    go false true = h
    go false false = victims-inside n (length st.table.requests + 2) s (with_table (with_request s r m st.table) st) h

-- a session has another transaction, or none
changed-inside : (n s : ℕ) (st : State) (o : Option Transaction) → inside n s ≡ true → AreInside n st → (u : ℕ) → is_some (cond (eqb u s) o (st.begun u)) ≡ true → inside n u ≡ true
changed-inside n s st o is h u = go (eqb u s) refl
  where
    go : (b : Bool) → eqb u s ≡ b → is_some (cond b o (st.begun u)) ≡ true → inside n u ≡ true
    go true e k = ap (inside n) ((Decides-eqb u s).0 e) ∙ is
    go false e k = h u k

-- a call of a session of 1 to n
step-inside : (n : ℕ) (st : State) (s : ℕ) (c : Call) → inside n s ≡ true → AreInside n st → AreInside n (step st s c).state
step-inside n st s c is h = go (first_failing (tests st s c))
  where
    acted : (c : Call) → AreInside n (act st s c).state
    acted Begin = changed-inside n s st (Some (record { number = st.count + 1; doomed = false })) is h
    acted (Lock r m) = asked-inside n st s r (target_of (held_mode st.table s r) m) h
    acted (Convert r m) = asked-inside n st s r (target_of (held_mode st.table s r) m) h
    acted Poll = h
    acted (Release r) = h
    acted Commit = changed-inside n s st None is h
    acted Abort = changed-inside n s st None is h
    acted (Try r m) = asked-inside n st s r (target_of (held_mode st.table s r) m) h
    acted Withdraw = h
    acted Restart = changed-inside n s st (restarted (st.begun s)) is h

    go : (o : Option Why) → AreInside n (outcome_of o st s c).state
    go None = acted c
    go (Some why) = h

-- calls of sessions of 1 to n
after-inside : (n : ℕ) (es : List Entry) (st : State) → All (IsEntryWithin n) es → AreInside n st → AreInside n (state_after st es)
after-inside n [] st w h = h
after-inside n (e ∷ es) st w h =
    let first : IsEntryWithin n e = w 0 e (omega arith) in
    after-inside n es (step st e.session e.call).state (λ k d l. w (suc k) d (omega (arith, l)))
    (step-inside n st e.session e.call (and_from (leb 1 e.session) (leb e.session n) (le-leb 1 e.session first.some) (le-leb e.session n first.within)) h)

-- all who hold locks or wait are sessions of 1 to n
pub all-inside : (n : ℕ) (es : List Entry) → All (IsEntryWithin n) es → AllOpen (inside n) (state_of es).table
all-inside n es w =
    let h = after-inside n es empty w (λ u k. absurd (cc)) in
    let i = (state-numbered es).owners in
    record { waiting = λ s q e. h s (i.waiting s q e); holding = λ s r m e. h s (i.holding s r m e) }

-- who waits, and who is waited for, waits or holds a lock
pub waits-open : (p : ℕ → Bool) (t : Table) → AllOpen p t → (i u : ℕ) → waits_for t i u ≡ true → (p i ≡ true) × (p u ≡ true)
waits-open p t o i u h = go (request_of i t.requests) refl (and_parts (not (eqb u i)) (keeps_waiting t u (request_of i t.requests)) h).1
  where
    holds : (r : List ℕ) (m : Mode) (k : Option Mode) → held_mode t u r ≡ k → conflicts m k ≡ true → p u ≡ true
    holds r m None e c = absurd (cc)
    holds r m (Some k) e c = o.holding u r k e

    asks : (w : Option Claim) → request_of u t.requests ≡ w → is_some w ≡ true → p u ≡ true
    asks None e c = absurd (cc)
    asks (Some q) e c = o.waiting u q e

    go : (w : Option Claim) → request_of i t.requests ≡ w → keeps_waiting t u w ≡ true → (p i ≡ true) × (p u ≡ true)
    go None e k = absurd (cc)
    go (Some q) e k = (
      o.waiting i q e,
      elim (or_cases (conflicts q.mode (held_mode t u q.resource)) (stands_before u q.session (queue t q.resource)) k) [
        | inl c ↦ holds q.resource q.mode (held_mode t u q.resource) refl c
        | inr b ↦ asks (request_of u t.requests) refl (stands-some t q.resource u q.session b)
      ],
    )

-- a wait, once the request waits, is by one of the sessions 1 to n and for one of them
pub wait-inside : (n : ℕ) (es : List Entry) → All (IsEntryWithin n) es → (s : ℕ) (r : List ℕ) (m : Mode) → 1 ≤ s → s ≤ n → (i u : ℕ) → waits_for (with_request s r m (state_of es).table) i u ≡ true → ((1 ≤ i) × (i ≤ n)) × ((1 ≤ u) × (u ≤ n))
wait-inside n es w s r m some most i u h =
    let own = and_from (leb 1 s) (leb s n) (le-leb 1 s some) (le-leb s n most) in
    let b = waits-open (inside n) (with_request s r m (state_of es).table) (begins-open (inside n) s r m (state_of es).table (all-inside n es w) own) i u h in
    (told i b.0, told u b.1)
  where
    told : (v : ℕ) → inside n v ≡ true → (1 ≤ v) × (v ≤ n)
    told v k = let p = and_parts (leb 1 v) (leb v n) k in (leb-true 1 v p.0, leb-true v n p.1)
