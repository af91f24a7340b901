-- When a request begins to wait, and what tells of it.
use Rattle.std.proofs.Common.{◌≡◌, ◌≢◌, ℕ, ◌≤◌, Bool, true, false, not, eqb, ◌&&◌, ◌⊎◌, inl, inr, List, [], ◌∷◌, Option, Some, None, is_some, refl, sym, ◌∙◌, ap, subst}
use Rattle.std.specs.List.{All}
use Rattle.std.proofs.lemmas.Bool.{and_parts, cases_Bool, not-false}
use Rattle.std.proofs.lemmas.Bool.Decides.{Decides-eqb}
use Rattle.lock_modes.specs.declared.Mode.{Mode}
use Rattle.lock_rules.specs.declared.calls.Call.{Call}
use Rattle.lock_rules.specs.declared.calls.Call.TheVariants.{Begin, Lock, Convert, Poll, Release, Commit, Abort, Try, Withdraw, Restart}
use Rattle.lock_rules.specs.Entries.{Entry}
use Rattle.lock_rules.specs.declared.calls.Reply.TheVariants.{Refused, Waiting}
use Rattle.lock_rules.specs.declared.calls.Why.{Why}
use Rattle.lock_rules.specs.declared.calls.Transaction.{Transaction}
use Rattle.lock_rules.specs.State.{Claim, State, held_mode, request_of, is_open, is_doomed, doomed_in, with_table}
use Rattle.lock_rules.specs.Queue.{with_request}
use Rattle.lock_rules.specs.Step.{Outcome, target_of, tests, step}
use Rattle.lock_rules.specs.Legal.{state_of}
use Rattle.lock_rules.specs.Laws.{AreVictims}
use Rattle.lock_rules.specs.Effects.{IsNotRefused, IsFree, IsDoomOf, IsWaitSettled, IsAnswerTo, request}
use Rattle.lock_rules.proofs.Alters.{true≢false}
use Rattle.lock_rules.proofs.Idle.{state-idle}
use Rattle.lock_rules.proofs.Owners.{state-numbered}
use Rattle.lock_rules.proofs.Steps.{all-pass, is-none, state-lawful, try-locks}
use Rattle.lock_rules.proofs.Taken.{none, passes}
use Rattle.lock_rules.proofs.Requests.{lock-asks, convert-asks, try-asks}
use Rattle.lock_rules.proofs.Refusals.{refused-keeps, one-target}
use Rattle.lock_rules.proofs.Doomed.{doom-dooms, keep-theirs}
use Rattle.sequential.specs.Histories.{IsEntryWithin}
use Rattle.lock_explain.specs.Endings.{is_new_victim}
use Rattle.lock_explain.specs.Waiting.{BeginsToWait, request_made}
use Rattle.lock_explain.proofs.OpenWithin.{waiting-within}

-- the request of a call

-- the request that a call makes is its session's
pub made-session : (st : State) (s : ℕ) (c : Call) (q : Claim) → request_made st s c ≡ Some q → q.session ≡ s
made-session st s Begin q e = absurd (cc)
made-session st s (Lock r m) q e = let same : request s r (target_of (held_mode st.table s r) m) ≡ q = cc in ap (λ (c : Claim). c.session) (sym same)
made-session st s (Convert r m) q e = let same : request s r (target_of (held_mode st.table s r) m) ≡ q = cc in ap (λ (c : Claim). c.session) (sym same)
made-session st s Poll q e = absurd (cc)
made-session st s (Release r) q e = absurd (cc)
made-session st s Commit q e = absurd (cc)
made-session st s Abort q e = absurd (cc)
made-session st s (Try r m) q e = let same : request s r (target_of (held_mode st.table s r) m) ≡ q = cc in ap (λ (c : Claim). c.session) (sym same)
made-session st s Withdraw q e = absurd (cc)
made-session st s Restart q e = absurd (cc)

-- a lock is answered as the law states it
lock-answered : (st : State) (s : ℕ) (r : List ℕ) (m : Mode) (q : Claim) → request s r (target_of (held_mode st.table s r) m) ≡ q → IsNotRefused st s (Lock r m) → IsAnswerTo s q.resource q.mode st (step st s (Lock r m))
lock-answered st s r m q same h =
    let a = lock-asks st s r m h in
    let k = one-target (held_mode st.table s r) m a.0 a.1 in
    subst (λ (p : Claim). IsAnswerTo s p.resource p.mode st (step st s (Lock r m))) same (subst (λ (j : Mode). IsAnswerTo s r j st (step st s (Lock r m))) k a.2)

-- the request that a call makes is answered as the law states it
pub made-answered : (st : State) (s : ℕ) (c : Call) (q : Claim) → request_made st s c ≡ Some q → IsNotRefused st s c → IsAnswerTo s q.resource q.mode st (step st s c)
made-answered st s Begin q e h = absurd (cc)
made-answered st s (Lock r m) q e h = lock-answered st s r m q (cc) h
made-answered st s (Convert r m) q e h =
    let same : request s r (target_of (held_mode st.table s r) m) ≡ q = cc in
    let a = convert-asks st s r m h in
    let k = one-target (held_mode st.table s r) m a.0 a.1 in
    subst (λ (p : Claim). IsAnswerTo s p.resource p.mode st (step st s (Convert r m))) same (subst (λ (j : Mode). IsAnswerTo s r j st (step st s (Convert r m))) k a.2)
made-answered st s Poll q e h = absurd (cc)
made-answered st s (Release r) q e h = absurd (cc)
made-answered st s Commit q e h = absurd (cc)
made-answered st s Abort q e h = absurd (cc)
made-answered st s (Try r m) q e h =
    let locks : step st s (Try r m) ≡ step st s (Lock r m) = (try-asks st s r m h).0 in
    let accepted : IsNotRefused st s (Lock r m) = λ (why : Why) (f : (step st s (Lock r m)).reply ≡ Refused why). h why (ap (λ (o : Outcome). o.reply) locks ∙ f) in
    subst (λ (o : Outcome). IsAnswerTo s q.resource q.mode st o) (sym locks) (lock-answered st s r m q (cc) accepted)
made-answered st s Withdraw q e h = absurd (cc)
made-answered st s Restart q e h = absurd (cc)

-- a session with an open transaction that neither waits nor is doomed
pub record IsClear (st : State) (s : ℕ) : Type 0 where
  pub opened : is_open st s ≡ true
  pub idle : request_of s st.table.requests ≡ None
  pub alive : is_doomed st s ≡ false

-- a session whose request isn't refused is such a session
pub made-clear : (st : State) (s : ℕ) (c : Call) (q : Claim) → request_made st s c ≡ Some q → IsNotRefused st s c → IsClear st s
made-clear st s Begin q e h = absurd (cc)
made-clear st s (Lock r m) q e h = let p = all-pass (tests st s (Lock r m)) (passes st s (Lock r m) h) in record { opened = not-false _ p.0; idle = is-none (request_of s st.table.requests) p.1.0; alive = p.1.1.0 }
made-clear st s (Convert r m) q e h = let p = all-pass (tests st s (Convert r m)) (passes st s (Convert r m) h) in record { opened = not-false _ p.0; idle = is-none (request_of s st.table.requests) p.1.0; alive = p.1.1.0 }
made-clear st s Poll q e h = absurd (cc)
made-clear st s (Release r) q e h = absurd (cc)
made-clear st s Commit q e h = absurd (cc)
made-clear st s Abort q e h = absurd (cc)
made-clear st s (Try r m) q e h = let p = all-pass (tests st s (Lock r m)) (try-locks st s r m (passes st s (Try r m) h)) in record { opened = not-false _ p.0; idle = is-none (request_of s st.table.requests) p.1.0; alive = p.1.1.0 }
made-clear st s Withdraw q e h = absurd (cc)
made-clear st s Restart q e h = absurd (cc)

-- new victims

-- no victim is new if the transactions are as before
pub no-new : (st after : State) (u : ℕ) → after.begun u ≡ st.begun u → is_new_victim st after u ≡ true → ⊥
no-new st after u e h = let p = and_parts (not (is_doomed st u)) (is_doomed after u) h in go (is_doomed st u) p.0 (sym (ap doomed_in e) ∙ p.1)
  where
    go : (b : Bool) → not b ≡ true → b ≡ true → ⊥
    go true n h = cc
    go false n h = cc

-- a session of 1 to n whose transaction the call makes a victim
pub record HasNewVictim (n : ℕ) (st after : State) : Type 0 where
  pub victim : ℕ
  pub some : 1 ≤ victim
  pub within : victim ≤ n
  pub new : is_new_victim st after victim ≡ true

module _ (n : ℕ) (history : List Entry) (a : All (IsEntryWithin n) history) (s : ℕ) (some : 1 ≤ s) (most : s ≤ n) where
  abbrev reached : State
  reached = state_of history

  -- a session that waited in the state in which the request of s waits, and is doomed later, is a new victim of 1 to n
  pub doomed-new : (r : List ℕ) (k : Mode) (after : State) (v : ℕ) → IsClear reached s → IsDoomOf v (with_table (with_request s r k reached.table) reached) after
      → ((u : ℕ) → u ≢ s → request_of u (with_request s r k reached.table).requests ≡ request_of u reached.table.requests) → (1 ≤ v) × (v ≤ n) × (is_new_victim reached after v ≡ true)
  doomed-new r k after v clear d others = elim (cases_Bool (eqb v s)) [
    | inl y ↦ (let e = (Decides-eqb v s).0 y in (rw e some, rw e most, new (ap (λ (i : ℕ). is_open reached i) e ∙ clear.opened) (ap (λ (i : ℕ). is_doomed reached i) e ∙ clear.alive)))
    | inr m ↦ (
        let waits : request_of v reached.table.requests ≡ Some d.waited.0 = sym (others v (λ e. true≢false ((Decides-eqb v s).1 e) m)) ∙ d.waited.1 in
        let w = waiting-within n history a v d.waited.0 waits in
        (w.0, w.1, new ((state-numbered history).owners.waiting v d.waited.0 waits) (alive v d.waited.0 waits)))
  ]
    where
      new : is_open reached v ≡ true → is_doomed reached v ≡ false → is_new_victim reached after v ≡ true
      new o f = ap (λ (b : Bool). not b && is_doomed after v) f ∙ (ap doomed_in d.doomed ∙ doom-dooms (reached.begun v) o)

      alive : (u : ℕ) (q : Claim) → request_of u reached.table.requests ≡ Some q → is_doomed reached u ≡ false
      alive u q e = elim (cases_Bool (is_doomed reached u)) [ inl h ↦ absurd (none (state-idle history u h) e) | inr h ↦ h ]

  -- a request that begins to wait has the reply Waiting, or makes victims
  pub wait-tells : (c : Call) (q : Claim) → BeginsToWait reached s c q → ((step reached s c).reply ≡ Waiting) ⊎ HasNewVictim n reached (step reached s c).state
  wait-tells c q b = go w.victims w.one_after_another
    where
      own : q.session ≡ s
      own = made-session reached s c q b.made

      clear : IsClear reached s
      clear = made-clear reached s c q b.made b.accepted

      w : IsWaitSettled s q.resource q.mode reached (step reached s c)
      w = (made-answered reached s c q b.made b.accepted).later (λ e. b.not_held (rw own e)) (λ f. b.not_free (rw own f))

      go : (vs : List ℕ) → AreVictims s vs (with_table (with_request s q.resource q.mode reached.table) reached) (step reached s c).state → ((step reached s c).reply ≡ Waiting) ⊎ HasNewVictim n reached (step reached s c).state
      go [] v = inl (w.told.waiting (ap (λ (x : State). is_doomed x s) v.1 ∙ clear.alive) (λ e. none (sym (ap (λ (x : State). request_of s x.table.requests) v.1) ∙ e) w.wait.waiting))
      go (x ∷ xs) v =
          let keep = keep-theirs reached (state-lawful history).sound.once s q.resource q.mode (x ∷ xs) (step reached s c).state (ap (λ (o : Option Claim). is_some o) clear.idle) v in
          let r = doomed-new q.resource q.mode (step reached s c).state x clear (keep.victims x (inl refl)) w.wait.others_wait in
          inr (record { victim = x; some = r.0; within = r.1; new = r.2 })

-- a request with the reply Waiting, and one that makes victims, begins to wait
pub tells-wait : (n : ℕ) (st : State) (s : ℕ) (c : Call) (q : Claim) → request_made st s c ≡ Some q → ((step st s c).reply ≡ Waiting) ⊎ HasNewVictim n st (step st s c).state → BeginsToWait st s c q
tells-wait n st s c q made t = record { accepted = accepted; made = made; not_held = not_held; not_free = not_free }
  where
    own : q.session ≡ s
    own = made-session st s c q made

    accepted : IsNotRefused st s c
    accepted why e = elim t [
      | inl w ↦ (let f = w in let g = e in cc)
      | inr v ↦ no-new st (step st s c).state v.victim (ap (λ (x : State). x.begun v.victim) (refused-keeps st s c why e)) v.new
    ]

    answer : IsAnswerTo s q.resource q.mode st (step st s c)
    answer = made-answered st s c q made accepted

    not_held : held_mode st.table q.session q.resource ≢ Some q.mode
    not_held e =
        let r = answer.held_already (rw (← own) e) in
        elim t [
          | inl w ↦ (let g = r.0 in cc)
          | inr v ↦ no-new st (step st s c).state v.victim (ap (λ (x : State). x.begun v.victim) r.1) v.new
        ]

    not_free : IsFree st.table q.session q.resource q.mode → ⊥
    not_free f =
        let r = answer.at_once (λ e. not_held (rw own e)) (rw (← own) f) in
        elim t [
          | inl w ↦ (let g = r.0 in cc)
          | inr v ↦ no-new st (step st s c).state v.victim (ap (λ (b : ℕ → Option Transaction). b v.victim) r.2) v.new
        ]
