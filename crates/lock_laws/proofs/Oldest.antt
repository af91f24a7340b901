-- Transactions that stay open grow old, and the oldest is nobody's victim.
use Rattle.std.proofs.Common.{◌≡◌, ◌≢◌, ℕ, zero, suc, ◌+◌, ◌<◌, ◌≤◌, Bool, true, false, cond, not, eqb, ◌⊎◌, inl, inr, List, [], ◌∷◌, ◌++◌, length, Option, Some, None, is_some, refl, sym, ◌∙◌, ap, arith, subst}
use Rattle.std.specs.List.{All}
use Rattle.std.proofs.lemmas.Bool.{and_parts, not-true, not-false, cases_Bool}
use Rattle.std.proofs.lemmas.Bool.Decides.{nat_tests, Decides-eqb}
use Rattle.std.proofs.lemmas.List.Elements.{All-head, All-tail}
use Rattle.lock_modes.specs.declared.Mode.{Mode}
use Rattle.lock_modes.specs.declared.Mode.TheVariants.{S}
use Rattle.waits_for.specs.Walks.{IsWalk, Reaches, AreOnCircle}
use Rattle.waits_for.proofs.Walks.{reaches-trans}
use Rattle.lock_rules.specs.declared.calls.Call.{Call}
use Rattle.lock_rules.specs.declared.calls.Call.TheVariants.{Begin, Lock, Convert, Poll, Release, Commit, Abort, Try, Withdraw, Restart}
use Rattle.lock_rules.specs.declared.calls.Transaction.{Transaction}
use Rattle.lock_rules.specs.declared.calls.Why.{Why}
use Rattle.lock_rules.specs.Entries.{Entry}
use Rattle.lock_rules.specs.State.{Table, State, held_mode, is_open, is_doomed, number_in, number_of, with_begun, with_table}
use Rattle.lock_rules.specs.Queue.{after_grant, with_request, is_granted_at_once}
use Rattle.lock_rules.specs.Waits.{waits_for, keeps_waiting, reaches, victim_of, after_victim, after_victims}
use Rattle.lock_rules.specs.Step.{target_of, tests, first_failing, is_held, after_wait, after_asking, after_end, act, outcome_of, step}
use Rattle.lock_rules.specs.Legal.{IsLegal, state_after, state_of}
use Rattle.lock_rules.specs.Laws.{IsVictim, AreVictims}
use Rattle.lock_rules.specs.Effects.{IsAmong}
use Rattle.lock_rules.specs.Sound.{IsNumbered}
use Rattle.lock_rules.specs.Examples.{database}
use Rattle.lock_rules.proofs.Alters.{true≢false}
use Rattle.lock_rules.proofs.Steps.{all-pass}
use Rattle.lock_rules.proofs.Owners.{SameNumbers, victim-numbers, victim-numbered, restarted-numbers, waiting-numbered, step-numbered, state-numbered}
use Rattle.lock_rules.proofs.Victims.{on_circle-open}
use Rattle.lock_rules.proofs.Histories.{state_after-append, legal-served}
use Rattle.lock_laws.specs.Cycles.{DoesDoom}
use Rattle.lock_laws.specs.Victims.{BeginsToWait, with_waiting}
use Rattle.lock_laws.specs.Retries.{DoesKeepOpen, DoesNumberStand, IsOlder, DoesNobodyBecomeOlder, AreVictimsYounger, IsOldest, IsOldestSpared, DoesOldestStand}
use Rattle.lock_laws.specs.Examples.{retried_by_restart, retried_by_begin}
use Rattle.lock_laws.proofs.Victims.{allowed, call-victims}
use Rattle.lock_laws.proofs.OnCycles.{doomed-among, dooms-waits}

-- what a call does to the transaction of a session

-- the session's transaction is open or not as before, with its number
record IsSame (st st' : State) (u : ℕ) : Type 0 where
  opened : is_open st' u ≡ is_open st u
  number : number_of st' u ≡ number_of st u

-- the session w is u, and the call ends its transaction
record Ends (w : ℕ) (c : Call) (st' : State) (u : ℕ) : Type 0 where
  own : w ≡ u
  call : (c ≡ Commit) ⊎ (c ≡ Abort)
  closed : is_open st' u ≡ false

-- the session had no transaction, and one it has after the call has the next number
record Starts (st st' : State) (u : ℕ) : Type 0 where
  closed : is_open st u ≡ false
  number : number_of st' u ≡ st.count + 1

-- the transaction of u stays as it is, ends or starts
abbrev Goes : State → ℕ → Call → State → ℕ → Type 0
Goes st w c st' u = IsSame st st' u ⊎ (Ends w c st' u ⊎ Starts st st' u)

-- the same transactions with the same numbers, again and again
same-trans : (st mid last : State) → SameNumbers st mid → SameNumbers mid last → SameNumbers st last
same-trans st mid last a b = record { count = b.count ∙ a.count; opened = λ u. b.opened u ∙ a.opened u; number = λ u. b.number u ∙ a.number u }

-- nothing changes
same-refl : (st : State) → SameNumbers st st
same-refl st = record { count = refl; opened = λ u. refl; number = λ u. refl }

-- the choice of victims leaves the numbers
settled-same : (n s : ℕ) (st : State) → SameNumbers st (after_victims n s st)
settled-same zero s st = same-refl st
settled-same (suc n) s st = go (reaches st.table s s) (settled-same n s (after_victim (victim_of st s) st))
  where
    go : (b : Bool) → SameNumbers (after_victim (victim_of st s) st) (after_victims n s (after_victim (victim_of st s) st)) → SameNumbers st (cond b (after_victims n s (after_victim (victim_of st s) st)) st)
    go true next = same-trans st (after_victim (victim_of st s) st) (after_victims n s (after_victim (victim_of st s) st)) (victim-numbers (victim_of st s) st) next
    go false next = same-refl st

-- another table leaves the numbers
retabled-same : (t : Table) (st : State) → SameNumbers st (with_table t st)
retabled-same t st = record { count = refl; opened = λ u. refl; number = λ u. refl }

-- a request leaves the numbers
asked-same : (st : State) (s : ℕ) (r : List ℕ) (m : Mode) → SameNumbers st (after_asking st s r m)
asked-same st s r m = go (is_held (held_mode st.table s r) m) (is_granted_at_once st.table s r m)
  where
    go : (b g : Bool) → SameNumbers st (cond b st (cond g (with_table (after_grant s r m st.table) st) (after_wait st s r m)))
    go true g = same-refl st
    go false true = retabled-same (after_grant s r m st.table) st
    go false false =
        same-trans st (with_table (with_request s r m st.table) st) (after_wait st s r m) (retabled-same (with_request s r m st.table) st)
        (settled-same (length st.table.requests + 2) s (with_table (with_request s r m st.table) st))

module _ (st : State) (w u : ℕ) where
  -- the same numbers are the same for u
  of-numbers : (st' : State) → SameNumbers st st' → IsSame st st' u
  of-numbers st' m = record { opened = m.opened u; number = m.number u }

  -- the end of the transaction of w
  end-goes : (c : Call) → (c ≡ Commit) ⊎ (c ≡ Abort) → Goes st w c (with_begun w None (with_table (after_end w st.table) st)) u
  end-goes c k = elim (cases_Bool (eqb u w)) [
    | inl e ↦ inr (inl (record { own = sym ((Decides-eqb u w).0 e); call = k; closed = ap (λ (b : Bool). is_some (cond b None (st.begun u))) e }))
    | inr n ↦ inl (record { opened = ap (λ (b : Bool). is_some (cond b None (st.begun u))) n; number = ap (λ (b : Bool). number_in (cond b None (st.begun u))) n })
  ]

  -- the transaction that a begin of w opens
  new : Option Transaction
  new = Some (record { number = st.count + 1; doomed = false })

  -- a call that passes its tests
  act-goes : (c : Call) → first_failing (tests st w c) ≡ None → Goes st w c (act st w c).state u
  act-goes Begin h = elim (cases_Bool (eqb u w)) [
    | inl e ↦
        let p = all-pass (tests st w Begin) h in
        inr (inr (record { closed = ap (λ (x : ℕ). is_open st x) ((Decides-eqb u w).0 e) ∙ p.0; number = ap (λ (b : Bool). number_in (cond b (Some (record { number = st.count + 1; doomed = false })) (st.begun u))) e }))
    | inr n ↦ inl (record { opened = ap (λ (b : Bool). is_some (cond b (Some (record { number = st.count + 1; doomed = false })) (st.begun u))) n; number = ap (λ (b : Bool). number_in (cond b (Some (record { number = st.count + 1; doomed = false })) (st.begun u))) n })
  ]
  act-goes (Lock r m) h = inl (of-numbers (after_asking st w r (target_of (held_mode st.table w r) m)) (asked-same st w r (target_of (held_mode st.table w r) m)))
  act-goes (Convert r m) h = inl (of-numbers (after_asking st w r (target_of (held_mode st.table w r) m)) (asked-same st w r (target_of (held_mode st.table w r) m)))
  act-goes Poll h = inl (record { opened = refl; number = refl })
  act-goes (Release r) h = inl (record { opened = refl; number = refl })
  act-goes Commit h = end-goes Commit (inl refl)
  act-goes Abort h = end-goes Abort (inr refl)
  act-goes (Try r m) h = inl (of-numbers (after_asking st w r (target_of (held_mode st.table w r) m)) (asked-same st w r (target_of (held_mode st.table w r) m)))
  act-goes Withdraw h = inl (record { opened = refl; number = refl })
  act-goes Restart h = let m = restarted-numbers w (after_end w st.table) st in inl (record { opened = m.opened u; number = m.number u })

  -- any call
  step-goes : (c : Call) → Goes st w c (step st w c).state u
  step-goes c = go (first_failing (tests st w c)) refl
    where
      go : (o : Option Why) → first_failing (tests st w c) ≡ o → Goes st w c (outcome_of o st w c).state u
      go None h = act-goes c h
      go (Some y) h = inl (record { opened = refl; number = refl })

-- a transaction that stays open

-- a call that doesn't commit or abort it leaves it open, with its number
step-stays : (st : State) (w s : ℕ) (c : Call) → is_open st s ≡ true → (w ≡ s → (c ≢ Commit) × (c ≢ Abort)) → IsSame st (step st w c).state s
step-stays st w s c o k = elim (step-goes st w s c) [
  | inl same ↦ same
  | inr other ↦ elim other [
    | inl e ↦ let n = k e.own in elim e.call [ inl f ↦ absurd (n.0 f) | inr f ↦ absurd (n.1 f) ]
    | inr b ↦ absurd (true≢false o b.closed)
  ]
]

-- through a list of calls
after-stays : (es : List Entry) (st : State) (s : ℕ) → is_open st s ≡ true → All (DoesKeepOpen s) es → IsSame st (state_after st es) s
after-stays [] st s o k = record { opened = refl; number = refl }
after-stays (e ∷ es) st s o k =
    let a = step-stays st e.session s e.call o (All-head (DoesKeepOpen s) e es k) in
    let b = after-stays es (step st e.session e.call).state s (a.opened ∙ o) (All-tail (DoesKeepOpen s) e es k) in
    record { opened = b.opened ∙ a.opened; number = b.number ∙ a.number }

-- a transaction that is older after a call was so before
step-older : (st : State) (w s u : ℕ) (c : Call) → IsNumbered st → is_open st s ≡ true → IsSame st (step st w c).state s → IsOlder (step st w c).state u s → IsOlder st u s × (number_of (step st w c).state u ≡ number_of st u)
step-older st w s u c i o a h = elim (step-goes st w u c) [
  | inl same ↦ ((sym same.opened ∙ h.0, omega (arith, same.number, a.number, h.1)), same.number)
  | inr other ↦ elim other [
    | inl e ↦ absurd (true≢false h.0 e.closed)
    | inr b ↦ absurd (omega (arith, b.number, a.number, i.counted s o, h.1))
  ]
]

-- a transaction that is older after a list of calls was so before
after-older : (es : List Entry) (st : State) (s u : ℕ) → IsNumbered st → is_open st s ≡ true → All (DoesKeepOpen s) es → IsOlder (state_after st es) u s → IsOlder st u s × (number_of (state_after st es) u ≡ number_of st u)
after-older [] st s u i o k h = (h, refl)
after-older (e ∷ es) st s u i o k h =
    let a = step-stays st e.session s e.call o (All-head (DoesKeepOpen s) e es k) in
    let b = after-older es (step st e.session e.call).state s u (step-numbered st e.session e.call i) (a.opened ∙ o) (All-tail (DoesKeepOpen s) e es k) h in
    let d = step-older st e.session s u e.call i o a b.0 in
    (d.0, b.1 ∙ d.1)

-- victims

-- u has an open transaction that is older than that of v
abbrev Elder : State → ℕ → Type 0
Elder st v = (u : ℕ) × IsOlder st u v

-- whoever waits, waits for another
waits-another : (st : State) (v w : ℕ) → waits_for st.table v w ≡ true → eqb w v ≡ false
waits-another st v w h = not-true (eqb w v) (and_parts (not (eqb w v)) (keeps_waiting st.table w _) h).0

-- of the sessions on a cycle with s, one for which the victim waits is older
victim-elder : (st : State) (s v : ℕ) → IsNumbered st → IsVictim st s v → Elder st v
victim-elder st s v i a = go a.on_circle.back.others a.on_circle.back.walk
  where
    older : (w : ℕ) → AreOnCircle (waits_for st.table) s w → eqb w v ≡ false → Elder st v
    older w c n =
        let open_ : is_open st w ≡ true = on_circle-open st s w i c in
        let most = a.youngest w c in
        let other : number_of st w ≡ number_of st v → ⊥ = λ e. true≢false ((Decides-eqb w v).1 (i.apart w v open_ (on_circle-open st s v i a.on_circle) e)) n in
        (w, (open_, less (number_of st w) (number_of st v) most other))
      where
        less : (x y : ℕ) → x ≤ y → (x ≡ y → ⊥) → x < y
        less x y l n = elim (cases_Bool (eqb x y)) [
          | inl e ↦ absurd (n ((Decides-eqb x y).0 e))
          | inr f ↦ below x y l f
        ]
          where
            below : (x y : ℕ) → x ≤ y → eqb x y ≡ false → x < y
            below x y l f = grind (arith, nat_tests)

    go : (ws : List ℕ) → IsWalk (waits_for st.table) v ws s → Elder st v
    go [] walk =
        let to : Reaches (waits_for st.table) s s = reaches-trans (waits_for st.table) s v s a.on_circle.there (record { others = []; walk = walk }) in
        older s (record { there = to; back = to }) (waits-another st v s walk)
    go (w ∷ ws) walk =
        older w (record { there = reaches-trans (waits_for st.table) s v w a.on_circle.there (record { others = []; walk = walk.0 }); back = record { others = ws; walk = walk.1 } })
        (waits-another st v w walk.0)

-- each of the victims chosen one after another was younger than another from the beginning
victims-elder : (s : ℕ) (vs : List ℕ) (st last : State) → IsNumbered st → AreVictims s vs st last → (v : ℕ) → IsAmong v vs → Elder st v
victims-elder s [] st last i a v k = absurd k
victims-elder s (w ∷ vs) st last i a v (inl e) = subst (λ (x : ℕ). Elder st x) (sym e) (victim-elder st s w i a.0)
victims-elder s (w ∷ vs) st last i a v (inr k) =
    let m = victim-numbers w st in
    let e = victims-elder s vs (after_victim w st) last (victim-numbered w st i) a.1 v k in
    (e.0, (sym (m.opened e.0) ∙ e.1.0, omega (arith, m.number e.0, m.number v, e.1.1)))

-- so was whoever a call dooms
doomed-elder : (st : State) → IsNumbered st → AreVictimsYounger st
doomed-elder st i s v c d =
    let w = dooms-waits st s v d.0 c d.1 in
    let a = call-victims st s c w.0 w.1 w.2 in
    let open_ : is_open st s ≡ true = (allowed st s c w.0 w.1 w.2).opened in
    victims-elder s a.0 (with_waiting s w.0 w.1 st) (step st s c).state (waiting-numbered st s w.0 w.1 i open_) a.1 v
    (doomed-among s a.0 (with_waiting s w.0 w.1 st) (step st s c).state a.1 v d.0 d.1)

-- the oldest transaction

-- nobody is older than the oldest
none-older : (st : State) (v : ℕ) → IsOldest st v → Elder st v → ⊥
none-older st v o (u, (open_, less)) = elim (cases_Bool (eqb u v)) [
  | inl e ↦ same u ((Decides-eqb u v).0 e) less
  | inr n ↦ let more = o.1 u open_ (λ e. true≢false ((Decides-eqb u v).1 e) n) in omega (arith, less, more)
]
  where
    same : (u : ℕ) → u ≡ v → number_of st u < number_of st v → ⊥
    same u e l = let k : number_of st u ≡ number_of st v = ap (number_of st) e in omega (arith, k, l)

-- no call dooms it
oldest-spared : (st : State) → IsNumbered st → IsOldestSpared st
oldest-spared st i s v c o d = none-older st v o (doomed-elder st i s v c d)

-- a call that doesn't commit or abort it leaves it the oldest, and not doomed
step-oldest : (st : State) (w s : ℕ) (c : Call) → IsNumbered st → IsOldest st s → is_doomed st s ≡ false → (w ≡ s → (c ≢ Commit) × (c ≢ Abort)) → IsOldest (step st w c).state s × (is_doomed (step st w c).state s ≡ false)
step-oldest st w s c i o n k = ((a.opened ∙ o.0, older), elim (cases_Bool (is_doomed (step st w c).state s)) [ inl y ↦ absurd (oldest-spared st i w s c o (n, y)) | inr f ↦ f ])
  where
    a : IsSame st (step st w c).state s
    a = step-stays st w s c o.0 k

    older : (u : ℕ) → is_open (step st w c).state u ≡ true → u ≢ s → number_of (step st w c).state s < number_of (step st w c).state u
    older u open_ m = elim (step-goes st w u c) [
      | inl same ↦ let l = o.1 u (sym same.opened ∙ open_) m in omega (arith, a.number, same.number, l)
      | inr other ↦ elim other [
        | inl e ↦ absurd (true≢false open_ e.closed)
        | inr b ↦ omega (arith, a.number, b.number, i.counted s o.0)
      ]
    ]

-- so does a list of calls
after-oldest : (es : List Entry) (st : State) (s : ℕ) → IsNumbered st → IsOldest st s → is_doomed st s ≡ false → All (DoesKeepOpen s) es → IsOldest (state_after st es) s × (is_doomed (state_after st es) s ≡ false)
after-oldest [] st s i o n k = (o, n)
after-oldest (e ∷ es) st s i o n k =
    let a = step-oldest st e.session s e.call i o n (All-head (DoesKeepOpen s) e es k) in
    after-oldest es (step st e.session e.call).state s (step-numbered st e.session e.call i) a.0 a.1 (All-tail (DoesKeepOpen s) e es k)

-- the laws

pub number-stands : (front rest : List Entry) → DoesNumberStand front rest
number-stands front rest s o k =
    subst (λ (st : State). (is_open st s ≡ true) × (number_of st s ≡ number_of (state_of front) s)) (sym (state_after-append front rest (state_of [])))
    (let a = after-stays rest (state_of front) s o k in (a.opened ∙ o, a.number))

pub older-stay : (front rest : List Entry) → DoesNobodyBecomeOlder front rest
older-stay front rest s u o k =
    subst (λ (st : State). IsOlder st u s → IsOlder (state_of front) u s × (number_of st u ≡ number_of (state_of front) u)) (sym (state_after-append front rest (state_of [])))
    (after-older rest (state_of front) s u (state-numbered front) o k)

pub history-younger : (es : List Entry) → AreVictimsYounger (state_of es)
history-younger es = doomed-elder (state_of es) (state-numbered es)

pub history-spared : (es : List Entry) → IsOldestSpared (state_of es)
history-spared es = oldest-spared (state_of es) (state-numbered es)

pub oldest-stands : (front rest : List Entry) → DoesOldestStand front rest
oldest-stands front rest s o n k =
    subst (λ (st : State). IsOldest st s × (is_doomed st s ≡ false)) (sym (state_after-append front rest (state_of [])))
    (after-oldest rest (state_of front) s (state-numbered front) o n k)

-- histories worked by hand

pub legal-restart : IsLegal retried_by_restart
legal-restart = legal-served retried_by_restart refl

pub restart-spared : DoesDoom (state_of retried_by_restart) 1 (Lock (database 2) S) 2 → ⊥
restart-spared d = true≢false d.1 refl

pub restart-younger : DoesDoom (state_of retried_by_restart) 1 (Lock (database 2) S) 1
restart-younger = (refl, refl)

pub legal-begin : IsLegal retried_by_begin
legal-begin = legal-served retried_by_begin refl

pub begin-again : DoesDoom (state_of retried_by_begin) 1 (Lock (database 2) S) 2
begin-again = (refl, refl)
