-- The victims that are counted are those of the history.
use Rattle.std.proofs.Common.{◌≡◌, ℕ, zero, suc, ◌+◌, ◌≤◌, Bool, true, false, cond, not, eqb, ◌&&◌, inl, inr, List, [], ◌∷◌, ◌++◌, length, Option, Some, None, is_some, length-append, ◌⊎◌, refl, sym, ◌∙◌, ap, subst, arith}
use Rattle.std.proofs.lemmas.Bool.Decides.{Decides-eqb}
use Rattle.std.proofs.lemmas.Bool.{cases_Bool, true≢false, not-false, and_right}
use Rattle.lock_modes.specs.declared.Mode.{Mode}
use Rattle.lock_rules.specs.declared.calls.Call.{Call}
use Rattle.lock_rules.specs.declared.calls.Call.TheVariants.{Begin, Lock, Convert, Poll, Release, Commit, Abort, Try, Withdraw, Restart}
use Rattle.lock_rules.specs.declared.calls.Reply.{Reply}
use Rattle.lock_rules.specs.declared.calls.Reply.TheVariants.{Waiting, Deadlock, Granted, Refused}
use Rattle.lock_rules.specs.declared.calls.Transaction.{Transaction}
use Rattle.lock_rules.specs.declared.calls.Why.{Why}
use Rattle.lock_rules.specs.declared.kinds.ReplyKind.TheVariants as kind
use Rattle.lock_rules.specs.Entries.{Entry}
use Rattle.lock_rules.specs.State.{Claim, State, empty, held_mode, mode_or_nothing, request_of, is_waiting, is_open, is_doomed, doomed_in, with_table}
use Rattle.lock_rules.specs.Queue.{after_grant, with_request, is_granted_at_once}
use Rattle.lock_rules.specs.Waits.{doom, reaches, victim_of, after_victim, after_cancel, after_victims}
use Rattle.lock_rules.specs.Step.{Outcome, is_nothing, lacks_parent, target_of, tests, first_failing, is_held, after_wait, after_asking, ask, act, outcome_of, step}
use Rattle.lock_rules.specs.Ended.{has_ended}
use Rattle.lock_rules.specs.Laws.{DoDoomedWaitForNothing}
use Rattle.lock_rules.specs.Legal.{state_of, IsLegalFrom, IsLegal}
use Rattle.lock_rules.specs.Sound.{IsOnce, IsSound, IsNumbered, times}
use Rattle.lock_rules.proofs.Lists.{eqb-refl, other}
use Rattle.lock_rules.proofs.Begins.{new, once-push, begins-sound}
use Rattle.lock_rules.proofs.Doomed.{doom-dooms}
use Rattle.lock_rules.proofs.Cuts.{IsQuiescent, cancelled-follows}
use Rattle.lock_rules.proofs.Settle.{victim-waits}
use Rattle.lock_rules.proofs.Marks.{below-sup, sup-some}
use Rattle.lock_rules.proofs.Histories.{state_of-push}
use Rattle.lock_rules.proofs.Steps.{all-pass, is-none, try-locks, state-lawful}
use Rattle.lock_rules.proofs.Owners.{state-numbered}
use Rattle.lock_rules.proofs.Idle.{state-idle}
use Rattle.lock_rules.specs.Counts.{one_if, count_if, total_from, is_kind, is_request, dooms_itself, doomed_by, victims_of, waits_doomed, deadlocks}
use Rattle.lock_rules.proofs.Counting.{count-append, count-splits, count-alike, count-none}
use Rattle.lock_rules.proofs.CountThinned.{IsThinned, thin-same, thin-then, thin-cancel, thinned-waits-not, cancelled-waits-not, member-waits, times-count}
use Rattle.lock_table.specs.Deadlocks.{Moment, deadlocked_states, deadlocks_of_request, deadlocks_unless_refused, deadlocks_of, moments_at}
use Rattle.lock_desk.specs.Deadlocks.{deadlocks_from, deadlocks_in}
use Rattle.lock_desk.specs.inner.WaitCounts.{closings}

-- rounds of victims

-- each session that waits has a transaction that isn't doomed
abbrev AreWaitersOpen : State → Type 0
AreWaitersOpen st = (u : ℕ) → is_waiting st u ≡ true → (is_open st u ≡ true) × (is_doomed st u ≡ false)

-- the requests whose sessions are doomed
abbrev doomed_among : List Claim → State → ℕ
doomed_among qs st = count_if (λ (q : Claim). is_doomed st q.session) qs

-- a session with a request has one, if none has two
pub one-request : (v : ℕ) (qs : List Claim) → IsOnce qs → is_some (request_of v qs) ≡ true → times v qs ≡ 1
one-request v qs once h = let few = once v in let some = at-least qs h in omega (arith, few, some)
  where
    at-least : (qs : List Claim) → is_some (request_of v qs) ≡ true → 1 ≤ times v qs
    at-least [] h = absurd (true≢false (sym h))
    at-least (q ∷ qs) h = go (eqb q.session v) h (at-least qs)
      where
        go : (b : Bool) → is_some (cond b (Some q) (request_of v qs)) ≡ true → (is_some (request_of v qs) ≡ true → 1 ≤ times v qs) → 1 ≤ cond b 1 0 + times v qs
        go true h next = omega arith
        go false h next = omega (arith, next h)

-- after a victim, the others that wait still have such transactions
victim-open : (st : State) (v : ℕ) → AreWaitersOpen st → AreWaitersOpen (after_victim v st)
victim-open st v open_ u h = go (eqb u v) refl (cases_Bool (is_waiting st u))
  where
    go : (b : Bool) → eqb u v ≡ b → (is_waiting st u ≡ true) ⊎ (is_waiting st u ≡ false)
        → (is_some (cond b (doom (st.begun v)) (st.begun u)) ≡ true) × (doomed_in (cond b (doom (st.begun v)) (st.begun u)) ≡ false)
    go true e w =
        let gone = cancelled-waits-not v st.table in
        absurd (true≢false (sym h ∙ (ap (λ (x : ℕ). is_some (request_of x (after_cancel v st.table).requests)) ((Decides-eqb u v).0 e) ∙ gone)))
    go false e (inl w) = open_ u w
    go false e (inr w) = absurd (true≢false (sym h ∙ thinned-waits-not u st.table.requests (after_cancel v st.table).requests (thin-cancel v st.table) w))

-- a victim dooms one request more
victim-dooms : (qs : List Claim) (st : State) (v : ℕ) → IsOnce qs → is_some (request_of v qs) ≡ true → is_open st v ≡ true → is_doomed st v ≡ false
    → doomed_among qs (after_victim v st) ≡ doomed_among qs st + 1
victim-dooms qs st v once has open_ calm =
    let all = count-splits (λ (q : Claim). is_doomed (after_victim v st) q.session) (λ (q : Claim). eqb q.session v) (λ (q : Claim). is_doomed st q.session) qs
    (λ q k. each q.session (eqb q.session v) refl) in
    omega (arith, all, times-count v qs, one-request v qs once has)
  where
    each : (u : ℕ) (b : Bool) → eqb u v ≡ b → one_if (doomed_in (cond (eqb u v) (doom (st.begun v)) (st.begun u))) ≡ one_if (eqb u v) + one_if (is_doomed st u)
    each u true e =
        let now = ap (λ (b : Bool). one_if (doomed_in (cond b (doom (st.begun v)) (st.begun u)))) e ∙ ap one_if (doom-dooms (st.begun v) open_) in
        let was = ap one_if (ap (λ (x : ℕ). is_doomed st x) ((Decides-eqb u v).0 e) ∙ calm) in
        let is = ap one_if e in
        omega (arith, now, was, is)
    each u false e =
        let now = ap (λ (b : Bool). one_if (doomed_in (cond b (doom (st.begun v)) (st.begun u)))) e in
        let is = ap one_if e in
        omega (arith, now, is)

-- as many requests are doomed in rounds of victims as there are deadlocks
rounds-doom : (n s : ℕ) (st : State) (qs : List Claim) → IsSound st.table → IsOnce qs → IsThinned qs st.table.requests → AreWaitersOpen st
    → doomed_among qs (after_victims n s st) ≡ doomed_among qs st + length (deadlocked_states n s st)
rounds-doom zero s st qs sound once thin open_ = omega arith
rounds-doom (suc n) s st qs sound once thin open_ = go (reaches st.table s s) refl (λ i t o. rounds-doom n s next qs i once t o)
  where
    v : ℕ
    v = victim_of st s

    next : State
    next = after_victim v st

    go : (b : Bool) → reaches st.table s s ≡ b
        → (IsSound next.table → IsThinned qs next.table.requests → AreWaitersOpen next → doomed_among qs (after_victims n s next) ≡ doomed_among qs next + length (deadlocked_states n s next))
        → doomed_among qs (cond b (after_victims n s next) st) ≡ doomed_among qs st + length (cond b (st ∷ deadlocked_states n s next) [])
    go false e rest = omega arith
    go true e rest =
        let w = victim-waits st s e in
        let waits : is_waiting st v ≡ true = ap (λ (o : Option Claim). is_some o) w.1 in
        let o = open_ v waits in
        let has : is_some (request_of v qs) ≡ true = elim (cases_Bool (is_some (request_of v qs))) [
          | inl y ↦ y
          | inr f ↦ absurd (true≢false (sym waits ∙ thinned-waits-not v qs st.table.requests thin f))
        ] in
        let more = victim-dooms qs st v once has o.0 o.1 in
        let after = rest (cancelled-follows v st.table sound).sound (thin-then qs st.table.requests next.table.requests thin (thin-cancel v st.table)) (victim-open st v open_) in
        omega (arith, more, after)

-- one call

module _ (st : State) (calm : DoDoomedWaitForNothing st) (s : ℕ) where
  -- a session that waits isn't doomed
  waiter-calm : (u : ℕ) → is_waiting st u ≡ true → is_doomed st u ≡ false
  waiter-calm u w = elim (cases_Bool (is_doomed st u)) [
    | inl y ↦ absurd (true≢false (sym w ∙ ap (λ (o : Option Claim). is_some o) (calm u y)))
    | inr n ↦ n
  ]

  -- a call that dooms nobody else
  none-doomed : (c : Call) (reply : Reply) (after : State) → ((u : ℕ) → eqb u s ≡ false → is_doomed after u ≡ is_doomed st u) → doomed_by st (record { session = s; call = c; reply = reply }) after ≡ 0
  none-doomed c reply after same =
      count-none (λ (q : Claim). has_ended s st after q.session && is_doomed after q.session) st.table.requests
      (λ q k. go q.session (member-waits q st.table.requests k) (eqb q.session s) refl)
    where
      go : (u : ℕ) → is_waiting st u ≡ true → (b : Bool) → eqb u s ≡ b → (has_ended s st after u && is_doomed after u) ≡ false
      go u w true e = ap (λ (b : Bool). (not b && (is_waiting st u && not (is_waiting after u))) && is_doomed after u) e
      go u w false e = and_right (has_ended s st after u) (is_doomed after u) (same u e ∙ waiter-calm u w)

  -- a call that requests no lock, and dooms nobody
  plain : (c : Call) (reply : Reply) (after : State) → is_request (record { session = s; call = c; reply = reply }) ≡ false → ((u : ℕ) → eqb u s ≡ false → is_doomed after u ≡ is_doomed st u)
      → victims_of st (record { session = s; call = c; reply = reply }) after ≡ 0
  plain c reply after not_asked same =
      let own = ap (λ (b : Bool). one_if (b && is_kind kind.Deadlock (record { session = s; call = c; reply = reply }))) not_asked in
      omega (arith, own, none-doomed c reply after same)

  -- the transactions of others, where that of the session changes
  others-same : (o : Option Transaction) (u : ℕ) → eqb u s ≡ false → doomed_in (cond (eqb u s) o (st.begun u)) ≡ is_doomed st u
  others-same o u e = ap (λ (b : Bool). doomed_in (cond b o (st.begun u))) e

-- what a request is told of itself: whether it is doomed, and whether it waits
abbrev told : Bool → Bool → Mode → Reply
told d w m = cond d Deadlock (cond w Waiting (Granted m))

-- whether that is a deadlock
told-deadlock : (d w : Bool) (m : Mode) (s : ℕ) (r : List ℕ) (x : Mode) → dooms_itself (record { session = s; call = Lock r x; reply = told d w m }) ≡ d
told-deadlock true w m s r x = refl
told-deadlock false true m s r x = refl
told-deadlock false false m s r x = refl

module _ (st : State) (i : IsSound st.table) (calm : DoDoomedWaitForNothing st) (n : IsNumbered st) (s : ℕ) (idle : is_doomed st s ≡ false) (free : is_waiting st s ≡ false) (open_ : is_open st s ≡ true) where
  -- a request that is granted, or covered: the doomed are the same
  covered : (r : List ℕ) (m x : Mode) (after : State) → ((u : ℕ) → is_doomed after u ≡ is_doomed st u)
      → victims_of st (record { session = s; call = Lock r x; reply = told (is_doomed after s) (is_waiting after s) m }) after ≡ 0
  covered r m x after same =
      let own = ap one_if (told-deadlock (is_doomed after s) (is_waiting after s) m s r x ∙ (same s ∙ idle)) in
      omega (arith, own, none-doomed st calm s (Lock r x) (told (is_doomed after s) (is_waiting after s) m) after (λ u e. same u))

  -- a request that begins to wait
  waits-doom : (r : List ℕ) (m x k : Mode) (rounds : ℕ) (after : State) → after ≡ after_victims rounds s (with_table (with_request s r m st.table) st) → DoDoomedWaitForNothing after
      → IsSound (with_request s r m st.table)
      → victims_of st (record { session = s; call = Lock r x; reply = told (is_doomed after s) (is_waiting after s) k }) after
      ≡ length (deadlocked_states rounds s (with_table (with_request s r m st.table) st))
  waits-doom r m x k rounds after is quiet sound =
      let all = rounds-doom rounds s first qs sound once (thin-same qs) open-first in
      let same = ap (λ (y : State). doomed_among qs y) is in
      let own = ap one_if (told-deadlock (is_doomed after s) (is_waiting after s) k s r x) in
      omega (arith, all, same, own, none-first, count-append (λ (q : Claim). is_doomed after q.session) st.table.requests (new s r m ∷ []), others)
    where
      qs : List Claim
      qs = st.table.requests ++ new s r m ∷ []

      first : State
      first = with_table (with_request s r m st.table) st

      free-none : request_of s st.table.requests ≡ None
      free-none = is-none (request_of s st.table.requests) free

      once : IsOnce qs
      once = once-push s r m st.table.requests i.once free-none

      -- who waits then has an open transaction that isn't doomed
      open-first : AreWaitersOpen first
      open-first u h = elim (cases_Bool (is_waiting st u)) [
        | inl w ↦ (opens u (request_of u st.table.requests) refl w, waiter-calm st calm s u w)
        | inr f ↦ own u (eqb s u) refl (behind u st.table.requests f h)
      ]
        where
          opens : (u : ℕ) (o : Option Claim) → request_of u st.table.requests ≡ o → is_some o ≡ true → is_open st u ≡ true
          opens u None e w = absurd (true≢false (sym w))
          opens u (Some q) e w = n.owners.waiting u q e

          behind : (u : ℕ) (xs : List Claim) → is_some (request_of u xs) ≡ false → is_some (request_of u (xs ++ new s r m ∷ [])) ≡ true → is_some (cond (eqb s u) (Some (new s r m)) None) ≡ true
          behind u [] f h = h
          behind u (q ∷ xs) f h = go (eqb q.session u) f h (behind u xs)
            where
              go : (b : Bool) → is_some (cond b (Some q) (request_of u xs)) ≡ false → is_some (cond b (Some q) (request_of u (xs ++ new s r m ∷ []))) ≡ true
                  → (is_some (request_of u xs) ≡ false → is_some (request_of u (xs ++ new s r m ∷ [])) ≡ true → is_some (cond (eqb s u) (Some (new s r m)) None) ≡ true)
                  → is_some (cond (eqb s u) (Some (new s r m)) None) ≡ true
              go true f h next = absurd (true≢false f)
              go false f h next = next f h

          own : (u : ℕ) (b : Bool) → eqb s u ≡ b → is_some (cond b (Some (new s r m)) None) ≡ true → (is_open st u ≡ true) × (is_doomed st u ≡ false)
          own u true e h = let f = (Decides-eqb s u).0 e in (ap (λ (y : ℕ). is_open st y) (sym f) ∙ open_, ap (λ (y : ℕ). is_doomed st y) (sym f) ∙ idle)
          own u false e h = absurd (true≢false (sym h))

      -- none is doomed yet
      none-first : doomed_among qs first ≡ 0
      none-first =
          omega (
            arith,
            count-append (λ (q : Claim). is_doomed st q.session) st.table.requests (new s r m ∷ []),
            count-none (λ (q : Claim). is_doomed st q.session) st.table.requests (λ q k. waiter-calm st calm s q.session (member-waits q st.table.requests k)),
            ap one_if idle,
          )

      -- of those that waited before, the doomed are others whose wait has ended
      others : doomed_by st (record { session = s; call = Lock r x; reply = told (is_doomed after s) (is_waiting after s) k }) after ≡ doomed_among st.table.requests after
      others = count-alike (λ (q : Claim). has_ended s st after q.session && is_doomed after q.session) (λ (q : Claim). is_doomed after q.session) st.table.requests
          (λ q j. go q.session (member-waits q st.table.requests j) (is_doomed after q.session) refl)
        where
          go : (u : ℕ) → is_waiting st u ≡ true → (d : Bool) → is_doomed after u ≡ d → ((not (eqb u s) && (is_waiting st u && not (is_waiting after u))) && is_doomed after u) ≡ is_doomed after u
          go u w false e = and_right (has_ended s st after u) (is_doomed after u) e ∙ sym e
          go u w true e =
              let gone : is_waiting after u ≡ false = ap (λ (o : Option Claim). is_some o) (quiet u e) in
              let apart : eqb u s ≡ false = other s u (λ f. true≢false (sym w ∙ (ap (λ (y : ℕ). is_waiting st y) f ∙ free))) in
              ap (λ (b : Bool). (not b && (is_waiting st u && not (is_waiting after u))) && is_doomed after u) apart
              ∙ (ap (λ (b : Bool). (b && not (is_waiting after u)) && is_doomed after u) w
              ∙ ap (λ (b : Bool). not b && is_doomed after u) gone)

  -- a request
  asked : (r : List ℕ) (m x : Mode) → DoDoomedWaitForNothing (after_asking st s r m) → IsSound (with_request s r m st.table)
      → victims_of st (record { session = s; call = Lock r x; reply = (ask st s r m).reply }) (ask st s r m).state ≡ length (deadlocks_of_request st s r m)
  asked r m x quiet sound = go (is_held (held_mode st.table s r) m) (is_granted_at_once st.table s r m) refl refl quiet
    where
      -- the state, by whether the lock covers the target and whether the request is granted
      result : Bool → Bool → State
      result h g = cond h st (cond g (with_table (after_grant s r m st.table) st) (after_wait st s r m))

      go : (h g : Bool) → is_held (held_mode st.table s r) m ≡ h → is_granted_at_once st.table s r m ≡ g → DoDoomedWaitForNothing (result h g)
          → victims_of st (record { session = s; call = Lock r x; reply = told (is_doomed (result h g) s) (is_waiting (result h g) s) m }) (result h g)
          ≡ length (cond h [] (cond g [] (deadlocked_states (length st.table.requests + 2) s (with_table (with_request s r m st.table) st))))
      go true g e f q = covered r m x st (λ u. refl)
      go false true e f q = covered r m x (with_table (after_grant s r m st.table) st) (λ u. refl)
      go false false e f q = waits-doom r m x m (length st.table.requests + 2) (after_wait st s r m) refl q sound

-- a call, by its tests

module _ (st : State) (i : IsQuiescent st.table) (calm : DoDoomedWaitForNothing st) (n : IsNumbered st) (s : ℕ) where
  -- the victims of a call with this outcome
  abbrev victims_with : Call → Outcome → ℕ
  victims_with c o = victims_of st (record { session = s; call = c; reply = o.reply }) o.state

  -- a request that passes its tests makes as many as there are deadlocks
  passed-victims : (r : List ℕ) (m : Mode) (o : Option Why) → first_failing (tests st s (Lock r m)) ≡ None ⊎ (first_failing (tests st s (Convert r m)) ≡ None) → o ≡ None
      → DoDoomedWaitForNothing (after_asking st s r (target_of (held_mode st.table s r) m))
      → victims_with (Lock r m) (ask st s r (target_of (held_mode st.table s r) m)) ≡ length (deadlocks_unless_refused o st s r m)
  passed-victims r m o h none quiet =
      let p : (not (is_open st s) ≡ false) × (is_waiting st s ≡ false) × (is_doomed st s ≡ false) × (is_nothing m ≡ false) × (lacks_parent st.table s r (target_of (held_mode st.table s r) m) ≡ false) = elim h [
        | inl l ↦ let p = all-pass (tests st s (Lock r m)) l in (p.0, p.1.0, p.1.1.0, p.1.1.1.0, p.1.1.1.1.0)
        | inr l ↦ let p = all-pass (tests st s (Convert r m)) l in (p.0, p.1.0, p.1.1.0, p.1.1.1.0, p.1.1.1.1.1.0)
      ] in
      let sound = begins-sound s r (target_of (held_mode st.table s r) m) st.table i.sound (is-none (request_of s st.table.requests) p.1) (below-sup (mode_or_nothing (held_mode st.table s r)) m)
      (p.4, sup-some (mode_or_nothing (held_mode st.table s r)) m p.3) in
      asked st i.sound calm n s p.2 p.1 (not-false (is_open st s) p.0) r (target_of (held_mode st.table s r) m) m quiet sound
      ∙ sym (ap (λ (x : Option Why). length (deadlocks_unless_refused x st s r m)) none)

  acted : (c : Call) → first_failing (tests st s c) ≡ None → DoDoomedWaitForNothing (act st s c).state → victims_with c (act st s c) ≡ length (deadlocks_of st s c)
  acted Begin h quiet = plain st calm s Begin (act st s Begin).reply (act st s Begin).state refl (others-same st calm s _)
  acted (Lock r m) h quiet = passed-victims r m (first_failing (tests st s (Lock r m))) (inl h) h quiet
  acted (Convert r m) h quiet = passed-victims r m (first_failing (tests st s (Convert r m))) (inr h) h quiet
  acted Poll h quiet = plain st calm s Poll (act st s Poll).reply st refl (λ u e. refl)
  acted (Release r) h quiet = plain st calm s (Release r) (act st s (Release r)).reply (act st s (Release r)).state refl (λ u e. refl)
  acted Commit h quiet = plain st calm s Commit (act st s Commit).reply (act st s Commit).state refl (others-same st calm s _)
  acted Abort h quiet = plain st calm s Abort (act st s Abort).reply (act st s Abort).state refl (others-same st calm s _)
  acted (Try r m) h quiet = passed-victims r m (first_failing (tests st s (Try r m))) (inl (try-locks st s r m h)) h quiet
  acted Withdraw h quiet = plain st calm s Withdraw (act st s Withdraw).reply (act st s Withdraw).state refl (λ u e. refl)
  acted Restart h quiet = plain st calm s Restart (act st s Restart).reply (act st s Restart).state refl (others-same st calm s _)

  asked-refused : (r : List ℕ) (m : Mode) (c : Call) (o : Option Why) (w : Why) → o ≡ Some w → 0 + doomed_by st (record { session = s; call = c; reply = Refused w }) st ≡ length (deadlocks_unless_refused o st s r m)
  asked-refused r m c o w h = omega (arith, none-doomed st calm s c (Refused w) st (λ u e. refl), ap (λ (x : Option Why). length (deadlocks_unless_refused x st s r m)) h)

  refused : (c : Call) (w : Why) → first_failing (tests st s c) ≡ Some w → victims_with c (record { state = st; reply = Refused w }) ≡ length (deadlocks_of st s c)
  refused Begin w h = plain st calm s Begin (Refused w) st refl (λ u e. refl)
  refused (Lock r m) w h = asked-refused r m (Lock r m) (first_failing (tests st s (Lock r m))) w h
  refused (Convert r m) w h = asked-refused r m (Convert r m) (first_failing (tests st s (Convert r m))) w h
  refused Poll w h = plain st calm s Poll (Refused w) st refl (λ u e. refl)
  refused (Release r) w h = plain st calm s (Release r) (Refused w) st refl (λ u e. refl)
  refused Commit w h = plain st calm s Commit (Refused w) st refl (λ u e. refl)
  refused Abort w h = plain st calm s Abort (Refused w) st refl (λ u e. refl)
  refused (Try r m) w h = asked-refused r m (Try r m) (first_failing (tests st s (Try r m))) w h
  refused Withdraw w h = plain st calm s Withdraw (Refused w) st refl (λ u e. refl)
  refused Restart w h = plain st calm s Restart (Refused w) st refl (λ u e. refl)

  -- a call makes as many victims as there are deadlocks
  pub victims-of-call : (c : Call) → DoDoomedWaitForNothing (step st s c).state → victims_with c (step st s c) ≡ length (deadlocks_of st s c)
  victims-of-call c = go (first_failing (tests st s c)) refl
    where
      go : (o : Option Why) → first_failing (tests st s c) ≡ o → DoDoomedWaitForNothing (outcome_of o st s c).state → victims_with c (outcome_of o st s c) ≡ length (deadlocks_of st s c)
      go None h quiet = acted c h quiet
      go (Some w) h quiet = refused c w h

-- histories

-- there are as many moments as deadlocks
counted : (place s : ℕ) (sts : List State) → length (moments_at place s sts) ≡ length sts
counted place s [] = refl
counted place s (st ∷ sts) = omega (arith, counted place s sts)

-- an entry of a legal history
entry-victims : (e : Entry) (front : List Entry) (st : State) → state_of front ≡ st → e.reply ≡ (step st e.session e.call).reply
    → victims_of st e (step st e.session e.call).state ≡ length (deadlocks_of st e.session e.call)
entry-victims e front st is told =
    let next : state_of (front ++ e ∷ []) ≡ (step st e.session e.call).state = state_of-push front e ∙ ap (λ (x : State). (step x e.session e.call).state) is in
    subst (λ (x : Reply). victims_of st (record { session = e.session; call = e.call; reply = x }) (step st e.session e.call).state ≡ length (deadlocks_of st e.session e.call)) (sym told)
    (victims-of-call st (subst (λ (x : State). IsQuiescent x.table) is (state-lawful front)) (subst DoDoomedWaitForNothing is (state-idle front)) (subst IsNumbered is (state-numbered front)) e.session e.call
    (subst DoDoomedWaitForNothing next (state-idle (front ++ e ∷ []))))

victims-from : (es front : List Entry) (place : ℕ) (st : State) → state_of front ≡ st → IsLegalFrom st es → length (deadlocks_from place st es) ≡ total_from victims_of st es
victims-from [] front place st is l = refl
victims-from (e ∷ es) front place st is l =
    let next : state_of (front ++ e ∷ []) ≡ (step st e.session e.call).state = state_of-push front e ∙ ap (λ (x : State). (step x e.session e.call).state) is in
    let sts = deadlocks_of st e.session e.call in
    omega (
      arith,
      entry-victims e front st is l.0,
      length-append (moments_at place e.session sts) (deadlocks_from (place + 1) (step st e.session e.call).state es),
      counted place e.session sts,
      victims-from es (front ++ e ∷ []) (place + 1) (step st e.session e.call).state next l.1,
    )

-- a legal history has as many victims as deadlocks are told of it
pub all-victims : (h : List Entry) → IsLegal h → length (deadlocks_in h) ≡ waits_doomed h
all-victims h l = victims-from h [] 0 empty refl l

-- the moments of one call are one more, if there are any
one-call : (next place s : ℕ) (sts : List State) (rest : List Moment) → next ≤ place → (c : ℕ) → ((k : ℕ) → k ≤ place + 1 → closings k rest ≡ c) → closings next (moments_at place s sts ++ rest) ≡ one_if (not (eqb (length sts) 0)) + c
one-call next place s [] rest le c k = omega (arith, k next (omega (arith, le)))
one-call next place s (st ∷ sts) rest le c k =
    let first : eqb (suc place) next ≡ false = other next (suc place) (λ f. omega (arith, f, le)) in
    let some : eqb (length (st ∷ sts)) 0 ≡ false = other 0 (length (st ∷ sts)) (λ f. omega (arith, f)) in
    omega (arith, ap (λ (b : Bool). one_if (not b)) first, ap (λ (b : Bool). one_if (not b)) some, rest-same sts)
  where
    rest-same : (sts : List State) → closings (suc place) (moments_at place s sts ++ rest) ≡ c
    rest-same [] = k (suc place) (omega arith)
    rest-same (x ∷ xs) = omega (arith, ap (λ (b : Bool). one_if (not b)) (eqb-refl (suc place)), rest-same xs)

closings-from : (es front : List Entry) (place next : ℕ) (st : State) → next ≤ place → state_of front ≡ st → IsLegalFrom st es
    → closings next (deadlocks_from place st es) ≡ total_from (λ before e after. one_if (not (eqb (victims_of before e after) 0))) st es
closings-from [] front place next st le is l = refl
closings-from (e ∷ es) front place next st le is l =
    let after : state_of (front ++ e ∷ []) ≡ (step st e.session e.call).state = state_of-push front e ∙ ap (λ (x : State). (step x e.session e.call).state) is in
    let sts = deadlocks_of st e.session e.call in
    let here = entry-victims e front st is l.0 in
    let all = one-call next place e.session sts (deadlocks_from (place + 1) (step st e.session e.call).state es) le
    (total_from (λ before e after. one_if (not (eqb (victims_of before e after) 0))) (step st e.session e.call).state es)
    (λ k few. closings-from es (front ++ e ∷ []) (place + 1) k (step st e.session e.call).state few after l.1) in
    omega (arith, all, ap (λ (n : ℕ). one_if (not (eqb n 0))) here)

-- and as many calls that made some as its places tell
pub all-closings : (h : List Entry) → IsLegal h → closings 0 (deadlocks_in h) ≡ deadlocks h
all-closings h l = closings-from h [] 0 0 empty (omega arith) refl l
