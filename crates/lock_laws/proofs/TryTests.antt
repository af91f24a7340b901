-- A Try has the tests of a Lock, and one more: that its request wouldn't wait.
use Rattle.std.proofs.Common.{◌≡◌, ◌≢◌, ℕ, Bool, true, false, cond, not, ◌&&◌, ◌||◌, ◌⊎◌, inl, inr, List, [], ◌∷◌, ◌++◌, Option, Some, None, refl, sym, ◌∙◌, ap}
use Rattle.std.specs.Prelude.{is_some}
use Rattle.std.proofs.lemmas.Bool.{and_right}
use Rattle.lock_modes.specs.declared.Mode.{Mode}
use Rattle.lock_rules.specs.declared.calls.Call.TheVariants.{Lock, Convert, Try}
use Rattle.lock_rules.specs.declared.calls.Reply.TheVariants.{Granted, Waiting, Deadlock, Refused}
use Rattle.lock_rules.specs.declared.calls.Why.{Why}
use Rattle.lock_rules.specs.declared.calls.Why.TheVariants.{WouldWait}
use Rattle.lock_rules.specs.State.{Claim, State, held_mode, is_waiting, is_doomed, with_table}
use Rattle.lock_rules.specs.Queue.{fits, queue, is_empty, after_grant, is_granted_at_once}
use Rattle.lock_rules.specs.Effects.{IsNotRefused}
use Rattle.lock_rules.specs.Step.{Outcome, target_of, lock_tests, would_wait, first_failing, is_held, after_wait, after_asking, ask, outcome_of, step}
use Rattle.lock_rules.proofs.Alters.{true≢false}
use Rattle.lock_rules.proofs.Lists.{request_of-claims_but}
use Rattle.lock_rules.proofs.Steps.{all-pass}
use Rattle.lock_rules.proofs.Taken.{passes}
use Rattle.lock_laws.specs.Tries.{WouldLockWait, IsTryRefusedIfLockWaits, DoesTryActAsLock, AreConversionsTriedPastWaiters}
use Rattle.lock_rules.proofs.Refusals.{ask-answers}

-- no test of the list gives this refusal
abbrev GivesNot : Why → List (Bool × Why) → Type 0
GivesNot w [] = Unit {0}
GivesNot w (t ∷ ts) = (t.1 ≢ w) × GivesNot w ts

-- if no test gives a refusal, the first that fails doesn't
not-given : (w : Why) (ts : List (Bool × Why)) → GivesNot w ts → first_failing ts ≡ Some w → ⊥
not-given w [] n h = absurd (cc)
not-given w (t ∷ ts) n h = go t.0 h (not-given w ts n.1)
  where
    go : (b : Bool) → cond b (Some t.1) (first_failing ts) ≡ Some w → (first_failing ts ≡ Some w → ⊥) → ⊥
    go true e next = let same : t.1 ≡ w = cc in n.0 same
    go false e next = next e

-- the tests of a Lock don't give WouldWait
lock-gives-not : (st : State) (s : ℕ) (r : List ℕ) (m : Mode) → GivesNot WouldWait (lock_tests st s r m)
lock-gives-not st s r m = (λ e. absurd (cc), (λ e. absurd (cc), (λ e. absurd (cc), (λ e. absurd (cc), (λ e. absurd (cc), (λ e. absurd (cc), tt))))))

-- the refusal of a list's first test that fails, or of one more test behind the list
abbrev or_last : Option Why → Bool → Why → Option Why
or_last None b w = cond b (Some w) None
or_last (Some v) b w = Some v

-- with one more test behind a list, the first that fails is that of the list, if any fails there, else the new one
first-append : (ts : List (Bool × Why)) (u : Bool × Why) → first_failing (ts ++ u ∷ []) ≡ or_last (first_failing ts) u.0 u.1
first-append [] u = refl
first-append (t ∷ ts) u = go t.0 (first-append ts u)
  where
    go : (b : Bool) → first_failing (ts ++ u ∷ []) ≡ or_last (first_failing ts) u.0 u.1 → cond b (Some t.1) (first_failing (ts ++ u ∷ [])) ≡ or_last (cond b (Some t.1) (first_failing ts)) u.0 u.1
    go true e = refl
    go false e = e

module _ (st : State) (s : ℕ) (r : List ℕ) (m : Mode) where
  -- a Try, by what the tests of a Lock give and whether its request would wait
  try-step : (o : Option Why) (b : Bool) → first_failing (lock_tests st s r m) ≡ o → would_wait st.table s r (target_of (held_mode st.table s r) m) ≡ b → step st s (Try r m) ≡ outcome_of (or_last o b WouldWait) st s (Try r m)
  try-step o b e f =
      ap (λ (x : Option Why). outcome_of x st s (Try r m)) (first-append (lock_tests st s r m) (would_wait st.table s r (target_of (held_mode st.table s r) m), WouldWait)
      ∙ (ap (λ (x : Option Why). or_last x (would_wait st.table s r (target_of (held_mode st.table s r) m)) WouldWait) e ∙ ap (λ (x : Bool). or_last o x WouldWait) f))

  -- a Lock, by what its tests give
  lock-step : (o : Option Why) → first_failing (lock_tests st s r m) ≡ o → step st s (Lock r m) ≡ outcome_of o st s (Lock r m)
  lock-step o e = ap (λ (x : Option Why). outcome_of x st s (Lock r m)) e

  -- a Try that isn't refused with WouldWait acts as a Lock
  acts-same : (step st s (Try r m)).reply ≢ Refused WouldWait → step st s (Try r m) ≡ step st s (Lock r m)
  acts-same h = go (first_failing (lock_tests st s r m)) (would_wait st.table s r (target_of (held_mode st.table s r) m)) refl refl
    where
      go : (o : Option Why) (b : Bool) → first_failing (lock_tests st s r m) ≡ o → would_wait st.table s r (target_of (held_mode st.table s r) m) ≡ b → step st s (Try r m) ≡ step st s (Lock r m)
      go (Some w) b e f = try-step (Some w) b e f ∙ sym (lock-step (Some w) e)
      go None true e f = absurd (h (ap (λ (x : Outcome). x.reply) (try-step None true e f)))
      go None false e f = try-step None false e f ∙ sym (lock-step None e)

  -- a Try that is refused with WouldWait is one whose Lock would begin to wait
  refused-waits : (step st s (Try r m)).reply ≡ Refused WouldWait → WouldLockWait st s r m
  refused-waits h = go (first_failing (lock_tests st s r m)) (would_wait st.table s r (target_of (held_mode st.table s r) m)) refl refl
    where
      given : (w : Why) → Refused w ≡ Refused WouldWait → w ≡ WouldWait
      given w e = cc

      go : (o : Option Why) (b : Bool) → first_failing (lock_tests st s r m) ≡ o → would_wait st.table s r (target_of (held_mode st.table s r) m) ≡ b → WouldLockWait st s r m
      go (Some w) b e f =
          let same = given w (sym (ap (λ (x : Outcome). x.reply) (try-step (Some w) b e f)) ∙ h) in
          absurd (not-given WouldWait (lock_tests st s r m) (lock-gives-not st s r m) (e ∙ ap (λ (x : Why). Some x) same))
      go None true e f = (target_of (held_mode st.table s r) m, record { asked = m; call = inl refl; target = refl; passes = e; waits = f })
      go None false e f =
          let after = after_asking st s r (target_of (held_mode st.table s r) m) in
          absurd (ask-answers (is_doomed after s) (is_waiting after s) (target_of (held_mode st.table s r) m) WouldWait (sym (ap (λ (x : Outcome). x.reply) (try-step None false e f)) ∙ h))

  -- a Try whose Lock would begin to wait is refused with WouldWait
  waits-refused : WouldLockWait st s r m → (step st s (Try r m)).reply ≡ Refused WouldWait
  waits-refused w = ap (λ (x : Outcome). x.reply) (try-step None true w.1.passes (ap (λ (x : Mode). would_wait st.table s r (target_of (held_mode st.table s r) x)) (asked w.1.asked w.1.call) ∙ (ap (would_wait st.table s r) (sym w.1.target) ∙ w.1.waits)))
    where
      asked : (n : Mode) → (Lock r m ≡ Lock r n) ⊎ (Lock r m ≡ Convert r n) → m ≡ n
      asked n (inl e) = cc
      asked n (inr e) = absurd (cc)

  -- a Try that converts a lock to a mode that fits is granted
  converts : (k : Mode) → held_mode st.table s r ≡ Some k → IsNotRefused st s (Lock r m) → fits st.table s r (target_of (Some k) m) ≡ true → (step st s (Try r m)).reply ≡ Granted (target_of (Some k) m)
  converts k e h f = ap (λ (x : Outcome). x.reply) (try-step None false pass free) ∙ (told (is_held (held_mode st.table s r) (target_of (held_mode st.table s r) m)) true refl now ∙ ap (λ (o : Option Mode). Granted (target_of o m)) e)
    where
      pass : first_failing (lock_tests st s r m) ≡ None
      pass = passes st s (Lock r m) h

      now : is_granted_at_once st.table s r (target_of (held_mode st.table s r) m) ≡ true
      now =
          ap (λ (o : Option Mode). fits st.table s r (target_of o m) && (is_some o || is_empty (queue st.table r))) e
          ∙ ap (λ (b : Bool). b && true) f

      free : would_wait st.table s r (target_of (held_mode st.table s r) m) ≡ false
      free = ap (λ (b : Bool). not (is_held (held_mode st.table s r) (target_of (held_mode st.table s r) m)) && not b) now ∙ and_right (not (is_held (held_mode st.table s r) (target_of (held_mode st.table s r) m))) false refl

      clear : (is_waiting st s ≡ false) × (is_doomed st s ≡ false)
      clear = let p = all-pass (lock_tests st s r m) pass in (p.1.0, p.1.1.0)

      -- the reply in a state in which the session neither is doomed nor waits
      reply : (after : State) → is_doomed after s ≡ false → is_waiting after s ≡ false → cond (is_doomed after s) Deadlock (cond (is_waiting after s) Waiting (Granted (target_of (held_mode st.table s r) m))) ≡ Granted (target_of (held_mode st.table s r) m)
      reply after d w =
          ap (λ (b : Bool). cond b Deadlock (cond (is_waiting after s) Waiting (Granted (target_of (held_mode st.table s r) m)))) d
          ∙ ap (λ (b : Bool). cond b Waiting (Granted (target_of (held_mode st.table s r) m))) w

      told : (a b : Bool) → is_held (held_mode st.table s r) (target_of (held_mode st.table s r) m) ≡ a → is_granted_at_once st.table s r (target_of (held_mode st.table s r) m) ≡ b → (ask st s r (target_of (held_mode st.table s r) m)).reply ≡ Granted (target_of (held_mode st.table s r) m)
      told a b x y = reply (after_asking st s r (target_of (held_mode st.table s r) m)) (ap (λ (z : State). is_doomed z s) (asked a b x y) ∙ doomed a b x y) (ap (λ (z : State). is_waiting z s) (asked a b x y) ∙ waits a b x y)
        where
          asked : (a b : Bool) → is_held (held_mode st.table s r) (target_of (held_mode st.table s r) m) ≡ a → is_granted_at_once st.table s r (target_of (held_mode st.table s r) m) ≡ b
              → after_asking st s r (target_of (held_mode st.table s r) m) ≡ cond a st (cond b (with_table (after_grant s r (target_of (held_mode st.table s r) m) st.table) st) (after_wait st s r (target_of (held_mode st.table s r) m)))
          asked a b x y = rw (x, y) refl

          doomed : (a b : Bool) → is_held (held_mode st.table s r) (target_of (held_mode st.table s r) m) ≡ a → is_granted_at_once st.table s r (target_of (held_mode st.table s r) m) ≡ b
              → is_doomed (cond a st (cond b (with_table (after_grant s r (target_of (held_mode st.table s r) m) st.table) st) (after_wait st s r (target_of (held_mode st.table s r) m)))) s ≡ false
          doomed true b x y = clear.1
          doomed false true x y = clear.1
          doomed false false x y = absurd (true≢false now y)

          waits : (a b : Bool) → is_held (held_mode st.table s r) (target_of (held_mode st.table s r) m) ≡ a → is_granted_at_once st.table s r (target_of (held_mode st.table s r) m) ≡ b
              → is_waiting (cond a st (cond b (with_table (after_grant s r (target_of (held_mode st.table s r) m) st.table) st) (after_wait st s r (target_of (held_mode st.table s r) m)))) s ≡ false
          waits true b x y = clear.0
          waits false true x y = ap (λ (o : Option Claim). is_some o) (request_of-claims_but s st.table.requests)
          waits false false x y = absurd (true≢false now y)

-- a Try is refused with WouldWait exactly if a Lock would begin to wait, in every state
pub try-refused : (st : State) → IsTryRefusedIfLockWaits st
try-refused st s r m = (refused-waits st s r m, waits-refused st s r m)

-- otherwise it is that Lock
pub try-same : (st : State) → DoesTryActAsLock st
try-same st = acts-same st

-- a conversion is tried past sessions that wait
pub try-converts : (st : State) → AreConversionsTriedPastWaiters st
try-converts st = converts st
