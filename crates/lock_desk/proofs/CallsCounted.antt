-- The calls of a history are counted, and one call more; and the waits that a session gives up.
use Rattle.std.proofs.Common.{◌≡◌, ℕ, ◌+◌, ◌-◌, ◌<◌, ◌%◌, ◌^◌, Bool, true, false, cond, not, eqb, ◌&&◌, List, [], ◌∷◌, ◌++◌, length, map, get_or, Option, Some, None, is_some, refl, sym, ◌∙◌, ap, subst, arith, length-append}
use Rattle.std.proofs.lemmas.Bool.{true≢false}
use Rattle.lock_modes.specs.declared.Mode.{Mode}
use Rattle.lock_rules.specs.declared.calls.Call.{Call}
use Rattle.lock_rules.specs.declared.calls.Call.TheVariants.{Begin, Lock, Convert, Poll, Release, Commit, Abort, Try, Withdraw, Restart}
use Rattle.lock_rules.specs.declared.calls.Reply.{Reply}
use Rattle.lock_rules.specs.declared.calls.Why.{Why}
use Rattle.lock_rules.specs.declared.kinds.Op.{Op}
use Rattle.lock_rules.specs.declared.kinds.Op.TheVariants as op
use Rattle.lock_rules.specs.declared.kinds.ReplyKind.{ReplyKind}
use Rattle.lock_rules.specs.Kinds.{op_of_call, kind_of_reply, number_of_op, number_of_kind}
use Rattle.lock_rules.specs.Entries.{Entry}
use Rattle.lock_rules.specs.State.{Claim, State, request_of, is_open, is_waiting, claims_of, claims_but}
use Rattle.lock_rules.specs.Waits.{resource_of_request}
use Rattle.lock_rules.specs.Step.{first_failing, without_claims, after_end, outcome_of, step}
use Rattle.lock_rules.specs.Legal.{state_of, IsLegal}
use Rattle.lock_rules.specs.Sound.{IsNumbered}
use Rattle.lock_rules.proofs.Histories.{legal-push}
use Rattle.lock_rules.proofs.Lists.{request_of-claims_but}
use Rattle.lock_rules.specs.Counts.{one_if, count_if, is_op, is_refusal_numbered, gives_up, waits_aborted, waits_restarted}
use Rattle.lock_rules.specs.CountTallies.{cell_of}
use Rattle.lock_rules.proofs.Counting.{count-le-length}
use Rattle.lock_rules.proofs.CountNumbers.{kind_few}
use Rattle.lock_rules.proofs.CountTallies.{cells-apart, count-push, total-push}
use Rattle.lock_rules.proofs.CountBalance.{counts-bounded}
use Rattle.lock_rules.proofs.CountThinned.{thin-promotions, thinned-waits-not}
use Rattle.lock_desk.specs.declared.call_counts.CallCounts.{CallCounts}
use Rattle.lock_desk.specs.declared.wait_counts.WaitCounts.{WaitCounts}
use Rattle.lock_table.specs.Deadlocks.{Moment, deadlocks_of, moments_at}
use Rattle.lock_desk.specs.Deadlocks.{deadlocks_in}
use Rattle.lock_desk.specs.inner.WaitCounts.{no_waits, AreVictimsCounted}
use Rattle.lock_desk.specs.inner.Counting.{with_own_wait, AreCallsCounted, AreWaitsCounted}
use Rattle.lock_desk.specs.inner.Noting.{HasCounted}
use Rattle.lock_desk.proofs.DeadlocksOfHistories.{deadlocks-push}
use Rattle.lock_desk.proofs.VictimsCounted.{goes-up}
use Rattle.lock_desk.proofs.VictimsOfCalls.{all-victims}

-- one call more is counted: its reply, and then its refusal
pub call-counted : (h : List Entry) (s : ℕ) (call : Call) (reply : Reply) (o : Op) (k : ReplyKind) (old mid new : CallCounts) → o ≡ op_of_call call → k ≡ kind_of_reply reply
    → AreCallsCounted h old → length h < 2 ^ 64 - 1
    → ((n : ℕ) → get_or mid.replies n 0 ≡ cond (eqb n (cell_of o (number_of_kind k))) ((get_or old.replies n 0 + 1) % 2 ^ 64) (get_or old.replies n 0))
    → mid ≡ record old { replies = mid.replies }
    → ((n : ℕ) → n < 13 → get_or new.refusals n 0 ≡ cond (is_refusal_numbered n reply) ((get_or mid.refusals n 0 + 1) % 2 ^ 64) (get_or mid.refusals n 0))
    → new ≡ record mid { refusals = new.refusals }
    → AreCallsCounted (h ++ record { session = s; call = call; reply = reply } ∷ []) new
call-counted h s call reply o k old mid new is kind_is c few up mid_is down new_is =
    let e : Entry = record { session = s; call = call; reply = reply } in
    record {
      replies = λ x n small.
          let cell = ap (λ (y : Op). cell_of y (number_of_kind k)) is ∙ ap (λ (y : ReplyKind). cell_of (op_of_call call) (number_of_kind y)) kind_is in
          ap (λ (t : CallCounts). get_or t.replies (cell_of x n) 0) new_is
          ∙ goes-up (eqb (cell_of x n) (cell_of o (number_of_kind k))) _ _ _ (up (cell_of x n)) (c.replies x n small)
          (omega (arith, few, count-le-length (λ (y : Entry). is_op x y && eqb (number_of_kind (kind_of_reply y.reply)) n) h))
          ∙ ap (λ (b : Bool). count_if (λ (y : Entry). is_op x y && eqb (number_of_kind (kind_of_reply y.reply)) n) h + one_if b)
          (ap (λ (i : ℕ). eqb (cell_of x n) i) cell ∙ cells-apart (number_of_op x) n (number_of_op (op_of_call call)) (number_of_kind (kind_of_reply reply)) small (kind_few (kind_of_reply reply)))
          ∙ sym (count-push (λ (y : Entry). is_op x y && eqb (number_of_kind (kind_of_reply y.reply)) n) h e);
      refusals = λ n small.
          goes-up (is_refusal_numbered n reply) _ _ _ (down n small) (ap (λ (t : CallCounts). get_or t.refusals n 0) mid_is ∙ c.refusals n small)
          (omega (arith, few, count-le-length (λ (y : Entry). is_refusal_numbered n y.reply) h))
          ∙ sym (count-push (λ (y : Entry). is_refusal_numbered n y.reply) h e);
    }

-- what a session gives up by an abort or a restart

module _ (st : State) (n : IsNumbered st) (s : ℕ) where
  -- a session without a transaction doesn't wait
  closed-waits-not : is_open st s ≡ false → is_waiting st s ≡ false
  closed-waits-not shut = go (request_of s st.table.requests) refl
    where
      go : (o : Option Claim) → request_of s st.table.requests ≡ o → is_some o ≡ false
      go None e = refl
      go (Some q) e = absurd (true≢false (sym (n.owners.waiting s q e) ∙ shut))

  -- nor does it behind the end of its transaction
  ended-waits-not : is_some (request_of s (after_end s st.table).requests) ≡ false
  ended-waits-not =
      thinned-waits-not s (claims_but s st.table.requests) (after_end s st.table).requests (thin-promotions (resource_of_request (request_of s st.table.requests) ++ map (λ (c : Claim). c.resource) (claims_of s st.table.held)) (without_claims s st.table))
      (ap (λ (o : Option Claim). is_some o) (request_of-claims_but s st.table.requests))

  -- a call whose one test is that there is a transaction, and which ends the session's wait
  stops : (why : Why) (after : Option Why → State) → (after None).table ≡ after_end s st.table → ((w : Why) → after (Some w) ≡ st)
      → (is_waiting st s && not (is_waiting (after (first_failing ((not (is_open st s), why) ∷ []))) s)) ≡ is_waiting st s
  stops why after none some = go (is_open st s) refl
    where
      go : (b : Bool) → is_open st s ≡ b → (is_waiting st s && not (is_waiting (after (cond (not b) (Some why) None)) s)) ≡ is_waiting st s
      go true e =
          let gone : is_waiting (after None) s ≡ false = ap (λ t. is_some (request_of s t.requests)) none ∙ ended-waits-not in
          ap (λ (b : Bool). is_waiting st s && not b) gone ∙ and-yes (is_waiting st s)
        where
          and-yes : (b : Bool) → (b && true) ≡ b
          and-yes true = refl
          and-yes false = refl
      go false e = let idle = closed-waits-not e in ap (λ (b : Bool). b && not (is_waiting (after (Some why)) s)) idle ∙ sym idle

  -- an abort is counted if the session waits
  pub abort-counted : (c : Call) (reply : Reply) (a : WaitCounts) (k : ℕ) → a.aborted ≡ k → k + 1 < 2 ^ 64
      → (with_own_wait (is_waiting st s) c a).aborted ≡ k + one_if (gives_up op.Abort st (record { session = s; call = c; reply = reply }) (step st s c).state)
  abort-counted Abort reply a k h few =
      goes-up (is_waiting st s) a.aborted k _ refl h few
      ∙ ap (λ (b : Bool). k + one_if b) (sym (stops _ (λ o. (outcome_of o st s Abort).state) refl (λ w. refl)))
  abort-counted Begin reply a k h few = omega (arith, h)
  abort-counted (Lock r m) reply a k h few = omega (arith, h)
  abort-counted (Convert r m) reply a k h few = omega (arith, h)
  abort-counted Poll reply a k h few = omega (arith, h)
  abort-counted (Release r) reply a k h few = omega (arith, h)
  abort-counted Commit reply a k h few = omega (arith, h)
  abort-counted (Try r m) reply a k h few = omega (arith, h)
  abort-counted Withdraw reply a k h few = omega (arith, h)
  abort-counted Restart reply a k h few = omega (arith, h)

  -- and so is a restart
  pub restart-counted : (c : Call) (reply : Reply) (a : WaitCounts) (k : ℕ) → a.restarted ≡ k → k + 1 < 2 ^ 64
      → (with_own_wait (is_waiting st s) c a).restarted ≡ k + one_if (gives_up op.Restart st (record { session = s; call = c; reply = reply }) (step st s c).state)
  restart-counted Restart reply a k h few =
      goes-up (is_waiting st s) a.restarted k _ refl h few
      ∙ ap (λ (b : Bool). k + one_if b) (sym (stops _ (λ o. (outcome_of o st s Restart).state) refl (λ w. refl)))
  restart-counted Begin reply a k h few = omega (arith, h)
  restart-counted (Lock r m) reply a k h few = omega (arith, h)
  restart-counted (Convert r m) reply a k h few = omega (arith, h)
  restart-counted Poll reply a k h few = omega (arith, h)
  restart-counted (Release r) reply a k h few = omega (arith, h)
  restart-counted Commit reply a k h few = omega (arith, h)
  restart-counted Abort reply a k h few = omega (arith, h)
  restart-counted (Try r m) reply a k h few = omega (arith, h)
  restart-counted Withdraw reply a k h few = omega (arith, h)

-- victims are counted as before
own-victims : (waits : Bool) (c : Call) (ms : List Moment) (a : WaitCounts) → AreVictimsCounted ms a → AreVictimsCounted ms (with_own_wait waits c a)
own-victims waits Abort ms a h = record { victims = h.victims; closing = h.closing; last = h.last }
own-victims waits Restart ms a h = record { victims = h.victims; closing = h.closing; last = h.last }
own-victims waits Begin ms a h = h
own-victims waits (Lock r m) ms a h = h
own-victims waits (Convert r m) ms a h = h
own-victims waits Poll ms a h = h
own-victims waits (Release r) ms a h = h
own-victims waits Commit ms a h = h
own-victims waits (Try r m) ms a h = h
own-victims waits Withdraw ms a h = h

-- the waits of one call more are counted
pub waits-counted : (h now : List Entry) (s : ℕ) (c : Call) (reply : Reply) (served : ℕ) (old new : WaitCounts) → now ≡ h ++ record { session = s; call = c; reply = reply } ∷ []
    → IsLegal h → reply ≡ (step (state_of h) s c).reply → IsNumbered (state_of h) → served ≡ length h → length h < 2 ^ 64 - 1
    → HasCounted (moments_at served s (deadlocks_of (state_of h) s c)) (with_own_wait (is_waiting (state_of h) s) c old) new
    → AreWaitsCounted h old → AreWaitsCounted now new
waits-counted h now s c reply served old new is legal told numbered at few has a =
    let st : State = state_of h in
    let e : Entry = record { session = s; call = c; reply = reply } in
    let all : deadlocks_in (h ++ e ∷ []) ≡ deadlocks_in h ++ moments_at served s (deadlocks_of st s c)
    = deadlocks-push h e ∙ ap (λ (n : ℕ). deadlocks_in h ++ moments_at n s (deadlocks_of st s c)) (sym at) in
    let long = length-append h (e ∷ []) in
    let longer = legal-push h e legal told in
    let before = counts-bounded h legal in
    let bounds = counts-bounded (h ++ e ∷ []) longer in
    let sum = all-victims (h ++ e ∷ []) longer in
    let parts = ap length all ∙ length-append (deadlocks_in h) (moments_at served s (deadlocks_of st s c)) in
    subst (λ (es : List Entry). AreWaitsCounted es new) (sym is) (record {
      victims = subst (λ (ms : List Moment). AreVictimsCounted ms new) (sym all)
          (has.victims (deadlocks_in h) (omega (arith, parts, sum, bounds.doomed, long, few)) (own-victims (is_waiting st s) c (deadlocks_in h) old a.victims));
      aborted = has.aborted ∙ (abort-counted st numbered s c reply old (waits_aborted h) a.aborted (omega (arith, before.aborted, few))
          ∙ sym (total-push (λ x y z. one_if (gives_up op.Abort x y z)) h e));
      restarted = has.restarted ∙ (restart-counted st numbered s c reply old (waits_restarted h) a.restarted (omega (arith, before.restarted, few))
          ∙ sym (total-push (λ x y z. one_if (gives_up op.Restart x y z)) h e));
    })

-- of no calls, none are counted
pub none-counted : AreWaitsCounted [] no_waits
none-counted = record { victims = record { victims = refl; closing = refl; last = refl }; aborted = refl; restarted = refl }
