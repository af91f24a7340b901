-- A lock table that represents a state makes the tests of that state, and represents the next state after each call.
use Rattle.std.proofs.Common.{◌≡◌, ℕ, ◌+◌, ◌<◌, Bool, true, false, cond, not, eqb, ◌&&◌, leb, inl, inr, List, [], ◌∷◌, ◌++◌, length, length-append, map, Option, Some, None, is_some, refl, sym, ◌∙◌, ap, arith, subst, Result, IfOk}
use Rattle.std.proofs.lemmas.Bool.{not-false, cases_Bool}
use Rattle.std.proofs.lemmas.Bool.Decides.{Decides-eqb}
use Rattle.lock_modes.specs.declared.Mode.{Mode}
use Rattle.lock_modes.specs.Order.{at_or_below, need_of}
use Rattle.lock_tree.specs.Paths.{same_path, parent_of, has_parent}
use Rattle.lock_rules.specs.State as rules
use Rattle.lock_rules.specs.declared.calls.Call.{Call}
use Rattle.lock_rules.specs.declared.calls.Transaction.{Transaction}
use Rattle.lock_rules.specs.declared.calls.Call.TheVariants.{Begin, Lock, Convert, Poll, Release, Commit, Abort, Try, Withdraw, Restart}
use Rattle.lock_rules.specs.declared.calls.Why.{Why}
use Rattle.lock_rules.specs.declared.calls.Why.TheVariants.{AlreadyOpen, NoTransaction, IsWaiting, IsDoomed, NothingAsked, NotHeld, ParentNotHeld, ChildHeld, TooManyLocks, WouldWait, NotWaiting}
use Rattle.lock_rules.specs.declared.calls.Reply.{Reply}
use Rattle.lock_rules.specs.declared.calls.Reply.TheVariants.{Granted, Waiting, Deadlock, Refused}
use Rattle.lock_rules.specs.declared.calls.TheConstants.{MAX_LOCKS}
use Rattle.lock_rules.specs.Queue.{after_grant, is_granted_at_once, with_request}
use Rattle.lock_rules.specs.Waits.{after_victims, after_cancel}
use Rattle.lock_rules.specs.Step as step
use Rattle.lock_rules.specs.Step.{is_nothing, lacks_parent, holds_child, target_of, tests, first_failing, is_held, after_asking, after_wait, ask, after_end, restarted, act, outcome_of, step}
use Rattle.lock_rules.specs.Sound.{IsNumbered, IsSound, Stands}
use Rattle.lock_rules.proofs.Lists.{request_of-claims_but}
use Rattle.lock_rules.proofs.Marks.{below-sup, sup-some}
use Rattle.lock_rules.proofs.Begins.{begins-sound}
use Rattle.lock_rules.proofs.Victims.{settled-enough}
use Rattle.lock_rules.proofs.Owners.{waiting-numbered}
use Rattle.lock_rules.proofs.Steps.{all-pass, is-none, front-passes}
use Rattle.lock_table.specs.declared.cells.GivenUp.TheVariants as claim
use Rattle.lock_table.specs.declared.table.LockTable.{LockTable}
use Rattle.lock_table.specs.inner.Cells.{View, view_after_freeing, can_grant, view_after_asking}
use Rattle.lock_holders.specs.SessionModes.{has_session, mode_of, pair_of}
use Rattle.lock_table.specs.inner.Lockers.{Standing, standing_at}
use Rattle.lock_table.specs.Changes.{view_at, standing, view_after_end, IsWhole, mode_held, lacks_need, lock_tests, convert_tests, release_tests, idle_tests, call_tests, IsSameSeen, MayAsk, HasAsked, CanRelease, HasFreed, HasBegun, HasGivenUpAll, HasEnded, HasRestarted, would_wait, try_tests, HasCancelled, view_after_cancel}
use Rattle.lock_table.specs.Shows.{view, Shows, DoesAnswer}
use Rattle.lock_table.proofs.Agreement.{apart-at}
use Rattle.lock_table.proofs.Asking.{held-locker}
use Rattle.lock_table.proofs.TableViews.{in_mode, mode-seen, pairs-seen}
use Rattle.lock_table.proofs.LockCounts.{waits-told, locks-told}
use Rattle.lock_rules.proofs.Sound.{under-parent}
use Rattle.session_locks.specs.LockLists.{has_child, IsUnder}
use Rattle.session_locks.proofs.ChildCounts.{child-path, path-child}
use Rattle.lock_table.proofs.Children.{child-there, there-child, child-below, held-child}
use Rattle.lock_table.proofs.AfterRelease.{released-seen}
use Rattle.lock_table.proofs.AfterStep.{ended-seen, granted-seen, first_state, first-seen, cancelled-seen}
use Rattle.lock_rules.proofs.Ranges.{both-ways}

-- tests: what the lockers and the cells say is what the state says

-- a locker says whether its session has a transaction
open-shown : (d : LockTable) (st : rules.State) (s : ℕ) → Shows d st → is_some (standing s d).transaction ≡ rules.is_open st s
open-shown d st s h = ap is_some (h.transactions s)

-- a locker says whether its session's transaction is doomed
pub doom-shown : (d : LockTable) (st : rules.State) (s : ℕ) → Shows d st → rules.doomed_in (standing s d).transaction ≡ rules.is_doomed st s
doom-shown d st s h = ap rules.doomed_in (h.transactions s)

-- a locker says whether its session waits
pub waits-shown : (d : LockTable) (st : rules.State) (s : ℕ) → IsWhole d → Shows d st → is_some (standing s d).wanted ≡ rules.is_waiting st s
waits-shown d st s w h = waits-told s st.table (standing s d).wanted (λ x. (w.agree x).wanted s ∙ ap (λ (v : View). has_session s v.waiting) (h.views x))

-- the mode that a session has in a cell is the mode that it holds in the state
pub mode-shown : (d : LockTable) (st : rules.State) (s : ℕ) (r : List ℕ) → Shows d st → mode_held d s r ≡ rules.held_mode st.table s r
mode-shown d st s r h = ap (λ (v : View). mode_of s v.holders) (h.views r) ∙ sym (mode-seen s r st.table.held)

-- the holders of a cell are those of the state
pub holders-shown : (d : LockTable) (st : rules.State) (r : List ℕ) → Shows d st → map pair_of (view_at r d).holders ≡ rules.holders r st.table.held
holders-shown d st r h = ap (λ (v : View). map pair_of v.holders) (h.views r) ∙ pairs-seen r st.table.held

-- a locker says how many locks its session holds
pub locks-shown : (d : LockTable) (st : rules.State) (s : ℕ) → IsWhole d → IsSound st.table → Shows d st → length (standing s d).held ≡ length (rules.claims_of s st.table.held)
locks-shown d st s w i h = locks-told s st.table (standing s d).held i (apart-at d.lockers.items s) (λ x. (w.agree x).held s ∙ ap (λ (v : View). has_session s v.holders) (h.views x))

-- the test of the parent is that of the state
lacks-shown : (d : LockTable) (st : rules.State) (s : ℕ) (r : List ℕ) (m : Mode) → Shows d st → lacks_need d s r m ≡ lacks_parent st.table s r m
lacks-shown d st s r m h = ap (λ (o : Option Mode). has_parent r && not (at_or_below (need_of m) (rules.mode_or_nothing o))) (mode-shown d st s (parent_of r) h)

-- and so for the target of the request
target-shown : (d : LockTable) (st : rules.State) (s : ℕ) (r : List ℕ) (m : Mode) → Shows d st → lacks_need d s r (target_of (mode_held d s r) m) ≡ lacks_parent st.table s r (target_of (rules.held_mode st.table s r) m)
target-shown d st s r m h = ap (λ (o : Option Mode). lacks_need d s r (target_of o m)) (mode-shown d st s r h) ∙ lacks-shown d st s r (target_of (rules.held_mode st.table s r) m) h

-- a session holds a child of a resource, by its locker, exactly if it holds anything below in the state
child-shown : (d : LockTable) (st : rules.State) (s : ℕ) (r : List ℕ) → IsWhole d → IsSound st.table → Shows d st → has_child r (standing s d).held ≡ holds_child st.table s r
child-shown d st s r w i h = both-ways _ _
    (λ k. let p = child-path r (standing s d).held k in there-child s r p.path st.table.held (sym (ap is_some (mode-shown d st s p.path h)) ∙ (sym (held-locker s p.path d w) ∙ p.there)) (child-below r p.path p.child))
    (λ k. let p = child-there s r st.table.held k in
    let q = held-child st i s r p.path p.below p.there in
    path-child r q.path (standing s d).held (held-locker s q.path d w ∙ (ap is_some (mode-shown d st s q.path h) ∙ q.there)) q.child)

module _ (d : LockTable) (st : rules.State) (s : ℕ) (w : IsWhole d) (i : IsSound st.table) (h : Shows d st) where
  -- the tests that look at the session alone are those of the state
  standing-shown : (more told : List (Bool × Why)) → more ≡ told → (idle_tests d s ++ more) ≡ (not (rules.is_open st s), NoTransaction) ∷ (rules.is_waiting st s, IsWaiting) ∷ (rules.is_doomed st s, IsDoomed) ∷ told
  standing-shown more told e = let a = open-shown d st s h in let b = waits-shown d st s w h in let k = doom-shown d st s h in λ j. (not (a j), NoTransaction) ∷ (b j, IsWaiting) ∷ (k j, IsDoomed) ∷ e j

  -- the tests of a lock are those of the state
  lock-shown : (r : List ℕ) (m : Mode) → lock_tests d s r m
      ≡ (is_nothing m, NothingAsked) ∷ (lacks_parent st.table s r (target_of (rules.held_mode st.table s r) m), ParentNotHeld) ∷ (not (is_some (rules.held_mode st.table s r)) && leb MAX_LOCKS (length (rules.claims_of s st.table.held)), TooManyLocks) ∷ []
  lock-shown r m =
      let l = target-shown d st s r m h in
      let o = mode-shown d st s r h in
      let n = locks-shown d st s w i h in
      λ j. (is_nothing m, NothingAsked) ∷ (l j, ParentNotHeld) ∷ (not (is_some (o j)) && leb MAX_LOCKS (n j), TooManyLocks) ∷ []

  -- the tests of a conversion are those of the state
  convert-shown : (r : List ℕ) (m : Mode) → convert_tests d s r m
      ≡ (is_nothing m, NothingAsked) ∷ (not (is_some (rules.held_mode st.table s r)), NotHeld) ∷ (lacks_parent st.table s r (target_of (rules.held_mode st.table s r) m), ParentNotHeld) ∷ []
  convert-shown r m =
      let l = target-shown d st s r m h in
      let o = mode-shown d st s r h in
      λ j. (is_nothing m, NothingAsked) ∷ (not (is_some (o j)), NotHeld) ∷ (l j, ParentNotHeld) ∷ []

  -- the tests of a release are those of the state
  release-shown : (r : List ℕ) → release_tests d s r ≡ (not (is_some (rules.held_mode st.table s r)), NotHeld) ∷ (holds_child st.table s r, ChildHeld) ∷ []
  release-shown r =
      let o = mode-shown d st s r h in
      let f = child-shown d st s r w i h in
      λ j. (not (is_some (o j)), NotHeld) ∷ (f j, ChildHeld) ∷ []

  -- the test whether a request would wait is that of the state, for any target
  wait-shown : (r : List ℕ) (k : Mode) → would_wait d s r k ≡ step.would_wait st.table s r k
  wait-shown r k =
      let o = mode-shown d st s r h in
      let g = ap (can_grant (in_mode s k)) (h.views r) ∙ sym (granted-seen s r k st.table) in
      λ j. not (is_held (o j) k) && not (g j)

  -- the tests of a try are those of the state
  try-shown : (r : List ℕ) (m : Mode) → try_tests d s r m
      ≡ (is_nothing m, NothingAsked) ∷ (lacks_parent st.table s r (target_of (rules.held_mode st.table s r) m), ParentNotHeld) ∷ (not (is_some (rules.held_mode st.table s r)) && leb MAX_LOCKS (length (rules.claims_of s st.table.held)), TooManyLocks)
      ∷ (step.would_wait st.table s r (target_of (rules.held_mode st.table s r) m), WouldWait) ∷ []
  try-shown r m =
      let l = lock-shown r m in
      let b = ap (λ (o : Option Mode). would_wait d s r (target_of o m)) (mode-shown d st s r h) ∙ wait-shown r (target_of (rules.held_mode st.table s r) m) in
      λ j. l j ++ (b j, WouldWait) ∷ []

  -- the tests of a call by the lock table are those by the state
  pub tests-shown : (c : Call) → call_tests d s c ≡ tests st s c
  tests-shown Begin = ap (λ (b : Bool). (b, AlreadyOpen) ∷ []) (open-shown d st s h)
  tests-shown (Lock r m) = standing-shown _ _ (lock-shown r m)
  tests-shown (Convert r m) = standing-shown _ _ (convert-shown r m)
  tests-shown Poll = ap (λ (b : Bool). (not b, NoTransaction) ∷ []) (open-shown d st s h)
  tests-shown (Release r) = standing-shown _ _ (release-shown r)
  tests-shown Commit = standing-shown [] [] refl
  tests-shown Abort = ap (λ (b : Bool). (not b, NoTransaction) ∷ []) (open-shown d st s h)
  tests-shown (Try r m) = standing-shown _ _ (try-shown r m)
  tests-shown Withdraw = let a = open-shown d st s h in let b = waits-shown d st s w h in let k = doom-shown d st s h in λ j. (not (a j), NoTransaction) ∷ (k j, IsDoomed) ∷ (not (b j), NotWaiting) ∷ []
  tests-shown Restart = ap (λ (b : Bool). (not b, NoTransaction) ∷ []) (open-shown d st s h)

-- what a call may assume once its tests are passed

-- the session holds the parent if the test of the parent passes
under-parent-held : (d : LockTable) (s : ℕ) (r : List ℕ) (m : Mode) → IsWhole d → is_nothing m ≡ false → lacks_need d s r (target_of (mode_held d s r) m) ≡ false → IsUnder (standing s d).held r
under-parent-held d s r m w something under has =
    let u = under-parent (has_parent r) (target_of (mode_held d s r) m) (mode_held d s (parent_of r)) (sup-some (rules.mode_or_nothing (mode_held d s r)) m something) under has in
    held-locker s (parent_of r) d w ∙ ap is_some u.1

-- a lock that passes its tests may request its resource
pub lock-may : (d : LockTable) (s : ℕ) (r : List ℕ) (m : Mode) → IsWhole d → first_failing (call_tests d s (Lock r m)) ≡ None → MayAsk s r m d
lock-may d s r m w h =
    let p = all-pass (call_tests d s (Lock r m)) h in
    record {
      can = record { idle = is-none (standing s d).wanted p.1.0; few = p.1.1.1.1.1.0; under = under-parent-held d s r m w p.1.1.1.0 p.1.1.1.1.0 };
      opened = not-false (is_some (standing s d).transaction) p.0;
      sound = p.1.1.0;
      something = p.1.1.1.0;
      under = p.1.1.1.1.0;
    }

-- a try that passes its tests may request its resource
pub try-may : (d : LockTable) (s : ℕ) (r : List ℕ) (m : Mode) → IsWhole d → first_failing (call_tests d s (Try r m)) ≡ None → MayAsk s r m d
try-may d s r m w h = lock-may d s r m w (front-passes (call_tests d s (Lock r m)) ((would_wait d s r (target_of (mode_held d s r) m), WouldWait) ∷ []) h)

-- a conversion that passes its tests may request its resource
pub convert-may : (d : LockTable) (s : ℕ) (r : List ℕ) (m : Mode) → IsWhole d → first_failing (call_tests d s (Convert r m)) ≡ None → MayAsk s r m d
convert-may d s r m w h =
    let p = all-pass (call_tests d s (Convert r m)) h in
    record {
      can = record { idle = is-none (standing s d).wanted p.1.0; few = held (is_some (mode_held d s r)) p.1.1.1.1.0; under = under-parent-held d s r m w p.1.1.1.0 p.1.1.1.1.1.0 };
      opened = not-false (is_some (standing s d).transaction) p.0;
      sound = p.1.1.0;
      something = p.1.1.1.0;
      under = p.1.1.1.1.1.0;
    }
  where
    held : (b : Bool) → not b ≡ false → (not b && leb MAX_LOCKS (length (standing s d).held)) ≡ false
    held true e = refl
    held false e = absurd (cc)

-- a release that passes its tests may release: the session does not wait, and holds the resource and nothing below it
pub release-can : (d : LockTable) (s : ℕ) (r : List ℕ) → first_failing (call_tests d s (Release r)) ≡ None → CanRelease s r d
release-can d s r h =
    let p = all-pass (call_tests d s (Release r)) h in
    record {
      idle = is-none (standing s d).wanted p.1.0;
      held = not-false (is_some (mode_held d s r)) p.1.1.1.0;
      free = p.1.1.1.1.0;
    }

-- a session that does not wait in the lock table does not wait in the state
pub idle-shown : (d : LockTable) (st : rules.State) (s : ℕ) → IsWhole d → Shows d st → (standing s d).wanted ≡ None → rules.request_of s st.table.requests ≡ None
idle-shown d st s w h idle = is-none (rules.request_of s st.table.requests) (sym (waits-shown d st s w h) ∙ ap is_some idle)

-- a request

-- its target is the one of the state
pub same-target : (d : LockTable) (st : rules.State) (s : ℕ) (r : List ℕ) (asks m : Mode) → Shows d st → m ≡ target_of (mode_held d s r) asks → target_of (rules.held_mode st.table s r) asks ≡ m
same-target d st s r asks m h target = ap (λ (o : Option Mode). target_of o asks) (sym (mode-shown d st s r h)) ∙ sym target

-- it is granted in the table exactly if it is in the state
pub granted-is : (d e : LockTable) (st : rules.State) (s : ℕ) (r : List ℕ) (m : Mode) → Shows d st → (b : Bool) → HasAsked s r m b d e → is_granted_at_once st.table s r m ≡ b
granted-is d e st s r m h b k = granted-seen s r m st.table ∙ (sym (ap (can_grant (in_mode s m)) (h.views r)) ∙ sym k.granted_is)

module _ (d e : LockTable) (st : rules.State) (s : ℕ) (r : List ℕ) (asks m : Mode) (w : IsWhole d) (i : IsSound st.table) (h : Shows d st) (may : MayAsk s r asks d) (target : m ≡ target_of (mode_held d s r) asks) where
  -- the session has no request in the state
  none-waits : rules.request_of s st.table.requests ≡ None
  none-waits = idle-shown d st s w h may.can.idle

  -- its transaction is not doomed in the state
  sound : rules.is_doomed st s ≡ false
  sound = sym (doom-shown d st s h) ∙ may.sound

  -- it holds the target exactly if it does in the state
  held-so : (b : Bool) → is_held (mode_held d s r) m ≡ b → is_held (rules.held_mode st.table s r) m ≡ b
  held-so b k = ap (λ (o : Option Mode). is_held o m) (sym (mode-shown d st s r h)) ∙ k

  -- if it does, the state does not change
  asked-held : is_held (mode_held d s r) m ≡ true → after_asking st s r m ≡ st
  asked-held k = ap (λ (b : Bool). cond b st (cond (is_granted_at_once st.table s r m) (rules.with_table (after_grant s r m st.table) st) (after_wait st s r m))) (held-so true k)

  -- if it does not, the request is granted or begins to wait
  asked-more : is_held (mode_held d s r) m ≡ false → after_asking st s r m ≡ cond (is_granted_at_once st.table s r m) (rules.with_table (after_grant s r m st.table) st) (after_wait st s r m)
  asked-more k = ap (λ (b : Bool). cond b st (cond (is_granted_at_once st.table s r m) (rules.with_table (after_grant s r m st.table) st) (after_wait st s r m))) (held-so false k)

  -- the reply by the standing of the session in a state
  abbrev reply-in : rules.State → Reply
  reply-in x = cond (rules.is_doomed x s) Deadlock (cond (rules.is_waiting x s) Waiting (Granted m))

  -- a session that is neither doomed nor waits is answered by the grant
  reply-granted : (x : rules.State) → rules.is_doomed x s ≡ false → rules.request_of s x.table.requests ≡ None → reply-in x ≡ Granted m
  reply-granted x a b = ap (λ (c : Bool). cond c Deadlock (cond (rules.is_waiting x s) Waiting (Granted m))) a ∙ ap (λ (o : Option rules.Claim). cond (is_some o) Waiting (Granted m)) b

  -- the lock table represents the state after the grant, or after the request is queued
  first-shown : (b : Bool) → HasAsked s r m b d e → Shows e (first_state st s r m b)
  first-shown b k = record {
    count = k.count ∙ h.count;
    transactions = λ u. k.transactions u ∙ h.transactions u;
    views = λ q. k.views q ∙ (ap (λ (v : View). cond (same_path r q) (view_after_asking (in_mode s m) v) (view_at q d)) (h.views r)
        ∙ (ap (cond (same_path r q) (view_after_asking (in_mode s m) (view r st.table))) (h.views q)
        ∙ sym (first-seen st s r q m b (k.granted_is ∙ ap (can_grant (in_mode s m)) (h.views r)) i none-waits)));
  }

  -- the answer of the request, by the state after it
  answered : (x : rules.State) → after_asking st s r m ≡ x → Shows e x → (reply : Reply) → reply ≡ reply-in x → DoesAnswer (ask st s r (target_of (rules.held_mode st.table s r) asks)) e reply
  answered x is shows reply told = subst (λ (k : Mode). DoesAnswer (ask st s r k) e reply) (sym (same-target d st s r asks m h target)) (told ∙ ap reply-in (sym is), subst (Shows e) (sym is) shows)

  -- a request that is granted, or whose target is held already, is answered as in the state
  pub granted-answer : (is_held (mode_held d s r) m ≡ true → IsSameSeen d e) → (is_held (mode_held d s r) m ≡ false → HasAsked s r m true d e) → DoesAnswer (ask st s r (target_of (rules.held_mode st.table s r) asks)) e (Granted m)
  granted-answer held more = elim (cases_Bool (is_held (mode_held d s r) m)) [
    | inl y ↦ answered st (asked-held y) (let same = held y in record {
      count = same.count ∙ h.count;
      transactions = λ u. ap (λ ss. (standing_at u ss).transaction) same.standings_same ∙ h.transactions u;
      views = λ q. same.views q ∙ h.views q;
    }) (Granted m) (sym (reply-granted st sound none-waits))
    | inr n ↦
        let k = more n in
        answered (first_state st s r m true) (asked-more n ∙ ap (λ (b : Bool). cond b (rules.with_table (after_grant s r m st.table) st) (after_wait st s r m)) (granted-is d e st s r m h true k)) (first-shown true k) (Granted m)
        (sym (reply-granted (first_state st s r m true) sound (request_of-claims_but s st.table.requests)))
  ]

  -- a request that waits
  module _ (more : is_held (mode_held d s r) m ≡ false) (k : HasAsked s r m false d e) where
    -- the lock table represents the state after the request is queued
    pub waits-shown_first : Shows e (first_state st s r m false)
    waits-shown_first = first-shown false k

    stands : Stands st.table s r m
    stands =
        let under : lacks_parent st.table s r m ≡ false = ap (lacks_parent st.table s r) (sym (same-target d st s r asks m h target)) ∙ (sym (target-shown d st s r asks h) ∙ may.under) in
        let something : is_nothing m ≡ false = ap is_nothing (sym (same-target d st s r asks m h target)) ∙ sup-some (rules.mode_or_nothing (rules.held_mode st.table s r)) asks may.something in
        (under, something)

    raising : at_or_below (rules.mode_or_nothing (rules.held_mode st.table s r)) m ≡ true
    raising = ap (at_or_below (rules.mode_or_nothing (rules.held_mode st.table s r))) (sym (same-target d st s r asks m h target)) ∙ below-sup (rules.mode_or_nothing (rules.held_mode st.table s r)) asks

    -- the table of the rules stays sound
    pub waits-sound : IsSound (with_request s r m st.table)
    waits-sound = begins-sound s r m st.table i none-waits raising stands

    -- transactions stay numbered as they are
    pub waits-numbered : IsNumbered st → IsNumbered (first_state st s r m false)
    waits-numbered j = waiting-numbered st s r m j (sym (open-shown d st s h) ∙ may.opened)

    asked-waits : after_asking st s r m ≡ after_victims (length st.table.requests + 2) s (first_state st s r m false)
    asked-waits = asked-more more ∙ ap (λ (b : Bool). cond b (rules.with_table (after_grant s r m st.table) st) (after_wait st s r m)) (granted-is d e st s r m h false k)

    -- it is answered as in the state after deadlocks are resolved
    pub waits-answer : (n : ℕ) (last : LockTable) → length (with_request s r m st.table).requests < n → IsWhole last → Shows last (after_victims n s (first_state st s r m false)) → (reply : Reply)
        → reply ≡ cond (rules.doomed_in (standing s last).transaction) Deadlock (cond (is_some (standing s last).wanted) Waiting (Granted m)) → DoesAnswer (ask st s r (target_of (rules.held_mode st.table s r) asks)) last reply
    waits-answer n last few whole shows reply told =
        let len = length-append st.table.requests (record { session = s; resource = r; mode = m } ∷ []) in
        let is = asked-waits ∙ settled-enough (length st.table.requests + 2) n s (first_state st s r m false) waits-sound (omega (arith, len)) few in
        let x = after_victims n s (first_state st s r m false) in
        let a = doom-shown last (after_victims n s (first_state st s r m false)) s shows in
        let b = waits-shown last (after_victims n s (first_state st s r m false)) s whole shows in
        subst (λ (t : Mode). DoesAnswer (ask st s r t) last reply) (sym (same-target d st s r asks m h target))
        (told ∙ ((λ j. cond (a j) Deadlock (cond (b j) Waiting (Granted m))) ∙ ap reply-in (sym is)), subst (Shows last) (sym is) shows)

-- the end of a transaction, and a restart

-- after a session gives up all that it had, the lock table represents the state with its transaction changed
given_up-shown : (after : Option Transaction → Option Transaction) (d e : LockTable) (st : rules.State) (s : ℕ) → IsSound st.table → HasGivenUpAll after s d e → Shows d st → Shows e (rules.with_begun s (after (st.begun s)) (rules.with_table (after_end s st.table) st))
given_up-shown after d e st s i k h = record {
  count = k.count ∙ h.count;
  transactions = λ u. k.transactions u ∙ (ap (λ (o : Option Transaction). cond (eqb u s) (after o) o) (h.transactions u) ∙ named u (eqb u s) refl);
  views = λ q. k.views q ∙ (ap (view_after_end s) (h.views q) ∙ sym (ended-seen s st.table i q));
}
  where
    named : (u : ℕ) (b : Bool) → eqb u s ≡ b → cond b (after (st.begun u)) (st.begun u) ≡ cond b (after (st.begun s)) (st.begun u)
    named u true e = ap (λ (w : ℕ). after (st.begun w)) ((Decides-eqb u s).0 e)
    named u false e = refl

-- after a commit or an abort, the lock table represents the next state
pub ended-shown : (d e : LockTable) (st : rules.State) (s : ℕ) → IsSound st.table → HasEnded s d e → Shows d st → Shows e (rules.with_begun s None (rules.with_table (after_end s st.table) st))
ended-shown = given_up-shown (λ o. None)

-- after a restart, the lock table represents the next state
pub restarted-shown : (d e : LockTable) (st : rules.State) (s : ℕ) → IsSound st.table → HasRestarted s d e → Shows d st → Shows e (rules.with_begun s (restarted (st.begun s)) (rules.with_table (after_end s st.table) st))
restarted-shown = given_up-shown restarted

-- a withdrawal

-- after a request is taken back, the lock table represents the next state
pub cancelled-shown : (d e : LockTable) (st : rules.State) (s : ℕ) → IsSound st.table → HasCancelled s d e → Shows d st → Shows e (rules.with_table (after_cancel s st.table) st)
cancelled-shown d e st s i k h = record {
  count = k.count ∙ h.count;
  transactions = λ u. k.transactions u ∙ h.transactions u;
  views = λ q. k.views q ∙ (ap (view_after_cancel s) (h.views q) ∙ sym (cancelled-seen s st.table i q));
}

-- a release

-- after a release, the lock table represents the next state
pub released-shown : (d e : LockTable) (st : rules.State) (s : ℕ) (r : List ℕ) → IsSound st.table → IsWhole d → CanRelease s r d → HasFreed claim.Lock s r d e → Shows d st → Shows e (act st s (Release r)).state
released-shown d e st s r i w can k h = record {
  count = k.count ∙ h.count;
  transactions = λ u. k.transactions u ∙ h.transactions u;
  views = λ q. k.views q ∙ (ap (λ (v : View). cond (same_path r q) (view_after_freeing claim.Lock s v) (view_at q d)) (h.views r)
      ∙ (ap (cond (same_path r q) (view_after_freeing claim.Lock s (view r st.table))) (h.views q)
      ∙ sym (released-seen s r st.table i (sym (child-shown d st s r w i h) ∙ can.free) (idle-shown d st s w h can.idle) q)));
}

-- a lock table with the same count, standings and views represents the same state
pub same-shown : (d e : LockTable) (st : rules.State) → IsSameSeen d e → Shows d st → Shows e st
same-shown d e st k h = record {
  count = k.count ∙ h.count;
  transactions = λ u. ap (λ (ss : List Standing). (standing_at u ss).transaction) k.standings_same ∙ h.transactions u;
  views = λ q. k.views q ∙ h.views q;
}

-- the begin of a transaction

-- after a begin, the lock table represents the next state
pub begun-shown : (d e : LockTable) (st : rules.State) (s : ℕ) → HasBegun s d e → Shows d st → Shows e (act st s Begin).state
begun-shown d e st s k h = record {
  count = k.count ∙ ap (λ n. n + 1) h.count;
  transactions = λ u. k.transactions u ∙ (ap (λ (n : ℕ). cond (eqb u s) (Some (record { number = n + 1; doomed = false })) (standing u d).transaction) h.count
      ∙ ap (cond (eqb u s) (Some (record { number = st.count + 1; doomed = false }))) (h.transactions u));
  views = λ q. k.views q ∙ h.views q;
}

-- replies

-- a call whose tests fail is refused as in the state, and changes nothing
pub refused-step : (d : LockTable) (st : rules.State) (s : ℕ) (c : Call) (why : Why) → IsWhole d → IsSound st.table → Shows d st → Some why ≡ first_failing (call_tests d s c) → DoesAnswer (step st s c) d (Refused why)
refused-step d st s c why w i h e = subst (λ (o : Option Why). (Refused why ≡ (outcome_of o st s c).reply) × Shows d (outcome_of o st s c).state) (e ∙ ap first_failing (tests-shown d st s w i h c)) (refl, h)

-- a call whose tests pass is answered by its effect
pub passed-step : (d e : LockTable) (st : rules.State) (s : ℕ) (c : Call) (reply : Reply) → IsWhole d → IsSound st.table → Shows d st → None ≡ first_failing (call_tests d s c) → DoesAnswer (act st s c) e reply → DoesAnswer (step st s c) e reply
passed-step d e st s c reply w i h none acted = subst (λ (o : Option Why). (reply ≡ (outcome_of o st s c).reply) × Shows e (outcome_of o st s c).state) (none ∙ ap first_failing (tests-shown d st s w i h c)) acted

-- the same for a result that may be a failure, which answers nothing
pub passed-steps : {E : Type 0} (d e : LockTable) (st : rules.State) (s : ℕ) (c : Call) (result : Result Reply E) → IsWhole d → IsSound st.table → Shows d st → None ≡ first_failing (call_tests d s c) → IfOk result (DoesAnswer (act st s c) e) → IfOk result (DoesAnswer (step st s c) e)
passed-steps d e st s c result w i h none acted = subst (λ (o : Option Why). IfOk result (λ (reply : Reply). (reply ≡ (outcome_of o st s c).reply) × Shows e (outcome_of o st s c).state)) (none ∙ ap first_failing (tests-shown d st s w i h c)) acted
