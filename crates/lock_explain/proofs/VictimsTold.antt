-- The victims that an explanation tells are on the cycle that it tells.
use Rattle.std.proofs.Common.{◌≡◌, ℕ, ◌+◌, ◌<◌, ◌≤◌, Bool, true, false, cond, not, eqb, inr, List, [], Option, Some, None, IfSome, IfNone, Contains, refl, sym, ◌∙◌, ap, arith, subst}
use Rattle.std.specs.List.{All, flat_map, range_with_len}
use Rattle.std.proofs.lemmas.Bool.{and_parts, and_from, not-true}
use Rattle.lock_rules.specs.declared.calls.Call.{Call}
use Rattle.lock_rules.specs.declared.calls.Call.TheVariants.{Begin, Lock, Convert, Poll, Release, Commit, Abort, Try, Withdraw, Restart}
use Rattle.lock_rules.specs.declared.calls.Transaction.{Transaction}
use Rattle.lock_rules.specs.declared.calls.Why.{Why}
use Rattle.lock_rules.specs.Entries.{Entry}
use Rattle.lock_rules.specs.State.{Claim, State, doomed_in, is_doomed}
use Rattle.lock_rules.specs.Waits.{reaches}
use Rattle.lock_rules.specs.Step.{tests, first_failing, restarted, act, outcome_of, step}
use Rattle.lock_rules.specs.Legal.{state_of}
use Rattle.lock_rules.specs.Laws.{AreVictims}
use Rattle.lock_rules.proofs.Alters.{true≢false}
use Rattle.lock_rules.proofs.Settle.{reaches-walk}
use Rattle.lock_rules.proofs.Idle.{restarted-lives}
use Rattle.lock_rules.proofs.KeptCycles.{victims-on}
use Rattle.sequential.specs.Histories.{IsEntryWithin}
use Rattle.sequential.proofs.Members.{Member, contains-member, member-contains}
use Rattle.lock_explain.specs.declared.explanation.Explanation.{Explanation}
use Rattle.lock_explain.specs.declared.explanation.Party.{Party}
use Rattle.lock_explain.specs.declared.explanation.Wait.{Wait}
use Rattle.lock_explain.specs.Cycles.{is_on_cycle, party_on_cycle, cycle_of}
use Rattle.lock_explain.specs.Endings.{is_new_victim}
use Rattle.lock_explain.specs.Explanations.{IsExplanation, IsWaitOfCall, AreVictimsOnCycleTold, cycle_told}
use Rattle.lock_explain.specs.Waiting.{BeginsToWait, request_made, party_of, waiting_state}
use Rattle.lock_explain.proofs.Beginnings.{tells-wait}
use Rattle.lock_explain.proofs.ChosenVictims.{chosen, member-among, sessions_of}
use Rattle.lock_explain.proofs.FallingVictims.{victims-number}
use Rattle.lock_explain.proofs.ForSessions.{session-member, there}
use Rattle.lock_explain.proofs.OnCycle.{no-members}

-- the members of a cycle

-- a session on a cycle with s, of those from a on, is listed
pub on-listed : (st : State) (s a n u : ℕ) → a ≤ u → u < a + n → is_on_cycle st s u ≡ true → Member (party_of st u) (flat_map (party_on_cycle st s) (range_with_len a n))
on-listed st s a n u from below on = session-member (party_on_cycle st s) (party_of st u) a n u from below (there (is_on_cycle st s u) (party_of st u) on)

-- a call that makes no request makes no victim

module _ (st : State) (s u : ℕ) (n : is_doomed st u ≡ false) where
  -- the transaction of s is new, ended or restarted
  replaced : (o : Option Transaction) → doomed_in o ≡ false → doomed_in (cond (eqb u s) o (st.begun u)) ≡ false
  replaced o h = go (eqb u s)
    where
      go : (b : Bool) → doomed_in (cond b o (st.begun u)) ≡ false
      go true = h
      go false = n

  -- a call that passes its tests
  acts-clear : (c : Call) → request_made st s c ≡ None → is_doomed (act st s c).state u ≡ false
  acts-clear Begin e = replaced (Some (record { number = st.count + 1; doomed = false })) refl
  acts-clear (Lock r m) e = absurd (cc)
  acts-clear (Convert r m) e = absurd (cc)
  acts-clear Poll e = n
  acts-clear (Release r) e = n
  acts-clear Commit e = replaced None refl
  acts-clear Abort e = replaced None refl
  acts-clear (Try r m) e = absurd (cc)
  acts-clear Withdraw e = n
  acts-clear Restart e = replaced (restarted (st.begun s)) (restarted-lives (st.begun s))

  -- and one that is refused
  call-clear : (c : Call) → request_made st s c ≡ None → is_doomed (step st s c).state u ≡ false
  call-clear c e = go (first_failing (tests st s c))
    where
      go : (o : Option Why) → is_doomed (outcome_of o st s c).state u ≡ false
      go None = acts-clear c e
      go (Some w) = n

-- a call that makes a victim begins to wait
victim-begins : (n : ℕ) (st : State) (s : ℕ) (c : Call) (u : ℕ) → 1 ≤ u → u ≤ n → is_new_victim st (step st s c).state u ≡ true → (q : Claim) × BeginsToWait st s c q
victim-begins n st s c u some most new = go (request_made st s c) refl
  where
    go : (o : Option Claim) → request_made st s c ≡ o → (q : Claim) × BeginsToWait st s c q
    go (Some q) e = (q, tells-wait n st s c q e (inr (record { victim = u; some = some; within = most; new = new })))
    go None e =
        let p = and_parts (not (is_doomed st u)) (is_doomed (step st s c).state u) new in
        absurd (true≢false p.1 (call-clear st s u (not-true (is_doomed st u) p.0) c e))

-- the victims told

module _ (n s : ℕ) (history : List Entry) (c : Call) (a : All (IsEntryWithin n) history) (some : 1 ≤ s) (most : s ≤ n) (e : Explanation) (told : IsExplanation n (state_of history) s c e) where
  -- with the cycle that a wait tells
  with-wait : (w : Wait) → IsWaitOfCall n (state_of history) s c w → ((p : Party) → Contains e.victims.items p → Contains w.cycle.items p) × (e.victims.items ≡ [] → w.cycle.items ≡ [])
  with-wait w i = (
    λ p m. (
        let v = (told.victims.listed p).0 m in
        let c = victims-on s (sessions_of e.victims.items) (waiting_state (state_of history) i.request) after victims p.session (member-among p e.victims.items (contains-member p e.victims.items m)) in
        let on = and_from (reaches start.table s p.session) (reaches start.table p.session s) (reaches-walk start.table s p.session c.there) (reaches-walk start.table p.session s c.back) in
        let same : p ≡ party_of start p.session = v.3 ∙ ap (λ (k : ℕ). record { session = p.session; transaction = k }) (victims-number s (sessions_of e.victims.items) start after victims p.session) in
        let member = on-listed start s 1 n p.session v.0 (omega (arith, v.1)) on in
        member-contains p w.cycle.items (rw i.cycle (subst (λ (x : Party). Member x (cycle_of n start s)) (sym same) member))),
    λ none. i.cycle ∙ no-members start s (subst (λ (ps : List Party). AreVictims s (sessions_of ps) start after) none victims).0 n,
  )
    where
      start : State
      start = waiting_state (state_of history) i.request

      after : State
      after = (step (state_of history) s c).state

      victims : AreVictims s (sessions_of e.victims.items) (waiting_state (state_of history) i.request) (step (state_of history) s c).state
      victims = chosen n s history c i.request e.victims.items a some most i.begins told.victims

  -- each is on the cycle told, and with no victim none is told
  pub victims-told : AreVictimsOnCycleTold e
  victims-told = go e.wait refl told.wait told.no_wait
    where
      go : (o : Option Wait) → e.wait ≡ o → IfSome o (IsWaitOfCall n (state_of history) s c) → IfNone o ((q : Claim) → BeginsToWait (state_of history) s c q → ⊥) → AreVictimsOnCycleTold e
      go (Some w) f i none = let r = with-wait w i in record {
        on_cycle = λ p m. subst (λ (o : Option Wait). Contains (cycle_told o) p) (sym f) (r.0 p m);
        no_victim = λ h. ap cycle_told f ∙ r.1 h;
      }
      go None f i none = record {
        on_cycle = λ p m. (let v = (told.victims.listed p).0 m in let b = victim-begins n (state_of history) s c p.session v.0 v.1 v.2 in absurd (none b.0 b.1));
        no_victim = λ h. ap cycle_told f;
      }
