-- A doom stands until its session aborts or restarts.
use Rattle.std.proofs.Common.{◌≡◌, ◌≢◌, ℕ, zero, suc, ◌+◌, Bool, true, false, cond, eqb, List, [], ◌∷◌, length, Option, Some, None, is_some, refl, sym, ◌∙◌, ap}
use Rattle.std.specs.List.{All}
use Rattle.std.proofs.lemmas.Bool.Decides.{Decides-eqb}
use Rattle.std.proofs.lemmas.List.Elements.{All-head, All-tail}
use Rattle.lock_modes.specs.declared.Mode.{Mode}
use Rattle.lock_rules.specs.declared.calls.Call.{Call}
use Rattle.lock_rules.specs.declared.calls.Call.TheVariants.{Begin, Lock, Convert, Poll, Release, Commit, Abort, Try, Withdraw, Restart}
use Rattle.lock_rules.specs.declared.calls.Why.{Why}
use Rattle.lock_rules.specs.Entries.{Entry}
use Rattle.lock_rules.specs.declared.calls.Transaction.{Transaction}
use Rattle.lock_rules.specs.State.{State, held_mode, is_open, is_doomed, doomed_in, with_table}
use Rattle.lock_rules.specs.Queue.{after_grant, with_request, is_granted_at_once}
use Rattle.lock_rules.specs.Waits.{doom, reaches, victim_of, after_victim, after_victims}
use Rattle.lock_rules.specs.Step.{target_of, tests, first_failing, is_held, after_wait, after_asking, restarted, act, outcome_of, step}
use Rattle.lock_rules.specs.Legal.{state_after, state_of}
use Rattle.lock_rules.specs.Laws.{DoesKeepDoom, DoesDoomStand}
use Rattle.lock_rules.proofs.Alters.{true≢false}
use Rattle.lock_rules.proofs.Steps.{all-pass}
use Rattle.lock_rules.proofs.Histories.{state_after-append}

module _ (s : ℕ) (x : Transaction) (doomed : x.doomed ≡ true) where
  -- a doom of a doomed transaction changes nothing
  doom-again : doom (Some x) ≡ Some x
  doom-again = λ i. Some (record { number = x.number; doomed = (sym doomed) i })

  -- another victim leaves the doomed transaction
  victim-begun : (v : ℕ) (st : State) → st.begun s ≡ Some x → (after_victim v st).begun s ≡ Some x
  victim-begun v st e = go (eqb s v) refl
    where
      go : (b : Bool) → eqb s v ≡ b → cond b (doom (st.begun v)) (st.begun s) ≡ Some x
      go true f = ap (λ (u : ℕ). doom (st.begun u)) (sym ((Decides-eqb s v).0 f)) ∙ (ap doom e ∙ doom-again)
      go false f = e

  -- the choice of victims leaves the doomed transaction
  settled-begun : (n u : ℕ) (st : State) → st.begun s ≡ Some x → (after_victims n u st).begun s ≡ Some x
  settled-begun zero u st e = e
  settled-begun (suc n) u st e = go (reaches st.table u u) (settled-begun n u (after_victim (victim_of st u) st) (victim-begun (victim_of st u) st e))
    where
      go : (b : Bool) → (after_victims n u (after_victim (victim_of st u) st)).begun s ≡ Some x → (cond b (after_victims n u (after_victim (victim_of st u) st)) st).begun s ≡ Some x
      go true k = k
      go false k = e

  -- a request leaves the doomed transaction
  asked-begun : (st : State) (u : ℕ) (r : List ℕ) (m : Mode) → st.begun s ≡ Some x → (after_asking st u r m).begun s ≡ Some x
  asked-begun st u r m e = go (is_held (held_mode st.table u r) m) (is_granted_at_once st.table u r m)
    where
      go : (b g : Bool) → (cond b st (cond g (with_table (after_grant u r m st.table) st) (after_wait st u r m))).begun s ≡ Some x
      go true g = e
      go false true = e
      go false false = settled-begun (length st.table.requests + 2) u (with_table (with_request u r m st.table) st) e

  -- the begin, end or restart of another session's transaction leaves the doomed one
  other-begun : (st : State) (u : ℕ) (o : Option Transaction) → u ≢ s → st.begun s ≡ Some x → cond (eqb s u) o (st.begun s) ≡ Some x
  other-begun st u o n e = go (eqb s u) refl
    where
      go : (b : Bool) → eqb s u ≡ b → cond b o (st.begun s) ≡ Some x
      go true f = absurd (n (sym ((Decides-eqb s u).0 f)))
      go false f = e

  -- every call but its own abort or restart leaves it: its session can't begin another, and can't commit it
  act-begun : (st : State) (u : ℕ) (c : Call) → first_failing (tests st u c) ≡ None → (u ≡ s → (c ≢ Abort) × (c ≢ Restart)) → st.begun s ≡ Some x → (act st u c).state.begun s ≡ Some x
  act-begun st u Begin h n e = other-begun st u (Some (record { number = st.count + 1; doomed = false })) (λ f. opened f) e
    where
      opened : u ≡ s → ⊥
      opened f = let p = all-pass (tests st u Begin) h in true≢false (ap (λ (w : ℕ). is_open st w) f ∙ ap (λ (o : Option Transaction). is_some o) e) p.0
  act-begun st u (Lock r m) h n e = asked-begun st u r (target_of (held_mode st.table u r) m) e
  act-begun st u (Convert r m) h n e = asked-begun st u r (target_of (held_mode st.table u r) m) e
  act-begun st u Poll h n e = e
  act-begun st u (Release r) h n e = e
  act-begun st u Commit h n e = other-begun st u None (λ f. victim f) e
    where
      victim : u ≡ s → ⊥
      victim f = let p = all-pass (tests st u Commit) h in true≢false (ap (λ (w : ℕ). is_doomed st w) f ∙ (ap doomed_in e ∙ doomed)) p.1.1.0
  act-begun st u Abort h n e = other-begun st u None (λ f. (n f).0 refl) e
  act-begun st u (Try r m) h n e = asked-begun st u r (target_of (held_mode st.table u r) m) e
  act-begun st u Withdraw h n e = e
  act-begun st u Restart h n e = other-begun st u (restarted (st.begun u)) (λ f. (n f).1 refl) e

  -- every call but its session's abort or restart leaves the doomed transaction, refused or not
  step-begun : (st : State) (u : ℕ) (c : Call) → (u ≡ s → (c ≢ Abort) × (c ≢ Restart)) → st.begun s ≡ Some x → (step st u c).state.begun s ≡ Some x
  step-begun st u c n e = go (first_failing (tests st u c)) refl
    where
      go : (o : Option Why) → first_failing (tests st u c) ≡ o → (outcome_of o st u c).state.begun s ≡ Some x
      go None h = act-begun st u c h n e
      go (Some w) h = e

  -- a list of calls without its session's abort or restart leaves the doomed transaction
  after-begun : (es : List Entry) (st : State) → All (DoesKeepDoom s) es → st.begun s ≡ Some x → (state_after st es).begun s ≡ Some x
  after-begun [] st n e = e
  after-begun (f ∷ es) st n e = after-begun es (step st f.session f.call).state (All-tail (DoesKeepDoom s) f es n) (step-begun st f.session f.call (All-head (DoesKeepDoom s) f es n) e)

-- a doom stands, as the law states it
pub doom-stands : (front rest : List Entry) → DoesDoomStand front rest
doom-stands front rest s x e d n = ap (λ (st : State). st.begun s) (state_after-append front rest (state_of [])) ∙ after-begun s x d rest (state_of front) n e
