-- Victims are on the cycles that a request closes, and each of these cycles has a victim on it.
use Rattle.std.proofs.Common.{◌≡◌, ℕ, suc, ◌+◌, Bool, true, false, cond, not, eqb, ◌&&◌, inl, inr, List, [], ◌∷◌, Option, Some, None, refl, sym, ◌∙◌, ap, arith, Contains}
use Rattle.std.proofs.lemmas.Bool.{and_from, or_cases, or_parts, cases_Bool}
use Rattle.std.proofs.lemmas.Bool.Decides.{Decides-eqb}
use Rattle.lock_modes.specs.declared.Mode.{Mode}
use Rattle.waits_for.specs.Walks.{IsWalk, Reaches}
use Rattle.lock_rules.specs.declared.calls.Call.{Call}
use Rattle.lock_rules.specs.declared.calls.Call.TheVariants.{Begin, Lock, Convert, Poll, Release, Commit, Abort, Try, Withdraw, Restart}
use Rattle.lock_rules.specs.declared.calls.Transaction.{Transaction}
use Rattle.lock_rules.specs.declared.calls.Why.{Why}
use Rattle.lock_rules.specs.Entries.{Entry}
use Rattle.lock_rules.specs.State.{Table, State, held_mode, request_of, doomed_in, is_doomed, with_table}
use Rattle.lock_rules.specs.Queue.{after_grant, is_granted_at_once}
use Rattle.lock_rules.specs.Waits.{waits_for, doom, resource_of_request, without_request, after_cancel, after_victim}
use Rattle.lock_rules.specs.Step.{target_of, would_wait, tests, first_failing, is_held, after_wait, after_asking, restarted, act, outcome_of, step}
use Rattle.lock_rules.specs.Legal.{state_of}
use Rattle.lock_rules.specs.Laws.{HasNoCircle, AreVictims}
use Rattle.lock_rules.specs.Effects.{IsAmong}
use Rattle.lock_rules.specs.Sound.{IsOnce}
use Rattle.lock_rules.proofs.Walks.{has}
use Rattle.lock_rules.proofs.Alters.{Alters, NoCircle, true≢false, beside, no_circle-from, waits_for-alters}
use Rattle.lock_rules.proofs.Sound.{no_more-alters}
use Rattle.lock_rules.proofs.Doomed.{doom-dooms, victims-keep}
use Rattle.lock_rules.proofs.Idle.{restarted-lives}
use Rattle.lock_rules.proofs.KeptCycles.{victims-on}
use Rattle.lock_rules.proofs.Requests.{try-leaves}
use Rattle.lock_rules.proofs.Victims.{on_circle-open}
use Rattle.lock_laws.specs.Cycles.{DoCyclesGoThrough, AreVictimsOnCycles, AreDoomedOnCycles, HasEachCycleDoomed}
use Rattle.lock_laws.specs.Victims.{BeginsToWait, with_waiting}
use Rattle.lock_laws.proofs.Circles.{all-keep, once-alters}
use Rattle.lock_laws.proofs.Victims.{IsUnsettled, victim-unsettled, request-unsettled, call-victims}

-- a session that the test finds in a list is contained in it
contained : (x : ℕ) (vs : List ℕ) → has x vs ≡ true → Contains vs x
contained x [] h = absurd (cc)
contained x (y ∷ vs) h = elim (or_cases (eqb y x) (has x vs) h) [
  | inl e ↦ (0, omega arith, (Decides-eqb y x).0 e)
  | inr k ↦ let r = contained x vs k in (suc r.0, omega (arith, r.1), r.2)
]

-- every cycle goes through s

-- a walk that doesn't visit s has no edge at s
aside : (pairs : ℕ → ℕ → Bool) (s t : ℕ) (ws : List ℕ) (u : ℕ) → eqb t s ≡ false → has s ws ≡ false → eqb u s ≡ false → IsWalk pairs t ws u → IsWalk (beside s pairs) t ws u
aside pairs s t [] u n h k walk = and_from (pairs t u) (not (eqb t s) && not (eqb u s)) walk (and_from (not (eqb t s)) (not (eqb u s)) (ap not n) (ap not k))
aside pairs s t (w ∷ ws) u n h k walk =
    let p = or_parts (eqb w s) (has s ws) h in
    (and_from (pairs t w) (not (eqb t s) && not (eqb w s)) walk.0 (and_from (not (eqb t s)) (not (eqb w s)) (ap not n) (ap not p.0)), aside pairs s w ws u p.0 p.1 k walk.1)

-- if no cycle avoids s, every cycle goes through it
through : (s : ℕ) (st : State) → NoCircle (beside s (waits_for st.table)) → DoCyclesGoThrough s st
through s st none u ws walk = elim (cases_Bool (has s (u ∷ ws))) [
  | inl y ↦ contained s (u ∷ ws) y
  | inr n ↦ let p = or_parts (eqb u s) (has s ws) n in absurd (none u ws (aside (waits_for st.table) s u ws u p.0 p.1 p.0 walk))
]

-- if no cycle avoids s and s is on none, there is none
none-left : (s : ℕ) (st : State) → NoCircle (beside s (waits_for st.table)) → (Reaches (waits_for st.table) s s → ⊥) → HasNoCircle st
none-left s st none off u c = no_circle-from (waits_for st.table) s none (λ ws walk. off (record { others = ws; walk = walk })) u c.others c.walk

-- each victim is on a cycle through s, and then there is none
victims-on_cycles : (s : ℕ) (vs : List ℕ) (st last : State) → IsUnsettled s st → AreVictims s vs st last → AreVictimsOnCycles s vs st
victims-on_cycles s [] st last i a = none-left s st i.beside_s a.0
victims-on_cycles s (v ∷ vs) st last i a = (a.0.on_circle, through s st i.beside_s, victims-on_cycles s vs (after_victim v st) last (victim-unsettled s v st i) a.1)

-- a victim ends no other cycle

module _ (v : ℕ) (t t' : Table) (a : Alters v t t') where
  -- a walk that doesn't visit v stays
  walk-stays : (s : ℕ) (ws : List ℕ) (u : ℕ) → eqb s v ≡ false → has v ws ≡ false → eqb u v ≡ false → IsWalk (waits_for t) s ws u → IsWalk (waits_for t') s ws u
  walk-stays s [] u n h k walk = waits_for-alters v t t' a s u n k ∙ walk
  walk-stays s (w ∷ ws) u n h k walk = let p = or_parts (eqb w v) (has v ws) h in (waits_for-alters v t t' a s w n p.0 ∙ walk.0, walk-stays w ws u p.0 p.1 k walk.1)

-- who is doomed

-- whoever the choice of victims dooms is one of them
pub doomed-among : (s : ℕ) (vs : List ℕ) (st last : State) → AreVictims s vs st last → (v : ℕ) → is_doomed st v ≡ false → is_doomed last v ≡ true → IsAmong v vs
doomed-among s [] st last a v n y = absurd (true≢false y (ap (λ (x : State). is_doomed x v) a.1 ∙ n))
doomed-among s (w ∷ vs) st last a v n y = elim (cases_Bool (eqb v w)) [
  | inl e ↦ inl ((Decides-eqb v w).0 e)
  | inr k ↦ inr (doomed-among s vs (after_victim w st) last a.1 v (ap (λ (b : Bool). doomed_in (cond b (doom (st.begun w)) (st.begun v))) k ∙ n) y)
]

module _ (st : State) (s v : ℕ) (n : is_doomed st v ≡ false) where
  -- a request that begins to wait, if the request dooms v
  asked-waits : (r : List ℕ) (k : Mode) → is_doomed (after_asking st s r k) v ≡ true → would_wait st.table s r k ≡ true
  asked-waits r k y = go (is_held (held_mode st.table s r) k) (is_granted_at_once st.table s r k) y
    where
      go : (a b : Bool) → is_doomed (cond a st (cond b (with_table (after_grant s r k st.table) st) (after_wait st s r k))) v ≡ true → (not a && not b) ≡ true
      go true b h = absurd (true≢false h n)
      go false true h = absurd (true≢false h n)
      go false false h = refl

  -- the transaction of s is new, ended or restarted
  replaced : (o : Option Transaction) → doomed_in o ≡ false → doomed_in (cond (eqb v s) o (st.begun v)) ≡ false
  replaced o h = go (eqb v s)
    where
      go : (b : Bool) → doomed_in (cond b o (st.begun v)) ≡ false
      go true = h
      go false = n

  -- a call that passes its tests and dooms v is a request that begins to wait
  acts-waits : (c : Call) → first_failing (tests st s c) ≡ None → is_doomed (step st s c).state v ≡ true → is_doomed (act st s c).state v ≡ true → (r : List ℕ) × (k : Mode) × BeginsToWait st s c r k
  acts-waits Begin e z y = absurd (true≢false y (replaced (Some (record { number = st.count + 1; doomed = false })) refl))
  acts-waits (Lock r m) e z y = (r, target_of (held_mode st.table s r) m, record { asked = m; call = inl refl; target = refl; passes = e; waits = asked-waits r (target_of (held_mode st.table s r) m) y })
  acts-waits (Convert r m) e z y = (r, target_of (held_mode st.table s r) m, record { asked = m; call = inr refl; target = refl; passes = e; waits = asked-waits r (target_of (held_mode st.table s r) m) y })
  acts-waits Poll e z y = absurd (true≢false y n)
  acts-waits (Release r) e z y = absurd (true≢false y n)
  acts-waits Commit e z y = absurd (true≢false y (replaced None refl))
  acts-waits Abort e z y = absurd (true≢false y (replaced None refl))
  acts-waits (Try r m) e z y = absurd (true≢false z (ap (λ (b : ℕ → Option Transaction). doomed_in (b v)) (try-leaves st s r m).1 ∙ n))
  acts-waits Withdraw e z y = absurd (true≢false y n)
  acts-waits Restart e z y = absurd (true≢false y (replaced (restarted (st.begun s)) (restarted-lives (st.begun s))))

  -- whoever a call dooms, the call begins to wait
  pub dooms-waits : (c : Call) → is_doomed (step st s c).state v ≡ true → (r : List ℕ) × (k : Mode) × BeginsToWait st s c r k
  dooms-waits c y = go (first_failing (tests st s c)) refl
    where
      go : (o : Option Why) → first_failing (tests st s c) ≡ o → (r : List ℕ) × (k : Mode) × BeginsToWait st s c r k
      go None e = acts-waits c e y (sym (ap (λ (o : Option Why). is_doomed (outcome_of o st s c).state v) e) ∙ y)
      go (Some w) e = absurd (true≢false y (ap (λ (o : Option Why). is_doomed (outcome_of o st s c).state v) e ∙ n))

-- whoever a call dooms is on a cycle that it closes
pub doomed-closes : (st : State) → AreDoomedOnCycles st
doomed-closes st s v c d =
    let w = dooms-waits st s v d.0 c d.1 in
    let a = call-victims st s c w.0 w.1 w.2 in
    record {
      resource = w.0;
      target = w.1;
      begins = w.2;
      on_cycle = victims-on s a.0 (with_waiting s w.0 w.1 st) (step st s c).state a.1 v (doomed-among s a.0 (with_waiting s w.0 w.1 st) (step st s c).state a.1 v d.0 d.1);
    }

-- each cycle has a victim on it

-- a cycle that doesn't go through a victim stays
cancel-stays : (v : ℕ) (t : Table) → IsOnce (without_request v t).requests → (u : ℕ) (ws : List ℕ) → has v (u ∷ ws) ≡ false → IsWalk (waits_for t) u ws u → IsWalk (waits_for (after_cancel v t)) u ws u
cancel-stays v t o u ws n walk =
    let p = or_parts (eqb u v) (has v ws) n in
    (all-keep (resource_of_request (request_of v t.requests)) (without_request v t) o).circles u ws (walk-stays v t (without_request v t) (no_more-alters v t) u ws u p.0 p.1 p.0 walk)

-- each cycle goes through a victim
meets-victim : (s : ℕ) (vs : List ℕ) (st last : State) → IsUnsettled s st → AreVictims s vs st last → (u : ℕ) (ws : List ℕ) → IsWalk (waits_for st.table) u ws u → (v : ℕ) × IsAmong v vs × (has v (u ∷ ws) ≡ true)
meets-victim s [] st last i a u ws walk = absurd (none-left s st i.beside_s a.0 u (record { others = ws; walk = walk }))
meets-victim s (v ∷ vs) st last i a u ws walk = elim (cases_Bool (has v (u ∷ ws))) [
  | inl y ↦ (v, inl refl, y)
  | inr n ↦
      let o = once-alters v st.table (without_request v st.table) (no_more-alters v st.table) i.sound.once in
      let r = meets-victim s vs (after_victim v st) last (victim-unsettled s v st i) a.1 u ws (cancel-stays v st.table o u ws n walk) in
      (r.0, inr r.1, r.2)
]

module _ (es : List Entry) (s : ℕ) (c : Call) (r : List ℕ) (k : Mode) (b : BeginsToWait (state_of es) s c r k) where
  -- every cycle that a request closes goes through its session
  pub request-through : DoCyclesGoThrough s (with_waiting s r k (state_of es))
  request-through = through s (with_waiting s r k (state_of es)) (request-unsettled es s c r k b).beside_s

  -- its victims are on cycles through its session, and then there is none
  pub request-victims : (vs : List ℕ) (last : State) → AreVictims s vs (with_waiting s r k (state_of es)) last → AreVictimsOnCycles s vs (with_waiting s r k (state_of es))
  request-victims vs last a = victims-on_cycles s vs (with_waiting s r k (state_of es)) last (request-unsettled es s c r k b) a

  -- on each cycle that it closes somebody is doomed
  cycle-doomed : (u : ℕ) (ws : List ℕ) → IsWalk (waits_for (with_waiting s r k (state_of es)).table) u ws u → (v : ℕ) × Contains (u ∷ ws) v × (is_doomed (step (state_of es) s c).state v ≡ true)
  cycle-doomed u ws walk =
      let i = request-unsettled es s c r k b in
      let a = call-victims (state_of es) s c r k b in
      let m = meets-victim s a.0 (with_waiting s r k (state_of es)) (step (state_of es) s c).state i a.1 u ws walk in
      let d = (victims-keep s a.0 (with_waiting s r k (state_of es)) (step (state_of es) s c).state i.sound.once a.1).victims m.0 m.1 in
      let o = on_circle-open (with_waiting s r k (state_of es)) s m.0 i.numbered (victims-on s a.0 (with_waiting s r k (state_of es)) (step (state_of es) s c).state a.1 m.0 m.1) in
      (m.0, contained m.0 (u ∷ ws) m.2, ap doomed_in d.doomed ∙ doom-dooms ((state_of es).begun m.0) o)

-- each cycle that a call closes has a session on it that is doomed after the call
pub each-doomed : (es : List Entry) → HasEachCycleDoomed (state_of es)
each-doomed es s c r k b u ws walk = cycle-doomed es s c r k b u ws walk
