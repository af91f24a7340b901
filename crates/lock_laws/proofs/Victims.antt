-- Each deadlock victim is needed, and no more are.
use Rattle.std.proofs.Common.{Option, Bool, cond, ◌≡◌, ℕ, ◌+◌, ◌<◌, true, false, not, inl, inr, List, [], ◌∷◌, ◌++◌, length, None, sym, ◌∙◌, ap, subst, arith, length-append}
use Rattle.std.specs.Prelude.{◌↔◌}
use Rattle.std.proofs.lemmas.Bool.{and_parts, not-true, not-false}
use Rattle.lock_modes.specs.declared.Mode.{Mode}
use Rattle.lock_modes.specs.Order.{at_or_below}
use Rattle.lock_rules.specs.declared.calls.Call.{Call}
use Rattle.lock_rules.specs.declared.calls.Call.TheVariants.{Lock, Convert}
use Rattle.lock_rules.specs.declared.calls.Why.{Why}
use Rattle.lock_rules.specs.Entries.{Entry}
use Rattle.lock_rules.specs.State.{State, held_mode, mode_or_nothing, request_of, is_open, with_table}
use Rattle.lock_rules.specs.Queue.{after_grant, is_granted_at_once}
use Rattle.lock_rules.specs.Waits.{waits_for, after_victim}
use Rattle.lock_rules.specs.Step.{is_nothing, lacks_parent, target_of, tests, first_failing, is_held, after_wait, after_asking, act, outcome_of, step}
use Rattle.lock_rules.specs.Legal.{state_of}
use Rattle.lock_rules.specs.Laws.{HasNoCircle, AreVictims}
use Rattle.lock_rules.specs.Sound.{IsNumbered, IsOnce, IsSound, Stands}
use Rattle.lock_rules.proofs.Alters.{NoCircle, beside, no_circle-from}
use Rattle.lock_rules.proofs.Sound.{UnfitAt}
use Rattle.lock_rules.proofs.Cuts.{cancelled-follows, cancelled-unfit}
use Rattle.lock_rules.proofs.Owners.{state-numbered, victim-numbered, waiting-numbered}
use Rattle.lock_rules.proofs.Begins.{new, begins-sound, begins-beside, begins-unfit}
use Rattle.lock_rules.proofs.Marks.{below-sup, sup-some}
use Rattle.lock_rules.proofs.Steps.{all-pass, is-none, state-lawful}
use Rattle.lock_rules.proofs.Victims.{settled-victims, victim-circle}
use Rattle.lock_laws.specs.Ends.{DoWaitsEnd, AreOpenBelow}
use Rattle.lock_laws.specs.Victims.{BeginsToWait, with_waiting, AreVictimsNeeded}
use Rattle.lock_laws.proofs.Bounds.{victim-below, some-below}
use Rattle.lock_laws.proofs.Circles.{circles-stay}
use Rattle.lock_laws.proofs.WaitsEnd.{quiescent-ends, ends-exactly}

-- no victim is chosen in a state from which waits end
pub victim-needed : (st : State) (n s v : ℕ) (vs : List ℕ) (last : State) → AreOpenBelow n st → IsOnce st.table.requests → AreVictims s (v ∷ vs) st last → DoWaitsEnd st → ⊥
victim-needed st n s v vs last below o a ends = let c = victim-circle st s v a.0 in circles-stay n st below o ends s c.others c.walk

-- what holds of a state in which victims are chosen for s: all that holds between two calls, but for cycles through s
pub record IsUnsettled (s : ℕ) (st : State) : Type 0 where
  pub sound : IsSound st.table
  pub unfit : (x : List ℕ) → UnfitAt st.table x
  pub numbered : IsNumbered st
  pub beside_s : NoCircle (beside s (waits_for st.table))

-- a victim keeps it
pub victim-unsettled : (s v : ℕ) (st : State) → IsUnsettled s st → IsUnsettled s (after_victim v st)
victim-unsettled s v st i =
    let f = cancelled-follows v st.table i.sound in
    record { sound = f.sound; unfit = cancelled-unfit v st.table i.sound i.unfit; numbered = victim-numbered v st i.numbered; beside_s = f.circle_beside s i.beside_s }

-- each victim is needed, and once s is on no cycle, no more are
victims-needed : (n s : ℕ) (vs : List ℕ) (st last : State) → AreOpenBelow n st → IsUnsettled s st → AreVictims s vs st last → AreVictimsNeeded vs st
victims-needed n s [] st last below i a =
    quiescent-ends st (record { sound = i.sound; no_circle = no_circle-from (waits_for st.table) s i.beside_s (λ ws walk. a.0 (record { others = ws; walk = walk })); unfit = i.unfit }) i.numbered
victims-needed n s (v ∷ vs) st last below i a = (victim-needed st n s v vs last below i.sound.once a, victims-needed n s vs (after_victim v st) last (victim-below n v st below) (victim-unsettled s v st i) a.1)

-- a request that begins to wait, of a state that a history leads to

-- what the tests of a Lock and of a Convert say of the request
pub record IsAllowed (st : State) (s : ℕ) (r : List ℕ) (m : Mode) : Type 0 where
  pub opened : is_open st s ≡ true
  free : request_of s st.table.requests ≡ None
  some : is_nothing m ≡ false
  under : lacks_parent st.table s r (target_of (held_mode st.table s r) m) ≡ false

-- a call that begins to wait is allowed
pub allowed : (st : State) (s : ℕ) (c : Call) (r : List ℕ) (k : Mode) → (b : BeginsToWait st s c r k) → IsAllowed st s r b.asked
allowed st s c r k b = elim b.call [ inl e ↦ lock (ap (λ (x : Call). first_failing (tests st s x)) (sym e) ∙ b.passes) | inr e ↦ convert (ap (λ (x : Call). first_failing (tests st s x)) (sym e) ∙ b.passes) ]
  where
    lock : first_failing (tests st s (Lock r b.asked)) ≡ None → IsAllowed st s r b.asked
    lock h = let p = all-pass (tests st s (Lock r b.asked)) h in record { opened = not-false (is_open st s) p.0; free = is-none (request_of s st.table.requests) p.1.0; some = p.1.1.1.0; under = p.1.1.1.1.0 }

    convert : first_failing (tests st s (Convert r b.asked)) ≡ None → IsAllowed st s r b.asked
    convert h = let p = all-pass (tests st s (Convert r b.asked)) h in record { opened = not-false (is_open st s) p.0; free = is-none (request_of s st.table.requests) p.1.0; some = p.1.1.1.0; under = p.1.1.1.1.1.0 }

-- its target is neither held nor granted at once
late : (st : State) (s : ℕ) (c : Call) (r : List ℕ) (k : Mode) → BeginsToWait st s c r k → (is_held (held_mode st.table s r) k ≡ false) × (is_granted_at_once st.table s r k ≡ false)
late st s c r k b =
    let w = and_parts (not (is_held (held_mode st.table s r) k)) (not (is_granted_at_once st.table s r k)) b.waits in
    (not-true (is_held (held_mode st.table s r) k) w.0, not-true (is_granted_at_once st.table s r k) w.1)

-- the call leads to the state after the victims of its request
step-waits : (st : State) (s : ℕ) (c : Call) (r : List ℕ) (k : Mode) → BeginsToWait st s c r k → (step st s c).state ≡ after_wait st s r k
step-waits st s c r k b =
    ap (λ (o : Option Why). (outcome_of o st s c).state) b.passes
    ∙ (elim b.call [ inl e ↦ ap (λ (x : Call). (act st s x).state) e | inr e ↦ ap (λ (x : Call). (act st s x).state) e ]
    ∙ (ap (after_asking st s r) (sym b.target)
    ∙ (ap (λ (x : Bool). cond x st (cond (is_granted_at_once st.table s r k) (with_table (after_grant s r k st.table) st) (after_wait st s r k))) (late st s c r k b).0
    ∙ ap (λ (x : Bool). cond x (with_table (after_grant s r k st.table) st) (after_wait st s r k)) (late st s c r k b).1)))

-- the victims that it makes
pub call-victims : (st : State) (s : ℕ) (c : Call) (r : List ℕ) (k : Mode) → BeginsToWait st s c r k → (vs : List ℕ) × AreVictims s vs (with_waiting s r k st) (step st s c).state
call-victims st s c r k b =
    let few : length (st.table.requests ++ new s r k ∷ []) < length st.table.requests + 2 = omega (arith, length-append st.table.requests (new s r k ∷ [])) in
    let v = settled-victims (length st.table.requests + 2) s (with_waiting s r k st) few in
    (v.0, subst (AreVictims s v.0 (with_waiting s r k st)) (sym (step-waits st s c r k b)) v.1)

module _ (es : List Entry) (s : ℕ) (c : Call) (r : List ℕ) (k : Mode) (b : BeginsToWait (state_of es) s c r k) where
  -- once a request begins to wait, only cycles through its session can be there
  pub request-unsettled : IsUnsettled s (with_waiting s r k (state_of es))
  request-unsettled =
      let i = state-lawful es in
      let p = allowed (state_of es) s c r k b in
      let up : at_or_below (mode_or_nothing (held_mode (state_of es).table s r)) k ≡ true = ap (at_or_below (mode_or_nothing (held_mode (state_of es).table s r))) b.target ∙ below-sup (mode_or_nothing (held_mode (state_of es).table s r)) b.asked in
      let stands : Stands (state_of es).table s r k = subst (Stands (state_of es).table s r) (sym b.target) (p.under, sup-some (mode_or_nothing (held_mode (state_of es).table s r)) b.asked p.some) in
      let sound = begins-sound s r k (state_of es).table i.sound p.free up stands in
      record {
        sound = sound;
        unfit = begins-unfit s r k (state_of es).table i.sound sound p.free (late (state_of es) s c r k b).1 i.unfit;
        numbered = waiting-numbered (state_of es) s r k (state-numbered es) p.opened;
        beside_s = begins-beside s r k (state_of es).table p.free i.no_circle;
      }

  -- each victim of a request that begins to wait is needed, and no more are
  pub request-needs : (vs : List ℕ) (last : State) → AreVictims s vs (with_waiting s r k (state_of es)) last → AreVictimsNeeded vs (with_waiting s r k (state_of es))
  request-needs vs last a = let below = some-below es in victims-needed below.0 s vs (with_waiting s r k (state_of es)) last below.1 request-unsettled a

  -- so are those that the call makes
  pub request-chooses : (vs : List ℕ) × AreVictims s vs (with_waiting s r k (state_of es)) (step (state_of es) s c).state × AreVictimsNeeded vs (with_waiting s r k (state_of es))
  request-chooses = let v = call-victims (state_of es) s c r k b in (v.0, v.1, request-needs v.0 (step (state_of es) s c).state v.1)

  -- once a request begins to wait, waits end exactly if there is no cycle
  pub request-exactly : DoWaitsEnd (with_waiting s r k (state_of es)) ↔ HasNoCircle (with_waiting s r k (state_of es))
  request-exactly =
      let below = some-below es in
      let i = request-unsettled in
      ends-exactly (with_waiting s r k (state_of es)) below.0 below.1 i.sound i.unfit i.numbered
