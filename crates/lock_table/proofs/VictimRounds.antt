-- The victim that is found in the waits-for graph is that of the state which the lock table represents.
use Rattle.std.proofs.Common.{◌≡◌, ℕ, zero, suc, ◌+◌, ◌-◌, ◌<◌, ◌≤◌, Bool, true, false, cond, eqb, ◌||◌, List, [], ◌∷◌, map, Option, Some, None, refl, sym, ◌∙◌, ap, arith, subst}
use Rattle.std.proofs.lemmas.Bool.Decides.{Decides-eqb}
use Rattle.std.specs.Prelude.{slice_index}
use Rattle.waits_for.specs.Pairs.{pairs_of}
use Rattle.waits_for.specs.Walks.{IsWalk, Reaches, AreOnCircle, IsYoungestOnCircle}
use Rattle.lock_rules.specs.State as rules
use Rattle.lock_rules.specs.Waits.{waits_for, reaches, victim_of, doom, after_victim, after_victims}
use Rattle.lock_rules.specs.Laws.{IsVictim}
use Rattle.lock_rules.specs.Sound.{IsNumbered, IsSound}
use Rattle.waits_for.proofs.Walks.{reaches-trans}
use Rattle.lock_rules.proofs.Cuts.{cancelled-follows}
use Rattle.lock_rules.proofs.Settle.{reached-walk, reaches-walk}
use Rattle.lock_rules.proofs.Victims.{victim-most, one-victim}
use Rattle.lock_rules.proofs.Owners.{victim-numbered}
use Rattle.lock_holders.specs.declared.session_mode.SessionMode.{SessionMode}
use Rattle.lock_table.specs.declared.table.LockTable.{LockTable}
use Rattle.lock_table.specs.declared.wait_graph.Waits.{Waits}
use Rattle.lock_holders.specs.SessionModes.{mode_of, has_session}
use Rattle.lock_table.specs.Changes.{view_at, standings, standing, view_after_cancel, IsWhole, DoesKeep, MayServe, HasDoomed}
use Rattle.lock_table.specs.inner.Blocking.{blocks, blocks_at, target_blocks, IsCurrent}
use Rattle.lock_table.specs.Shows.{Shows}
use Rattle.lock_table.proofs.SessionsInRange.{once-at}
use Rattle.lock_table.proofs.WaitsOfTheState.{pairs-shown}
use Rattle.lock_table.proofs.AfterStep.{cancelled-seen}

-- the search for a victim changes nothing, and the table may serve the one that it finds

module _ (d e : LockTable) (waits : Waits) (same : waits ≡ e.waits) (kept : DoesKeep d e) where
  pub keeps-searched : DoesKeep d (record { count = e.count; lockers = e.lockers; cells = e.cells; waits = waits; ended = e.ended })
  keeps-searched = subst (λ (w : Waits). DoesKeep d (record { count = e.count; lockers = e.lockers; cells = e.cells; waits = w; ended = e.ended })) (sym same) kept

  pub may-serve_searched : (v : ℕ) → 1 ≤ v → v ≤ e.waits.rows.sessions → MayServe v (record { count = e.count; lockers = e.lockers; cells = e.cells; waits = waits; ended = e.ended })
  may-serve_searched v some few = record {
    session = record { some = some; within = omega (arith, few, kept.ready.long) };
    whole = keeps-searched.whole;
    ready = keeps-searched.ready;
  }

-- positions and sessions: position a is that of session a + 1

module _ (P Q : ℕ → ℕ → Bool) (same : (a b : ℕ) → P a b ≡ Q (a + 1) (b + 1)) (some : (s u : ℕ) → Q s u ≡ true → 1 ≤ s) where
  -- a walk by positions is one by sessions
  up-walk : (a : ℕ) (vs : List ℕ) (b : ℕ) → IsWalk P a vs b → IsWalk Q (a + 1) (map (λ v. v + 1) vs) (b + 1)
  up-walk a [] b w = sym (same a b) ∙ w
  up-walk a (v ∷ vs) b w = (sym (same a v) ∙ w.0, up-walk v vs b w.1)

  -- a walk by sessions begins at a number of at least 1
  first-some : (v : ℕ) (vs : List ℕ) (u : ℕ) → IsWalk Q v vs u → 1 ≤ v
  first-some v [] u w = some v u w
  first-some v (x ∷ vs) u w = some v x w.0

  -- the session at position v - 1 is v
  back-one : (v : ℕ) → 1 ≤ v → v - 1 + 1 ≡ v
  back-one v h = omega (arith, h)

  -- a walk by sessions is one by positions
  down-walk : (a : ℕ) (vs : List ℕ) (b : ℕ) → IsWalk Q (a + 1) vs (b + 1) → IsWalk P a (map (λ v. v - 1) vs) b
  down-walk a [] b w = same a b ∙ w
  down-walk a (v ∷ vs) b w =
      let e = back-one v (first-some v vs (b + 1) w.1) in
      (same a (v - 1) ∙ (ap (Q (a + 1)) e ∙ w.0), down-walk (v - 1) vs b (subst (λ (x : ℕ). IsWalk Q x vs (b + 1)) (sym e) w.1))

  -- a session reached by positions is reached by sessions
  pub up : (a b : ℕ) → Reaches P a b → Reaches Q (a + 1) (b + 1)
  up a b r = record { others = map (λ v. v + 1) r.others; walk = up-walk a r.others b r.walk }

  -- a session reached by sessions is reached by positions
  pub down : (a b : ℕ) → Reaches Q (a + 1) (b + 1) → Reaches P a b
  down a b r = record { others = map (λ v. v - 1) r.others; walk = down-walk a r.others b r.walk }

  -- the youngest on a cycle by position is the youngest by session
  pub youngest-up : (a v : ℕ) (ages : List ℕ) (age : ℕ → ℕ) → ((i : ℕ) → slice_index ages i ≡ age (i + 1)) → IsYoungestOnCircle P ages a v
      → AreOnCircle Q (a + 1) (v + 1) × ((u : ℕ) → AreOnCircle Q (a + 1) u → age u ≤ age (v + 1))
  youngest-up a v ages age told y = (
    record { there = up a v y.on_circle.there; back = up v a y.on_circle.back },
    λ u c.
        let e = back-one u (first-some u c.back.others (a + 1) c.back.walk) in
        let there = down a (u - 1) (subst (λ (x : ℕ). Reaches Q (a + 1) x) (sym e) c.there) in
        let back = down (u - 1) a (subst (λ (x : ℕ). Reaches Q x (a + 1)) (sym e) c.back) in
        let g = y.greatest (u - 1) (record { there = there; back = back }) in
        omega (arith, g, told (u - 1), told v, ap age e),
  )

-- the youngest on a cycle in a graph with the waits of a state is the victim of the state
pub victim-found : (P : ℕ → ℕ → Bool) (ages : List ℕ) (st : rules.State) → IsNumbered st → ((a b : ℕ) → P a b ≡ waits_for st.table (a + 1) (b + 1)) → ((s u : ℕ) → waits_for st.table s u ≡ true → 1 ≤ s) → ((a : ℕ) → slice_index ages a ≡ rules.number_of st (a + 1))
    → (s v : ℕ) → 1 ≤ s → 1 ≤ v → IsYoungestOnCircle P ages (s - 1) (v - 1) → (reaches st.table s s ≡ true) × (victim_of st s ≡ v)
victim-found P ages st j same some-wait told s v some one y =
    let e : s - 1 + 1 ≡ s = omega (arith, some) in
    let f : v - 1 + 1 ≡ v = omega (arith, one) in
    let c = youngest-up P (waits_for st.table) same some-wait (s - 1) (v - 1) ages (rules.number_of st) told y in
    let is : IsVictim st s v = subst (λ (x : ℕ). IsVictim st x v) e (subst (λ (x : ℕ). IsVictim st (s - 1 + 1) x) f (record { on_circle = c.0; youngest = c.1 })) in
    let on = reaches-walk st.table s s (reaches-trans (waits_for st.table) s v s is.on_circle.there is.on_circle.back) in
    (on, one-victim st j s (victim_of st s) v (victim-most st s on) is)

-- number 0, which no session has

-- so it has no mode in a list without it
no-mode : (cs : List SessionMode) → has_session 0 cs ≡ false → mode_of 0 cs ≡ None
no-mode [] h = refl
no-mode (c ∷ cs) h = go (eqb c.session 0) h (no-mode cs)
  where
    go : (b : Bool) → (b || has_session 0 cs) ≡ false → (has_session 0 cs ≡ false → mode_of 0 cs ≡ None) → cond b (Some c.mode) (mode_of 0 cs) ≡ None
    go true h next = absurd (cc)
    go false h next = next h

-- and waits for nobody
blocks-zero : (d : LockTable) → IsWhole d → (u : ℕ) → blocks d.cells.entries (standings d) 0 u ≡ false
blocks-zero d w u = go (standing 0 d).wanted
  where
    go : (o : Option (List ℕ)) → blocks_at 0 u d.cells.entries o ≡ false
    go None = refl
    go (Some r) = ap (target_blocks 0 u (view_at r d)) (no-mode (view_at r d).waiting (once-at r d.cells.entries w.cells).waiting)

-- one round after another

-- the lock table represents the state after k of n rounds
pub record IsRound (n k s : ℕ) (st : rules.State) (d : LockTable) : Type 0 where
  pub state : rules.State
  pub shows : Shows d state
  pub sound : IsSound state.table
  pub numbered : IsNumbered state
  pub same : after_victims n s st ≡ after_victims (n - k) s state

-- the same with another waits-for graph
abbrev pub rewaited : (n k s : ℕ) (st : rules.State) (d : LockTable) (waits : Waits) → IsRound n k s st d → IsRound n k s st (record { count = d.count; lockers = d.lockers; cells = d.cells; waits = waits; ended = d.ended })
rewaited n k s st d waits r = record {
  state = r.state;
  shows = record { count = r.shows.count; transactions = r.shows.transactions; views = r.shows.views };
  sound = r.sound;
  numbered = r.numbered;
  same = r.same;
}

module _ (d : LockTable) (w : IsWhole d) (waits : Waits) (filled : IsCurrent d.cells.entries (standings d) waits) (st : rules.State) (h : Shows d st) (i : IsSound st.table) (j : IsNumbered st) where
  -- the edges are the waits of the state
  pub same-pairs : (a b : ℕ) → pairs_of waits.rows a b ≡ waits_for st.table (a + 1) (b + 1)
  same-pairs a b = filled.pairs a b ∙ pairs-shown d st w i h (a + 1) (b + 1)

  -- a session that waits has a number of at least 1
  some-wait : (s u : ℕ) → waits_for st.table s u ≡ true → 1 ≤ s
  some-wait zero u e = let f = sym (blocks-zero d w u) ∙ (pairs-shown d st w i h 0 u ∙ e) in absurd (cc)
  some-wait (suc s) u e = omega arith

  -- the transaction numbers are those of the state
  pub same-numbers : (a : ℕ) → slice_index waits.numbers.items a ≡ rules.number_of st (a + 1)
  same-numbers a = filled.numbers a ∙ ap rules.number_in (h.transactions (a + 1))

  -- if no victim is found, the session is on no cycle of the state
  pub none-found : (s : ℕ) → 1 ≤ s → (Reaches (pairs_of waits.rows) (s - 1) (s - 1) → ⊥) → reaches st.table s s ≡ false
  none-found s some none = go (reaches st.table s s) refl
    where
      e : s - 1 + 1 ≡ s
      e = omega (arith, some)

      go : (b : Bool) → reaches st.table s s ≡ b → b ≡ false
      go false f = refl
      go true f = absurd (none (down (pairs_of waits.rows) (waits_for st.table) same-pairs some-wait (s - 1) (s - 1) (subst (λ (x : ℕ). Reaches (waits_for st.table) x x) (sym e) (reached-walk st.table s s f))))

  -- a victim that is found is that of the state
  pub found : (s v : ℕ) → 1 ≤ s → 1 ≤ v → IsYoungestOnCircle (pairs_of waits.rows) waits.numbers.items (s - 1) (v - 1) → (reaches st.table s s ≡ true) × (victim_of st s ≡ v)
  found = victim-found (pairs_of waits.rows) waits.numbers.items st j same-pairs some-wait same-numbers

-- after a session is doomed, the lock table represents the state after it has become the victim
pub doomed-shown : (d e : LockTable) (st : rules.State) (v : ℕ) → IsSound st.table → HasDoomed v d e → Shows d st → Shows e (after_victim v st)
doomed-shown d e st v i k h = record {
  count = k.count ∙ h.count;
  transactions = λ u. k.transactions u ∙ go u (eqb u v) refl;
  views = λ q. k.views q ∙ (ap (view_after_cancel v) (h.views q) ∙ sym (cancelled-seen v st.table i q));
}
  where
    go : (u : ℕ) (b : Bool) → eqb u v ≡ b → cond b (doom (standing u d).transaction) (standing u d).transaction ≡ cond b (doom (st.begun v)) (st.begun u)
    go u true e = ap doom (h.transactions u ∙ ap st.begun ((Decides-eqb u v).0 e))
    go u false e = h.transactions u

-- one more round
abbrev pub next-round : (n k s v : ℕ) (st : rules.State) (d e : LockTable) (r : IsRound n k s st d) → k < n → reaches r.state.table s s ≡ true → victim_of r.state s ≡ v → HasDoomed v d e → IsRound n (k + 1) s st e
next-round n k s v st d e r lt on is k2 = record {
  state = after_victim v r.state;
  shows = doomed-shown d e r.state v r.sound k2 r.shows;
  sound = (cancelled-follows v r.state.table r.sound).sound;
  numbered = victim-numbered v r.state r.numbered;
  same =
      let m : n - k ≡ suc (n - (k + 1)) = omega (arith, lt) in
      r.same ∙ (ap (λ (x : ℕ). after_victims x s r.state) m
      ∙ (ap (λ (b : Bool). cond b (after_victims (n - (k + 1)) s (after_victim (victim_of r.state s) r.state)) r.state) on
      ∙ ap (λ (x : ℕ). after_victims (n - (k + 1)) s (after_victim x r.state)) is));
}

-- if the session is on no cycle, no more rounds change the state
pub last-round : (n k s : ℕ) (st : rules.State) (d : LockTable) (r : IsRound n k s st d) → reaches r.state.table s s ≡ false → Shows d (after_victims n s st)
last-round n k s st d r off = subst (Shows d) (sym (r.same ∙ go (n - k))) r.shows
  where
    go : (m : ℕ) → after_victims m s r.state ≡ r.state
    go zero = refl
    go (suc m) = ap (λ (b : Bool). cond b (after_victims m s (after_victim (victim_of r.state s) r.state)) r.state) off
