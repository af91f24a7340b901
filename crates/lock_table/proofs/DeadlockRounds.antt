-- The deadlocks that are noted while victims are chosen are those of the state.
use Rattle.std.proofs.Common.{◌≡◌, ℕ, zero, suc, ◌+◌, ◌-◌, ◌<◌, ◌≤◌, ◌⊎◌, inl, inr, Bool, true, false, cond, List, [], ◌∷◌, ◌++◌, length, length-append, append_assoc, append-nil, refl, sym, ◌∙◌, ap, arith, subst}
use Rattle.std.proofs.lemmas.List.{map-append}
use Rattle.lock_rules.specs.State as rules
use Rattle.lock_rules.specs.Waits.{reaches, victim_of, after_victim, after_cancel, after_victims}
use Rattle.lock_rules.specs.Sound.{IsSound}
use Rattle.lock_rules.proofs.Cuts.{cancelled-follows, cancelled-fewer}
use Rattle.lock_rules.proofs.Settle.{victim-waits}
use Rattle.lock_table.specs.Deadlocks.{Moment, deadlocked_states, moments_at}
use Rattle.waits_for.specs.Pairs.{pairs_of}
use Rattle.lock_table.specs.declared.table.LockTable.{LockTable}
use Rattle.lock_table.specs.declared.wait_graph.Waits.{Waits}
use Rattle.lock_table.specs.inner.Blocking.{IsCurrent}
use Rattle.lock_table.specs.Changes.{standings, IsWhole}
use Rattle.lock_table.specs.Noting.{IsNotedAhead, AreChosen}
use Rattle.lock_table.specs.Shows.{Shows}
use Rattle.lock_table.proofs.VictimRounds.{IsRound, same-pairs, same-numbers}
use Rattle.lock_table.proofs.VictimsAhead.{by_position, closed-same, chosen-ahead}
use Rattle.lock_table.proofs.FewRequests.{nobody-asks}

-- more rounds than requests find no more deadlocks
pub deadlocked-enough : (n m s : ℕ) (st : rules.State) → IsSound st.table → length st.table.requests < n → length st.table.requests < m → deadlocked_states n s st ≡ deadlocked_states m s st
deadlocked-enough zero m s st i few less = absurd (omega arith)
deadlocked-enough (suc n) zero s st i few less = absurd (omega arith)
deadlocked-enough (suc n) (suc m) s st i few less = go (reaches st.table s s) refl (λ j k l. deadlocked-enough n m s (after_victim (victim_of st s) st) j k l)
  where
    go : (r : Bool) → reaches st.table s s ≡ r
        → (IsSound (after_cancel (victim_of st s) st.table) → length (after_cancel (victim_of st s) st.table).requests < n → length (after_cancel (victim_of st s) st.table).requests < m → deadlocked_states n s (after_victim (victim_of st s) st) ≡ deadlocked_states m s (after_victim (victim_of st s) st))
        → cond r (st ∷ deadlocked_states n s (after_victim (victim_of st s) st)) [] ≡ cond r (st ∷ deadlocked_states m s (after_victim (victim_of st s) st)) []
    go false e next = refl
    go true e next =
        let w = victim-waits st s e in
        let fewer = cancelled-fewer (victim_of st s) st.table w.0 i w.1 in
        ap (λ (sts : List rules.State). st ∷ sts) (next (cancelled-follows (victim_of st s) st.table i).sound (omega (arith, fewer)) (omega (arith, fewer)))

-- some deadlocks are noted, and then more
ahead-on : {N : Type 0} (noted : List Moment → N → N → Type 0) (m n : ℕ) (a b c : N) (ms ns : List Moment) → m ≤ n + length ns → IsNotedAhead noted m ms a b → IsNotedAhead noted n ns b c → IsNotedAhead noted n (ms ++ ns) a c
ahead-on noted m n a b c ms ns le h k more d few last =
    subst (λ (xs : List Moment). noted xs a d) (sym (append_assoc ms ns more))
    (h (ns ++ more) d (omega (arith, le, few, length-append ns more)) (k more d few last))

-- if none have to come, all are noted
ahead-none : {N : Type 0} (noted : List Moment → N → N → Type 0) (none : (a : N) → noted [] a a) (n : ℕ) (a b : N) (ms : List Moment) → n ≤ 0 → IsNotedAhead noted n ms a b → noted ms a b
ahead-none noted none n a b ms few h = subst (λ (xs : List Moment). noted xs a b) (append-nil ms) (h [] b few (none b))

-- the lock table represents the state after k of n rounds, at least so many deadlocks are to come, and with them those of these rounds
-- are noted
pub record IsNotedRound {N : Type 0} (noting : List Moment → N → N → Type 0) (coming n k s place : ℕ) (st : rules.State) (d : LockTable) (before after : N) : Type 0 where
  pub round : IsRound n k s st d
  pub states : List rules.State
  pub split : deadlocked_states n s st ≡ states ++ deadlocked_states (n - k) s round.state
  pub sure : coming ≤ length (deadlocked_states (n - k) s round.state)
  pub noted : IsNotedAhead noting coming (moments_at place s states) before after

-- those that are chosen on a copy of the graph come
pub known-coming : {N : Type 0} (noted : List Moment → N → N → Type 0) (m c x n k s place : ℕ) (st : rules.State) (d : LockTable) (waits : Waits) (a b : N) (r : IsNotedRound noted m n k s place st d a b) → IsWhole d → IsCurrent d.cells.entries (standings d) waits → 1 ≤ s
    → (c ≡ m) ⊎ ((vs : List ℕ) × AreChosen (pairs_of waits.rows) waits.numbers.items (s - 1) vs × (length vs ≡ c) × (c ≤ x)) → x ≤ n - k → c ≤ length (deadlocked_states (n - k) s r.round.state)
known-coming noted m c x n k s place st d waits a b r w filled one (inl e) few = omega (arith, e, r.sure)
known-coming noted m c x n k s place st d waits a b r w filled one (inr h) few =
    let t = r.round in
    let edges = same-pairs d w waits filled t.state t.shows t.sound t.numbered in
    omega (
      arith,
      h.2,
      chosen-ahead h.0 (n - k) s t.state (pairs_of waits.rows) waits.numbers.items one t.sound t.numbered (nobody-asks d t.state w t.sound t.shows) (same-numbers d w waits filled t.state t.shows t.sound t.numbered)
          (closed-same (pairs_of waits.rows) (by_position t.state.table) edges) (closed-same (by_position t.state.table) (pairs_of waits.rows) (λ x y. sym (edges x y)))
          h.1 (omega (arith, h.2, h.3, few)),
    )

-- none yet
pub noted-begun : {N : Type 0} (noted : List Moment → N → N → Type 0) (n s place : ℕ) (st : rules.State) (d : LockTable) (log : N) (r : IsRound n 0 s st d) → r.state ≡ st → IsNotedRound noted 0 n 0 s place st d log log
noted-begun noted n s place st d log r is = record {
  round = r;
  states = [];
  split = let all : n ≡ n - 0 = omega arith in ap (deadlocked_states n s) (sym is) ∙ ap (λ (k : ℕ). deadlocked_states k s r.state) all;
  sure = omega arith;
  noted = λ more last few k. k;
}

-- on a cycle, the next deadlock is that of the state
next-state : (m n k s : ℕ) (st : rules.State) → m ≡ suc (n - (k + 1)) → reaches st.table s s ≡ true → deadlocked_states m s st ≡ st ∷ deadlocked_states (n - (k + 1)) s (after_victim (victim_of st s) st)
next-state m n k s st e on =
    ap (λ (x : ℕ). deadlocked_states x s st) e
    ∙ ap (λ (b : Bool). cond b (st ∷ deadlocked_states (n - (k + 1)) s (after_victim (victim_of st s) st)) []) on

-- off all cycles, there is none
no-state : (m s : ℕ) (st : rules.State) → reaches st.table s s ≡ false → deadlocked_states m s st ≡ []
no-state zero s st off = refl
no-state (suc m) s st off = ap (λ (b : Bool). cond b (st ∷ deadlocked_states m s (after_victim (victim_of st s) st)) []) off

-- one more round, before which more deadlocks may be known to come
pub noted-round : {N : Type 0} (noting : List Moment → N → N → Type 0) (m c n k s v place : ℕ) (st : rules.State) (d e : LockTable) (x y z : N) (r : IsNotedRound noting m n k s place st d x y) → (i : IsRound n (k + 1) s st e) → i.state ≡ after_victim v r.round.state → k < n → reaches r.round.state.table s s ≡ true → victim_of r.round.state s ≡ v
    → m ≤ c → c ≤ length (deadlocked_states (n - k) s r.round.state) → IsNotedAhead noting (c - 1) (moments_at place s (r.round.state ∷ [])) y z → IsNotedRound noting (c - 1) n (k + 1) s place st e x z
noted-round noting m c n k s v place st d e x y z r i next lt on is more sure noted =
    let t = r.round.state in
    let rest : deadlocked_states (n - k) s t ≡ t ∷ deadlocked_states (n - (k + 1)) s i.state =
    next-state (n - k) n k s t (omega (arith, lt)) on ∙ (ap (λ (u : ℕ). t ∷ deadlocked_states (n - (k + 1)) s (after_victim u t)) is ∙ ap (λ (w : rules.State). t ∷ deadlocked_states (n - (k + 1)) s w) (sym next)) in
    let one : length (moments_at place s (t ∷ [])) ≡ 1 = refl in
    record {
      round = i;
      states = r.states ++ t ∷ [];
      split = r.split ∙ (ap (λ (sts : List rules.State). r.states ++ sts) rest ∙ sym (append_assoc r.states (t ∷ []) (deadlocked_states (n - (k + 1)) s i.state)));
      sure = omega (arith, sure, ap length rest);
      noted = subst (λ (ms : List Moment). IsNotedAhead noting (c - 1) ms x z) (sym (map-append _ r.states (t ∷ [])))
          (ahead-on noting m (c - 1) x y z (moments_at place s r.states) (moments_at place s (t ∷ [])) (omega (arith, more, one)) r.noted noted);
    }

-- if the session is on no cycle, all are noted
pub noted-last : {N : Type 0} (noted : List Moment → N → N → Type 0) → ((a : N) → noted [] a a) → (c n k s place : ℕ) (st : rules.State) (d : LockTable) (a b : N) (r : IsNotedRound noted c n k s place st d a b) → reaches r.round.state.table s s ≡ false → noted (moments_at place s (deadlocked_states n s st)) a b
noted-last noted unnoted c n k s place st d a b r off =
    let none = no-state (n - k) s r.round.state off in
    let all : deadlocked_states n s st ≡ r.states = r.split ∙ (ap (λ (sts : List rules.State). r.states ++ sts) none ∙ append-nil r.states) in
    subst (λ (sts : List rules.State). noted (moments_at place s sts) a b) (sym all) (ahead-none noted unnoted c a b (moments_at place s r.states) (omega (arith, r.sure, ap length none)) r.noted)

-- nor are there more rounds
pub noted-end : {N : Type 0} (noted : List Moment → N → N → Type 0) → ((a : N) → noted [] a a) → (c n k s place : ℕ) (st : rules.State) (d : LockTable) (a b : N) (r : IsNotedRound noted c n k s place st d a b) → n ≤ k → noted (moments_at place s (deadlocked_states n s st)) a b
noted-end noted unnoted c n k s place st d a b r le =
    let gone : n - k ≡ 0 = omega (arith, le) in
    let none : deadlocked_states (n - k) s r.round.state ≡ [] = ap (λ (m : ℕ). deadlocked_states m s r.round.state) gone in
    let all : deadlocked_states n s st ≡ r.states = r.split ∙ (ap (λ (sts : List rules.State). r.states ++ sts) none ∙ append-nil r.states) in
    subst (λ (sts : List rules.State). noted (moments_at place s sts) a b) (sym all) (ahead-none noted unnoted c a b (moments_at place s r.states) (omega (arith, r.sure, ap length none)) r.noted)

-- and the lock table represents the state after the last one
pub shown-end : (n k s : ℕ) (st : rules.State) (d : LockTable) (r : IsRound n k s st d) → n ≤ k → Shows d (after_victims n s st)
shown-end n k s st d r le =
    let none : n - k ≡ 0 = omega (arith, le) in
    subst (Shows d) (sym (r.same ∙ ap (λ (m : ℕ). after_victims m s r.state) none)) r.shows
