-- `after_victims` chooses the victims that the law describes, and these are determined.
use Rattle.std.proofs.Common.{◌≡◌, ℕ, zero, suc, ◌<◌, Bool, true, false, cond, List, [], ◌∷◌, length, refl, sym, ◌∙◌, ap, arith}
use Rattle.std.specs.Prelude.{filter}
use Rattle.std.proofs.lemmas.Bool.{and_parts, and_from}
use Rattle.waits_for.specs.Walks.{Reaches, AreOnCircle}
use Rattle.waits_for.proofs.Walks.{reaches-trans}
use Rattle.lock_rules.specs.State.{State, number_of, is_open, with_table}
use Rattle.lock_rules.specs.Queue.{with_request}
use Rattle.lock_rules.specs.Waits.{waits_for, reaches, waiting_sessions, victim_of, after_victim, after_cancel, after_victims}
use Rattle.lock_rules.specs.Laws.{IsVictim, AreVictims, AreVictimsDetermined}
use Rattle.lock_rules.specs.Sound.{IsNumbered, IsSound}
use Rattle.lock_rules.proofs.Alters.{true≢false}
use Rattle.lock_rules.proofs.Cuts.{cancelled-follows, cancelled-fewer, victim-fewer}
use Rattle.lock_rules.proofs.Settle.{on_circle, youngest-most, filter-has, victim-on, victim-waits, reached-walk, reaches-walk, walk-waits, has-waits}
use Rattle.lock_rules.proofs.Owners.{victim-numbered, waiting-numbered}

-- on a cycle through s, `victim_of` is the youngest of all sessions on a cycle with s
pub victim-most : (st : State) (s : ℕ) → reaches st.table s s ≡ true → IsVictim st s (victim_of st s)
victim-most st s h =
    let p = and_parts (reaches st.table s (victim_of st s)) (reaches st.table (victim_of st s) s) (victim-on st s h) in
    record {
      on_circle = record { there = reached-walk st.table s (victim_of st s) p.0; back = reached-walk st.table (victim_of st s) s p.1 };
      youngest = λ u c. youngest-most (number_of st) s (filter (on_circle st.table s) (waiting_sessions st.table)) u
          (filter-has (on_circle st.table s) u (waiting_sessions st.table) (walk-waits st.table u c.back.others s c.back.walk)
          (and_from (reaches st.table s u) (reaches st.table u s) (reaches-walk st.table s u c.there) (reaches-walk st.table u s c.back)));
    }

-- the victims of `after_victims` are victims one after another
pub settled-victims : (n s : ℕ) (st : State) → length st.table.requests < n → (vs : List ℕ) × AreVictims s vs st (after_victims n s st)
settled-victims zero s st few = absurd (omega arith)
settled-victims (suc n) s st few = go (reaches st.table s s) refl (λ k. settled-victims n s (after_victim (victim_of st s) st) k)
  where
    go : (r : Bool) → reaches st.table s s ≡ r
        → (length (after_cancel (victim_of st s) st.table).requests < n → (vs : List ℕ) × AreVictims s vs (after_victim (victim_of st s) st) (after_victims n s (after_victim (victim_of st s) st)))
        → (vs : List ℕ) × AreVictims s vs st (cond r (after_victims n s (after_victim (victim_of st s) st)) st)
    go false e next = ([], (λ c. true≢false (reaches-walk st.table s s c) e, refl))
    go true e next =
        let w = victim-waits st s e in
        let r = next (omega (arith, victim-fewer (victim_of st s) st.table w.0 w.1)) in
        (victim_of st s ∷ r.0, (victim-most st s e, r.1))

-- more rounds than requests change nothing
pub settled-enough : (n m s : ℕ) (st : State) → IsSound st.table → length st.table.requests < n → length st.table.requests < m → after_victims n s st ≡ after_victims m s st
settled-enough zero m s st i few less = absurd (omega arith)
settled-enough (suc n) zero s st i few less = absurd (omega arith)
settled-enough (suc n) (suc m) s st i few less = go (reaches st.table s s) refl (λ j k l. settled-enough n m s (after_victim (victim_of st s) st) j k l)
  where
    go : (r : Bool) → reaches st.table s s ≡ r
        → (IsSound (after_cancel (victim_of st s) st.table) → length (after_cancel (victim_of st s) st.table).requests < n → length (after_cancel (victim_of st s) st.table).requests < m → after_victims n s (after_victim (victim_of st s) st) ≡ after_victims m s (after_victim (victim_of st s) st))
        → cond r (after_victims n s (after_victim (victim_of st s) st)) st ≡ cond r (after_victims m s (after_victim (victim_of st s) st)) st
    go false e next = refl
    go true e next =
        let w = victim-waits st s e in
        let fewer = cancelled-fewer (victim_of st s) st.table w.0 i w.1 in
        next (cancelled-follows (victim_of st s) st.table i).sound (omega (arith, fewer)) (omega (arith, fewer))

-- a session on a cycle waits, and so has a transaction
pub on_circle-open : (st : State) (s v : ℕ) → IsNumbered st → AreOnCircle (waits_for st.table) s v → is_open st v ≡ true
on_circle-open st s v i c = let w = has-waits v st.table.requests (walk-waits st.table v c.back.others s c.back.walk) in i.owners.waiting v w.0 w.1

-- there is one victim at most
pub one-victim : (st : State) → IsNumbered st → (s v w : ℕ) → IsVictim st s v → IsVictim st s w → v ≡ w
one-victim st i s v w a b = i.apart v w (on_circle-open st s v i a.on_circle) (on_circle-open st s w i b.on_circle) (omega (arith, a.youngest w b.on_circle, b.youngest v a.on_circle))

-- if there is a victim for s, s is on a cycle
pub victim-circle : (st : State) (s v : ℕ) → IsVictim st s v → Reaches (waits_for st.table) s s
victim-circle st s v a = reaches-trans (waits_for st.table) s v s a.on_circle.there a.on_circle.back

-- two lists of victims are equal, and so are the states that they lead to
pub same-victims : (s : ℕ) (vs ws : List ℕ) (st last end : State) → IsNumbered st → AreVictims s vs st last → AreVictims s ws st end → (vs ≡ ws) × (last ≡ end)
same-victims s [] [] st last end i a b = (refl, a.1 ∙ sym b.1)
same-victims s [] (w ∷ ws) st last end i a b = absurd (a.0 (victim-circle st s w b.0))
same-victims s (v ∷ vs) [] st last end i a b = absurd (b.0 (victim-circle st s v a.0))
same-victims s (v ∷ vs) (w ∷ ws) st last end i a b =
    let e = one-victim st i s v w a.0 b.0 in
    let r = same-victims s vs ws (after_victim v st) last end (victim-numbered v st i) a.1 (rw (← e) at b.1) in
    (ap (λ (x : ℕ). x ∷ vs) e ∙ ap (λ (xs : List ℕ). w ∷ xs) r.0, r.1)

-- the victims of a request that begins to wait are determined
pub determined : (st : State) → IsNumbered st → AreVictimsDetermined st
determined st i s r k vs ws last end o a b = same-victims s vs ws (with_table (with_request s r k st.table) st) last end (waiting-numbered st s r k i o) a b
