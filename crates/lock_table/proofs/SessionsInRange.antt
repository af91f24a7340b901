-- Each session that holds or waits in the lock table has a locker.
use Rattle.std.proofs.Common.{◌≡◌, ℕ, zero, suc, ◌<◌, ◌≤◌, Bool, true, false, eqb, ◌||◌, List, [], ◌∷◌, length, Option, Some, None, IfSome, cond, refl, sym, ◌∙◌, ap, arith, subst}
use Rattle.std.proofs.lemmas.Bool.Decides.{nat_tests, Decides-eqb}
use Rattle.std.proofs.lemmas.List.Elements.{All-nil, All-cons, All-head, All-tail}
use Rattle.lock_holders.specs.declared.session_mode.SessionMode.{SessionMode}
use Rattle.lock_table.specs.declared.cells.Cell.{Cell}
use Rattle.lock_table.specs.declared.table.LockTable.{LockTable}
use Rattle.lock_table.specs.declared.lockers.Locker.{Locker}
use Rattle.lock_table.specs.inner.Cells.{View, Cells, cell_at, view_in, cell_view, can_grant, queue_with, view_after_asking, IsOnce, IsKeptCell, AreKeptCells}
use Rattle.lock_holders.specs.SessionModes.{has_session, with_holder, AreOfSessions}
use Rattle.session_locks.specs.Resources.{has_path}
use Rattle.lock_table.specs.inner.Lockers.{Standing, standings_of, standing_at, DoAgree}
use Rattle.lock_table.specs.Changes.{view_at, IsWhole}
use Rattle.lock_table.specs.inner.Blocking.{IsOfSessions}
use Rattle.lock_table.proofs.ResourceViews.{both, once-nobody}
use Rattle.lock_holders.proofs.SessionModes.{has_session-with_holder}
use Rattle.lock_table.proofs.WaitQueues.{has_session-queued}
use Rattle.lock_table.proofs.LockerStandings.{waits-within, length-standings}

-- the invariant of the cells gives that of each view
pub once-at : (r : List ℕ) (cs : Cells) → AreKeptCells cs → IsOnce (cell_view r cs)
once-at r cs k = go (cell_at r cs) (k r)
  where
    go : (o : Option Cell) → IfSome o IsKeptCell → IsOnce (view_in o)
    go None h = once-nobody
    go (Some c) h = h.once

-- a session that holds something has a locker
holds-within : (ss : List Standing) (r : List ℕ) (s : ℕ) → has_path r (standing_at s ss).held ≡ true → s < length ss
holds-within [] r s h = absurd (cc)
holds-within (x ∷ ss) r zero h = omega arith
holds-within (x ∷ ss) r (suc s) h = omega (arith, holds-within ss r s h)

-- if 0 is not in a list, and no number is above `n`, all are sessions 1 to `n`
all-numbered : (n : ℕ) (cs : List SessionMode) → has_session 0 cs ≡ false → ((u : ℕ) → has_session u cs ≡ true → u ≤ n) → AreOfSessions n cs
all-numbered n [] h k = All-nil (λ c. (1 ≤ c.session) × (c.session ≤ n))
all-numbered n (c ∷ cs) h k =
    All-cons (λ c. (1 ≤ c.session) × (c.session ≤ n)) c cs (first (eqb c.session 0) refl h, k c.session (ap (λ (b : Bool). b || has_session c.session cs) ((Decides-eqb c.session c.session).1 refl)))
    (all-numbered n cs (rest (eqb c.session 0) h) (λ u e. k u (more u (eqb c.session u) e)))
  where
    first : (b : Bool) → eqb c.session 0 ≡ b → (b || has_session 0 cs) ≡ false → 1 ≤ c.session
    first true e h = absurd (cc)
    first false e h = grind (arith, nat_tests)

    rest : (b : Bool) → (b || has_session 0 cs) ≡ false → has_session 0 cs ≡ false
    rest true h = absurd (cc)
    rest false h = h

    more : (u : ℕ) (b : Bool) → has_session u cs ≡ true → (b || has_session u cs) ≡ true
    more u true e = refl
    more u false e = e

-- if lockers and a view agree, each session of the view has a locker
pub numbered-agree : (n : ℕ) (ws : List Locker) → n ≡ length ws → (r : List ℕ) (v : View) → DoAgree r v (standings_of ws) → IsOnce v → IsOfSessions n v
numbered-agree n ws long r v a o = record {
  holders = all-numbered n v.holders o.holders (λ u e. omega (arith, holds-within (standings_of ws) r u (a.held u ∙ e), length-standings ws, long));
  waiting = all-numbered n v.waiting o.waiting (λ u e. omega (arith, waits-within (standings_of ws) r u (a.wanted u ∙ e), length-standings ws, long));
}

-- each session that holds a resource or waits for it has a locker
pub numbered-whole : (d : LockTable) (n : ℕ) → n ≡ length d.lockers.items → IsWhole d → (r : List ℕ) → IsOfSessions n (view_at r d)
numbered-whole d n long w r = numbered-agree n d.lockers.items long r (view_at r d) (w.agree r) (once-at r d.cells.entries w.cells)

-- after a request

-- the numbers of the sessions in a list are from 1 to `n`, if all are
among : (n : ℕ) (cs : List SessionMode) → AreOfSessions n cs → (u : ℕ) → has_session u cs ≡ true → (1 ≤ u) × (u ≤ n)
among n [] k u h = absurd (cc)
among n (c ∷ cs) k u h = go (eqb c.session u) refl h (among n cs (All-tail (λ c. (1 ≤ c.session) × (c.session ≤ n)) c cs k) u)
  where
    go : (b : Bool) → eqb c.session u ≡ b → (b || has_session u cs) ≡ true → (has_session u cs ≡ true → (1 ≤ u) × (u ≤ n)) → (1 ≤ u) × (u ≤ n)
    go true e f next = subst (λ (i : ℕ). (1 ≤ i) × (i ≤ n)) ((Decides-eqb c.session u).0 e) (All-head (λ c. (1 ≤ c.session) × (c.session ≤ n)) c cs k)
    go false e f next = next f

-- sessions 1 to `n` stay such if one of them is added
more-numbered : (n : ℕ) (c : SessionMode) (cs more : List SessionMode) → 1 ≤ c.session → c.session ≤ n → AreOfSessions n cs → ((u : ℕ) → has_session u more ≡ (eqb c.session u || has_session u cs)) → AreOfSessions n more
more-numbered n c cs more some few k is = all-numbered n more none (λ u e. (each u (sym (is u) ∙ e)).1)
  where
    each : (u : ℕ) → (eqb c.session u || has_session u cs) ≡ true → (1 ≤ u) × (u ≤ n)
    each u h = go (eqb c.session u) refl h
      where
        go : (b : Bool) → eqb c.session u ≡ b → (b || has_session u cs) ≡ true → (1 ≤ u) × (u ≤ n)
        go true e f = subst (λ (i : ℕ). (1 ≤ i) × (i ≤ n)) ((Decides-eqb c.session u).0 e) (some, few)
        go false e f = among n cs k u f

    none : has_session 0 more ≡ false
    none = go (has_session 0 more) refl
      where
        go : (b : Bool) → has_session 0 more ≡ b → has_session 0 more ≡ false
        go false e = e
        go true e = absurd (let z = (each 0 (sym (is 0) ∙ e)).0 in omega (arith, z))

-- after a request of a session with a locker, each session that holds or waits has a locker
pub numbered-asked : (n : ℕ) (c : SessionMode) (v : View) → 1 ≤ c.session → c.session ≤ n → IsOfSessions n v → IsOfSessions n (view_after_asking c v)
numbered-asked n c v some few k = go (can_grant c v)
  where
    go : (g : Bool) → IsOfSessions n (cond g (both (with_holder c v.holders) v.waiting) (both v.holders (queue_with c v.holders v.waiting)))
    go true = record { holders = more-numbered n c v.holders (with_holder c v.holders) some few k.holders (λ u. has_session-with_holder u c v.holders); waiting = k.waiting }
    go false = record { holders = k.holders; waiting = more-numbered n c v.waiting (queue_with c v.holders v.waiting) some few k.waiting (λ u. has_session-queued u c v.holders v.waiting) }
