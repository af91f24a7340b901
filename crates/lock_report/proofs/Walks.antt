-- The waits of a dump as edges, by sessions and by positions, and the walks along them.
use Rattle.std.proofs.Common.{◌≡◌, ℕ, suc, ◌+◌, ◌-◌, ◌<◌, ◌≤◌, Bool, true, eqb, ◌&&◌, ◌||◌, inl, inr, List, [], ◌∷◌, ◌++◌, length, take, take-suc, add-one, get_or, map, sym, ap, ap₂, subst, ◌∙◌, arith}
use Rattle.std.proofs.Math.Bool.{or-false}
use Rattle.std.specs.Prelude.{IsTrue, ◌↔◌, All}
use Rattle.std.proofs.lemmas.Bool.Decides.{nat_tests, Decides-eqb}
use Rattle.std.proofs.lemmas.Bool.{and_parts, or_cases, or_left, or_right}
use Rattle.std.proofs.lemmas.List.Elements.{All-get_or, All-head, All-tail}
use Rattle.std.proofs.lemmas.List.Folds.{list_any-append}
use Rattle.waits_for.specs.Pairs.{Pairs, pairs_of}
use Rattle.waits_for.specs.Walks.{IsWalk, Reaches}
use Rattle.lock_rules.proofs.Walks.{has, AllIn, found, walk-found}
use Rattle.lock_report.specs.declared.snapshot.WaitFor.{WaitFor}
use Rattle.lock_report.specs.ReadRows.{IsWait}
use Rattle.lock_report.specs.Jam.{does_wait, is_blocked, waiters}
use Rattle.lock_report.specs.inner.Graph.{AreWaitsOf}
use Rattle.lock_rules.proofs.Ranges.{both-ways}

-- one wait more is one edge more
wait-more : (waits : List WaitFor) (w : WaitFor) (s u : ℕ) → does_wait (waits ++ w ∷ []) s u ≡ (does_wait waits s u || (eqb w.session s && eqb w.other u))
wait-more waits w s u =
    list_any-append (λ (v : WaitFor). eqb v.session s && eqb v.other u) waits (w ∷ [])
    ∙ ap (λ (b : Bool). does_wait waits s u || b) (or-false (eqb w.session s && eqb w.other u))

-- the position of a session
at-position : (a k : ℕ) → 1 ≤ k → eqb a (k - 1) ≡ eqb k (a + 1)
at-position a k some = grind (arith, nat_tests)

-- with the edge of the next wait, by position, the edges are those of one wait more
pub next-edge : (n : ℕ) (waits : List WaitFor) (i : ℕ) (d : WaitFor) (old new : ℕ → ℕ → Bool) → All (IsWait n) waits → i < length waits
    → ((a b : ℕ) → old a b ≡ does_wait (take i waits) (a + 1) (b + 1))
    → ((a b : ℕ) → new a b ≡ (old a b || (eqb a ((get_or waits i d).session - 1) && eqb b ((get_or waits i d).other - 1))))
    → (a b : ℕ) → new a b ≡ does_wait (take (i + 1) waits) (a + 1) (b + 1)
next-edge n waits i d old new all lt so_far more a b =
    let w : WaitFor = get_or waits i d in
    let within = All-get_or (IsWait n) waits i d lt all in
    more a b
    ∙ ap₂ (λ (x y : Bool). x || y) (so_far a b) (ap₂ (λ (x y : Bool). x && y) (at-position a w.session within.0.0) (at-position b w.other within.1.0))
    ∙ sym (wait-more (take i waits) w (a + 1) (b + 1))
    ∙ ap (λ (ws : List WaitFor). does_wait ws (a + 1) (b + 1)) (sym (ap (λ (k : ℕ). take k waits) (add-one i) ∙ take-suc waits i d lt))

-- who waits is a session of number 1 at least
pub some-waits : (n : ℕ) (waits : List WaitFor) → All (IsWait n) waits → (s u : ℕ) → does_wait waits s u ≡ true → 1 ≤ s
some-waits n [] all s u h = absurd (cc)
some-waits n (w ∷ ws) all s u h = elim (or_cases (eqb w.session s && eqb w.other u) (does_wait ws s u) h) [
  | inl k ↦
      let p = and_parts (eqb w.session s) (eqb w.other u) k in
      let e : w.session ≡ s = (Decides-eqb w.session s).0 p.0 in
      let within = All-head (IsWait n) w ws all in
      omega (arith, e, within.0.0)
  | inr k ↦ some-waits n ws (All-tail (IsWait n) w ws all) s u k
]

-- who waits is among those who wait
waiter-listed : (waits : List WaitFor) (s u : ℕ) → does_wait waits s u ≡ true → has s (waiters waits) ≡ true
waiter-listed [] s u h = absurd (cc)
waiter-listed (w ∷ ws) s u h = elim (or_cases (eqb w.session s && eqb w.other u) (does_wait ws s u) h) [
  | inl k ↦ or_left (eqb w.session s) (has s (waiters ws)) ((and_parts (eqb w.session s) (eqb w.other u) k).0)
  | inr k ↦ or_right (eqb w.session s) (has s (waiters ws)) (waiter-listed ws s u k)
]

-- who waits on a walk behind its first session is among those who wait
pub all-listed : (waits : List WaitFor) (ws : List ℕ) (s u : ℕ) → IsWalk (does_wait waits) s ws u → AllIn ws (waiters waits)
all-listed waits [] s u walk = tt
all-listed waits (w ∷ []) s u walk = (waiter-listed waits w u walk.1, tt)
all-listed waits (w ∷ v ∷ ws) s u walk = (waiter-listed waits w v walk.1.0, all-listed waits (v ∷ ws) w u walk.1)

module _ (p : Pairs) (waits : List WaitFor) (same : AreWaitsOf p waits) where
  -- a walk by positions is one by sessions
  up-walk : (a : ℕ) (vs : List ℕ) (b : ℕ) → IsWalk (pairs_of p) a vs b → IsWalk (does_wait waits) (a + 1) (map (λ v. v + 1) vs) (b + 1)
  up-walk a [] b w = sym (same.pairs a b) ∙ w
  up-walk a (v ∷ vs) b w = (sym (same.pairs a v) ∙ w.0, up-walk v vs b w.1)

  -- a walk by sessions begins at a number of at least 1
  first-some : (v : ℕ) (vs : List ℕ) (u : ℕ) → IsWalk (does_wait waits) v vs u → 1 ≤ v
  first-some v [] u w = same.some v u w
  first-some v (x ∷ vs) u w = same.some v x w.0

  -- a walk by sessions is one by positions
  down-walk : (a : ℕ) (vs : List ℕ) (b : ℕ) → IsWalk (does_wait waits) (a + 1) vs (b + 1) → IsWalk (pairs_of p) a (map (λ v. v - 1) vs) b
  down-walk a [] b w = same.pairs a b ∙ w
  down-walk a (v ∷ vs) b w =
      let e : v - 1 + 1 ≡ v = omega (arith, first-some v vs (b + 1) w.1) in
      (same.pairs a (v - 1) ∙ (ap (does_wait waits (a + 1)) e ∙ w.0), down-walk (v - 1) vs b (subst (λ (x : ℕ). IsWalk (does_wait waits) x vs (b + 1)) (sym e) w.1))

  -- what is reached by positions is blocked
  pub reached-blocked : (a b : ℕ) → Reaches (pairs_of p) a b → is_blocked waits (a + 1) (b + 1) ≡ true
  reached-blocked a b r =
      let walk = up-walk a r.others b r.walk in
      found (does_wait waits) (length (waiters waits)) (waiters waits) (a + 1) (b + 1) (map (λ v. v + 1) r.others) (omega arith) walk
      (all-listed waits (map (λ v. v + 1) r.others) (a + 1) (b + 1) walk)

  -- what is blocked is reached by positions
  pub blocked-reached : (a b : ℕ) → is_blocked waits (a + 1) (b + 1) ≡ true → Reaches (pairs_of p) a b
  blocked-reached a b h =
      let w = walk-found (does_wait waits) (suc (length (waiters waits))) (waiters waits) (a + 1) (b + 1) h in
      record { others = map (λ v. v - 1) w.0; walk = down-walk a w.0 b w.1 }

-- a search by positions tells who is blocked
pub search-told : (p : Pairs) (waits : List WaitFor) → AreWaitsOf p waits → (s u : ℕ) (r : Bool) → 1 ≤ s → 1 ≤ u → IsTrue r ↔ Reaches (pairs_of p) (s - 1) (u - 1) → r ≡ is_blocked waits s u
search-told p waits same s u r s_some u_some h =
    let here : s - 1 + 1 ≡ s = omega (arith, s_some) in
    let there : u - 1 + 1 ≡ u = omega (arith, u_some) in
    both-ways r (is_blocked waits s u)
    (λ e. subst (λ (x : ℕ). is_blocked waits x u ≡ true) here (subst (λ (x : ℕ). is_blocked waits (s - 1 + 1) x ≡ true) there (reached-blocked p waits same (s - 1) (u - 1) (h.0 e))))
    (λ e. h.1 (blocked-reached p waits same (s - 1) (u - 1)
    (subst (λ (x : ℕ). is_blocked waits x (u - 1 + 1) ≡ true) (sym here) (subst (λ (x : ℕ). is_blocked waits s x ≡ true) (sym there) e))))
