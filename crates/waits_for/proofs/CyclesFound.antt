-- A cycle that was found: its positions are sessions, and no more than there are.
use Rattle.std.proofs.Common.{◌≡◌, ℕ, zero, suc, ◌+◌, ◌<◌, ◌≤◌, inl, inr, Bool, true, List, [], ◌∷◌, length, get_or, arith, subst}
use Rattle.std.proofs.lemmas.Bool.{cases_lt}
use Rattle.std.proofs.lemmas.Map.Steps.{length-le_from_distinct_below}
use Rattle.waits_for.specs.Pairs.{Pairs, pairs_of}
use Rattle.waits_for.specs.Walks.{IsWalk, Reaches}
use Rattle.waits_for.proofs.Places.{pairs_of-within}
use Rattle.waits_for.specs.Cycles.{IsCycle}
use Rattle.waits_for.proofs.CycleMeeting.{index-of}

module _ (p : Pairs) (t : ℕ) (cycle : List ℕ) (h : IsCycle (pairs_of p) t cycle) where
  -- Each position is below the number of sessions.
  pub cycle-within : (k : ℕ) → k < length cycle → get_or cycle k 0 < p.sessions
  cycle-within k lt = elim (cases_lt (k + 1) (length cycle)) [
    | inl low ↦ (pairs_of-within p (get_or cycle k 0) (get_or cycle (k + 1) 0) (h.waits k low)).0
    | inr high ↦ (pairs_of-within p (get_or cycle k 0) t (h.closed k (omega (arith, lt, high)))).0
  ]

  -- There are no more positions than sessions.
  pub cycle-few : length cycle ≤ p.sessions
  cycle-few = length-le_from_distinct_below cycle p.sessions h.once (λ u e. let i = index-of u cycle e in rw (← i.2) (cycle-within i.0 i.1))

-- From the first of some positions, each of which waits for the next and the last for t, a walk leads to t.
walk-from : (pairs : ℕ → ℕ → Bool) (t x : ℕ) (xs : List ℕ) → ((k : ℕ) → k + 1 < length (x ∷ xs) → pairs (get_or (x ∷ xs) k 0) (get_or (x ∷ xs) (k + 1) 0) ≡ true) → ((k : ℕ) → k + 1 ≡ length (x ∷ xs) → pairs (get_or (x ∷ xs) k 0) t ≡ true) → IsWalk pairs x xs t
walk-from pairs t x [] waits closed = closed 0 (omega arith)
walk-from pairs t x (y ∷ xs) waits closed = (
  waits 0 (omega arith),
  walk-from pairs t y xs
      (λ k lt. let e : suc k + 1 ≡ suc (k + 1) = omega arith in subst (λ (n : ℕ). pairs (get_or (y ∷ xs) k 0) (get_or (x ∷ y ∷ xs) n 0) ≡ true) e (waits (suc k) (omega (arith, lt))))
      (λ k e. closed (suc k) (omega (arith, e))),
)

-- Who is on a cycle that was found reaches itself.
pub cycle-reaches : (pairs : ℕ → ℕ → Bool) (t : ℕ) (cycle : List ℕ) → IsCycle pairs t cycle → Reaches pairs t t
cycle-reaches pairs t [] h = absurd (let some = h.some in omega (arith, some))
cycle-reaches pairs t (x ∷ xs) h = record { others = xs; walk = subst (λ (u : ℕ). IsWalk pairs u xs t) h.first (walk-from pairs t x xs h.waits h.closed) }

module _ (pairs : ℕ → ℕ → Bool) where
  -- Of the positions of a walk, with the one that it leads from, each waits for the next.
  pub walk-waits : (x : ℕ) (xs : List ℕ) (t : ℕ) → IsWalk pairs x xs t → (k : ℕ) → k + 1 < length (x ∷ xs) → pairs (get_or (x ∷ xs) k 0) (get_or (x ∷ xs) (k + 1) 0) ≡ true
  walk-waits x [] t walk k lt = absurd (omega (arith, lt))
  walk-waits x (y ∷ xs) t walk zero lt = walk.0
  walk-waits x (y ∷ xs) t walk (suc k) lt = let e : suc (k + 1) ≡ suc k + 1 = omega arith in subst (λ (n : ℕ). pairs (get_or (y ∷ xs) k 0) (get_or (x ∷ y ∷ xs) n 0) ≡ true) e (walk-waits y xs t walk.1 k (omega (arith, lt)))

  -- And the last for the one that it leads to.
  pub walk-closed : (x : ℕ) (xs : List ℕ) (t : ℕ) → IsWalk pairs x xs t → (k : ℕ) → k + 1 ≡ length (x ∷ xs) → pairs (get_or (x ∷ xs) k 0) t ≡ true
  walk-closed x [] t walk zero e = walk
  walk-closed x [] t walk (suc k) e = absurd (omega (arith, e))
  walk-closed x (y ∷ xs) t walk zero e = absurd (omega (arith, e))
  walk-closed x (y ∷ xs) t walk (suc k) e = walk-closed y xs t walk.1 k (omega (arith, e))

  -- If each walk from t to itself leads through so many others, each cycle through t has them besides t.
  pub cycle-long : (t n : ℕ) → ((others : List ℕ) → IsWalk pairs t others t → n ≤ length others) → (cycle : List ℕ) → IsCycle pairs t cycle → n + 1 ≤ length cycle
  cycle-long t n all [] h = absurd (let some = h.some in omega (arith, some))
  cycle-long t n all (x ∷ xs) h =
      let others = all xs (subst (λ (u : ℕ). IsWalk pairs u xs t) h.first (walk-from pairs t x xs h.waits h.closed)) in
      omega (arith, others)
