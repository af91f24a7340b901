-- Any walk can be shortened to one that visits no session twice, so the bounded search finds it.
use Rattle.std.proofs.Common.{◌≡◌, ℕ, zero, suc, ◌<◌, ◌≤◌, Bool, true, false, not, eqb, ◌&&◌, ◌⊎◌, inl, inr, List, [], ◌∷◌, length, refl, ◌∙◌, ap, arith}
use Rattle.std.specs.List.{list_any}
use Rattle.std.specs.Prelude.{filter}
use Rattle.std.proofs.lemmas.Bool.Decides.{nat_tests, Decides-eqb}
use Rattle.std.proofs.lemmas.Bool.{and_parts, and_from, or_cases, or_left, or_right, cases_Bool}
use Rattle.waits_for.specs.Walks.{IsWalk}
use Rattle.lock_rules.specs.Waits.{walks_within}

-- x is in the list
abbrev pub has : ℕ → List ℕ → Bool
has x vs = list_any (λ y. eqb y x) vs

-- the list without v
abbrev without : ℕ → List ℕ → List ℕ
without v vs = filter (λ x. not (eqb x v)) vs

-- every session of the first list is in the second
abbrev pub AllIn : List ℕ → List ℕ → Type 0
AllIn [] vs = Unit {0}
AllIn (w ∷ ws) vs = (has w vs ≡ true) × AllIn ws vs

-- if some session of a list passes a test, one can be named
pub any-find : (p : ℕ → Bool) (xs : List ℕ) → list_any p xs ≡ true → (x : ℕ) × (has x xs ≡ true) × (p x ≡ true)
any-find p [] h = absurd (cc)
any-find p (y ∷ xs) h = elim (or_cases (p y) (list_any p xs) h) [
  | inl k ↦ (y, or_left (eqb y y) (has y xs) ((Decides-eqb y y).1 refl), k)
  | inr k ↦ let r = any-find p xs k in (r.0, or_right (eqb y r.0) (has r.0 xs) r.1, r.2)
]

-- if a session of a list passes a test, some session of the list does
pub any-from : (p : ℕ → Bool) (x : ℕ) (xs : List ℕ) → has x xs ≡ true → p x ≡ true → list_any p xs ≡ true
any-from p x [] h k = h
any-from p x (y ∷ xs) h k = elim (or_cases (eqb y x) (has x xs) h) [
  | inl e ↦ or_left (p y) (list_any p xs) (ap p ((Decides-eqb y x).0 e) ∙ k)
  | inr e ↦ or_right (p y) (list_any p xs) (any-from p x xs e k)
]

-- a session other than v stays in the list without v
has-without : (w v : ℕ) (vs : List ℕ) → has w vs ≡ true → eqb w v ≡ false → has w (without v vs) ≡ true
has-without w v [] h k = h
has-without w v (y ∷ vs) h k = grind (arith, nat_tests, has-without w v vs)

-- a session of the list without v is in the list
has-before : (w v : ℕ) (vs : List ℕ) → has w (without v vs) ≡ true → has w vs ≡ true
has-before w v [] h = h
has-before w v (y ∷ vs) h = grind (arith, nat_tests, has-before w v vs)

-- the list without v isn't longer
length-without_le : (v : ℕ) (vs : List ℕ) → length (without v vs) ≤ length vs
length-without_le v [] = omega arith
length-without_le v (y ∷ vs) = grind (arith, nat_tests, length-without_le v vs)

-- the list without v is shorter if v is in it
pub length-without : (v : ℕ) (vs : List ℕ) → has v vs ≡ true → length (without v vs) < length vs
length-without v [] h = absurd (cc)
length-without v (y ∷ vs) h = grind (arith, nat_tests, length-without v vs, length-without_le v vs)

module _ (pairs : ℕ → ℕ → Bool) where
  -- a walk from v to u that doesn't come back to v
  abbrev Clean : ℕ → ℕ → List ℕ → Type 0
  Clean v u vs = (ws : List ℕ) × (IsWalk pairs v ws u × AllIn ws (without v vs))

  -- a walk avoids v, or its part behind the last visit of v is clean
  clean-or : (t v u : ℕ) (vs ws : List ℕ) → IsWalk pairs t ws u → AllIn ws vs → Clean v u vs ⊎ AllIn ws (without v vs)
  clean-or t v u vs [] walk all = inr tt
  clean-or t v u vs (w ∷ ws) walk all = elim (clean-or w v u vs ws walk.1 all.1) [
    | inl r ↦ inl r
    | inr rest ↦ elim (cases_Bool (eqb w v)) [
      | inl e ↦ inl (ws, (rw ((Decides-eqb w v).0 e) at walk.1, rest))
      | inr e ↦ inr (has-without w v vs all.0 e, rest)
    ]
  ]

  -- any walk from v can be shortened to one that doesn't come back to v
  clean : (v u : ℕ) (vs ws : List ℕ) → IsWalk pairs v ws u → AllIn ws vs → Clean v u vs
  clean v u vs ws walk all = elim (clean-or v v u vs ws walk all) [ inl r ↦ r | inr rest ↦ (ws, (walk, rest)) ]

  -- a walk found without v is found with v
  wider : (v : ℕ) (vs : List ℕ) (n t u : ℕ) → walks_within pairs (without v vs) n t u ≡ true → walks_within pairs vs n t u ≡ true
  wider v vs zero t u h = h
  wider v vs (suc n) t u h = elim (or_cases (pairs t u) (list_any (λ x. pairs t x && walks_within pairs (without v vs) n x u) (without v vs)) h) [
    | inl k ↦ or_left (pairs t u) (list_any (λ x. pairs t x && walks_within pairs vs n x u) vs) k
    | inr k ↦
        let r = any-find (λ x. pairs t x && walks_within pairs (without v vs) n x u) (without v vs) k in
        let p = and_parts (pairs t r.0) (walks_within pairs (without v vs) n r.0 u) r.2 in
        or_right (pairs t u) (list_any (λ x. pairs t x && walks_within pairs vs n x u) vs) (any-from (λ x. pairs t x && walks_within pairs vs n x u) r.0 vs (has-before r.0 v vs r.1) (and_from (pairs t r.0) (walks_within pairs vs n r.0 u) p.0 (wider v vs n r.0 u p.1)))
  ]

  -- every walk through sessions of the list is found
  pub found : (n : ℕ) (vs : List ℕ) (t u : ℕ) (ws : List ℕ) → length vs ≤ n → IsWalk pairs t ws u → AllIn ws vs → walks_within pairs vs (suc n) t u ≡ true
  found n vs t u [] le walk all = or_left (pairs t u) (list_any (λ x. pairs t x && walks_within pairs vs n x u) vs) walk
  found zero vs t u (v ∷ ws) le walk all = absurd (omega (arith, length-without v vs all.0))
  found (suc n) vs t u (v ∷ ws) le walk all =
      let c = clean v u vs ws walk.1 all.1 in
      let h = found n (without v vs) v u c.0 (omega (arith, length-without v vs all.0)) c.1.0 c.1.1 in
      or_right (pairs t u) (list_any (λ x. pairs t x && walks_within pairs vs (suc n) x u) vs) (any-from (λ x. pairs t x && walks_within pairs vs (suc n) x u) v vs all.0 (and_from (pairs t v) (walks_within pairs vs (suc n) v u) walk.0 (wider v vs (suc n) v u h)))

  -- what is found is a walk
  pub walk-found : (n : ℕ) (vs : List ℕ) (t u : ℕ) → walks_within pairs vs n t u ≡ true → (ws : List ℕ) × IsWalk pairs t ws u
  walk-found zero vs t u h = absurd (cc)
  walk-found (suc n) vs t u h = elim (or_cases (pairs t u) (list_any (λ x. pairs t x && walks_within pairs vs n x u) vs) h) [
    | inl k ↦ ([], k)
    | inr k ↦
        let r = any-find (λ x. pairs t x && walks_within pairs vs n x u) vs k in
        let p = and_parts (pairs t r.0) (walks_within pairs vs n r.0 u) r.2 in
        let w = walk-found n vs r.0 u p.1 in
        (r.0 ∷ w.0, (p.0, w.1))
  ]
