-- The bits in which a pass tells whose wait it has ended, and the sessions that they stand for.
use Rattle.std.proofs.Common.{◌≡◌, ◌≢◌, ℕ, zero, suc, ◌+◌, ◌-◌, ◌<◌, ◌≤◌, ◌↔◌, ◌⊎◌, inl, inr, ⊎_elim, Bool, true, false, ◌||◌, eqb, List, [], ◌∷◌, ◌++◌, length, get_or, take, replicate, Contains, refl, sym, ap, ◌∙◌, subst, arith}
use Rattle.std.specs.Prelude.{if◌then◌else◌}
use Rattle.std.proofs.Math.Bool.{or-false}
use Rattle.std.proofs.lemmas.Bool.{cases_eq, eq-eqb, ne_eqb, or_right, false≢true}
use Rattle.std.proofs.lemmas.List.{append_assoc}
use Rattle.std.proofs.lemmas.List.Elements.{Contains-append_left, Contains-push, Contains-push_cases, Contains-get_or}
use Rattle.std.proofs.Math.Seq.{take-suc}
use Rattle.sequential.proofs.BitRows.{no_bit-zeros}
use Rattle.combining.specs.Woken.{IsOnce}
use Rattle.combining.specs.inner.EndedList.{has_bit, marked}

-- ---- The sessions whose bit is set.

-- A session in front of others.
cons-cases : (x : ℕ) (xs : List ℕ) (u k : ℕ) → k < length (x ∷ xs) → get_or (x ∷ xs) k u ≡ u → (u ≡ x) ⊎ Contains xs u
cons-cases x xs u zero lt e = inl (sym e)
cons-cases x xs u (suc k) lt e = inr (k, omega (arith, lt), e)

cons-behind : (x : ℕ) (xs : List ℕ) (u : ℕ) → Contains xs u → Contains (x ∷ xs) u
cons-behind x xs u h = let lt = h.1 in (suc h.0, omega (arith, lt), h.2)

-- The sessions up to the next one, which stands there if its bit is set.
in-next : (words : List ℕ) (n u : ℕ) → (Contains (marked words n) u ↔ ((1 ≤ u) × (u ≤ n) × (has_bit words (u - 1) ≡ true))) → (b : Bool) → has_bit words n ≡ b
    → Contains (if b then suc n ∷ marked words n else marked words n) u ↔ ((1 ≤ u) × (u ≤ suc n) × (has_bit words (u - 1) ≡ true))
in-next words n u so_far true is = (
  λ h. ⊎_elim
      (λ e. (omega (arith, e), omega (arith, e), ap (λ (i : ℕ). has_bit words i) (let below : u - 1 ≡ n = omega (arith, e) in below) ∙ is))
      (λ c. let k = so_far.0 c in let few = k.1 in (k.0, omega (arith, few), k.2))
      (cons-cases (suc n) (marked words n) u h.0 h.1 h.2),
  λ h. let some = h.0 in let few = h.1 in elim (cases_eq u (suc n)) [
    | inl e ↦ (0, omega arith, sym e)
    | inr ne ↦ cons-behind (suc n) (marked words n) u (so_far.1 (some, omega (arith, ne, few), h.2))
  ],
)
in-next words n u so_far false is = (
  λ c. let k = so_far.0 c in let few = k.1 in (k.0, omega (arith, few), k.2),
  λ h. let some = h.0 in let few = h.1 in elim (cases_eq u (suc n)) [
    | inl e ↦ absurd (false≢true (sym is ∙ (ap (λ (i : ℕ). has_bit words i) (let below : n ≡ u - 1 = omega (arith, e) in below) ∙ h.2)))
    | inr ne ↦ so_far.1 (some, omega (arith, ne, few), h.2)
  ],
)

-- They are those from 1 to n whose bit is set.
pub marked-in : (words : List ℕ) (n u : ℕ) → Contains (marked words n) u ↔ ((1 ≤ u) × (u ≤ n) × (has_bit words (u - 1) ≡ true))
marked-in words zero u = (λ h. let few = h.1 in absurd (omega (arith, few)), λ h. let some = h.0 in let few = h.1 in absurd (omega (arith, some, few)))
marked-in words (suc n) u = in-next words n u (marked-in words n u) (has_bit words n) refl

-- Each stands there once.
once-next : (words : List ℕ) (n : ℕ) → IsOnce (marked words n) → (b : Bool) → IsOnce (if b then suc n ∷ marked words n else marked words n)
once-next words n so_far true = front
  where
    front : (j k : ℕ) → j < k → k < length (suc n ∷ marked words n) → get_or (suc n ∷ marked words n) j 0 ≢ get_or (suc n ∷ marked words n) k 0
    front j zero lt few = λ e. absurd (omega (arith, lt))
    front zero (suc k) lt few = λ e.
        let there = (marked-in words n (get_or (marked words n) k 0)).0 (Contains-get_or (marked words n) k 0 (omega (arith, few))) in
        let most = there.1 in absurd (omega (arith, most, e))
    front (suc j) (suc k) lt few = so_far j k (omega (arith, lt)) (omega (arith, few))
once-next words n so_far false = so_far

pub marked-once : (words : List ℕ) (n : ℕ) → IsOnce (marked words n)
marked-once words zero = λ j k lt few. absurd (omega (arith, few))
marked-once words (suc n) = once-next words n (marked-once words n) (has_bit words n)

-- The length with one in front.
longer-if : (b : Bool) (x : ℕ) (xs : List ℕ) → length (if b then x ∷ xs else xs) ≡ (if b then 1 else 0) + length xs
longer-if true x xs = omega arith
longer-if false x xs = omega arith

-- They are at most n.
pub marked-few : (words : List ℕ) (n : ℕ) → length (marked words n) ≤ n
marked-few words zero = omega arith
marked-few words (suc n) = omega (arith, longer-if (has_bit words n) (suc n) (marked words n), marked-few words n, one (has_bit words n))
  where
    one : (b : Bool) → (if b then 1 else 0) ≤ 1
    one true = omega arith
    one false = omega arith

-- With the same bits they are the same.
marked-same : (old new : List ℕ) (n : ℕ) → ((j : ℕ) → j < n → has_bit new j ≡ has_bit old j) → marked new n ≡ marked old n
marked-same old new zero same = refl
marked-same old new (suc n) same =
    ap (λ (b : Bool). if b then suc n ∷ marked new n else marked new n) (same n (omega arith))
    ∙ ap (λ (l : List ℕ). if has_bit old n then suc n ∷ l else l) (marked-same old new n (λ j lt. same j (omega (arith, lt))))

-- With no bit they are none.
pub marked-none : (m n : ℕ) → marked (replicate m 0) n ≡ []
marked-none m zero = refl
marked-none m (suc n) = ap (λ (b : Bool). if b then suc n ∷ marked (replicate m 0) n else marked (replicate m 0) n) (no_bit-zeros m n) ∙ marked-none m n

module _ (old new : List ℕ) (k : ℕ) (more : (j : ℕ) → has_bit new j ≡ (has_bit old j || eqb j k)) where
  other : (j : ℕ) → j ≢ k → has_bit new j ≡ has_bit old j
  other j ne = more j ∙ (ap (λ (b : Bool). has_bit old j || b) (ne_eqb j k ne) ∙ or-false (has_bit old j))

  at : has_bit new k ≡ true
  at = more k ∙ or_right (has_bit old k) (eqb k k) (eq-eqb k k refl)

  -- With a bit more they are one more.
  pub marked-longer : (n : ℕ) → k < n → has_bit old k ≡ false → length (marked new n) ≡ length (marked old n) + 1
  marked-longer zero lt was = absurd (omega (arith, lt))
  marked-longer (suc n) lt was = elim (cases_eq k n) [
    | inl e ↦ omega (
      arith,
      longer-if (has_bit new n) (suc n) (marked new n),
      longer-if (has_bit old n) (suc n) (marked old n),
      ap {B = ℕ} (λ (b : Bool). if b then 1 else 0) (ap (λ (i : ℕ). has_bit new i) (sym e) ∙ at),
      ap {B = ℕ} (λ (b : Bool). if b then 1 else 0) (ap (λ (i : ℕ). has_bit old i) (sym e) ∙ was),
      ap (λ (l : List ℕ). length l) (marked-same old new n (λ j below. other j (λ is. absurd (omega (arith, is, e, below))))),
    )
    | inr ne ↦ omega (
      arith,
      longer-if (has_bit new n) (suc n) (marked new n),
      longer-if (has_bit old n) (suc n) (marked old n),
      ap {B = ℕ} (λ (b : Bool). if b then 1 else 0) (other n (λ e. ne (sym e))),
      marked-longer n (omega (arith, lt, ne)) was,
    )
  ]

  -- And this one is among them.
  pub marked-with : (n s : ℕ) → k ≡ s - 1 → 1 ≤ s → s ≤ n → (u : ℕ) → Contains (marked new n) u ↔ (Contains (marked old n) u ⊎ (u ≡ s))
  marked-with n s place some few u = (
    λ h. let is = (marked-in new n u).0 h in elim (cases_eq (u - 1) k) [
      | inl e ↦ inr (let l = is.0 in omega (arith, e, place, l, some))
      | inr ne ↦ inl ((marked-in old n u).1 (is.0, is.1, sym (other (u - 1) ne) ∙ is.2))
    ],
    λ h. ⊎_elim
        (λ c. let is = (marked-in old n u).0 c in (marked-in new n u).1 (is.0, is.1, more (u - 1) ∙ ap (λ (b : Bool). b || eqb (u - 1) k) is.2))
        (λ e. subst (λ (v : ℕ). Contains (marked new n) v) (sym e) ((marked-in new n s).1 (some, few, ap (λ (i : ℕ). has_bit new i) (sym place) ∙ at)))
        h,
  )

-- The next session of those that are written.
pub written-next : (b : Bool) (xs rest all : List ℕ) (x : ℕ) → xs ++ (if b then x ∷ rest else rest) ≡ all → (if b then xs ++ x ∷ [] else xs) ++ rest ≡ all
written-next true xs rest all x e = append_assoc xs (x ∷ []) rest ∙ e
written-next false xs rest all x e = e

-- ---- Sessions that are added one after another.

-- What the list with one session more has.
push-members : (xs : List ℕ) (u v : ℕ) → Contains (xs ++ u ∷ []) v ↔ (Contains xs v ⊎ (v ≡ u))
push-members xs u v = (
  λ h. ⊎_elim (λ c. inl c) (λ e. inr (sym e)) (Contains-push_cases xs u v h),
  λ h. ⊎_elim (λ c. Contains-append_left xs (u ∷ []) v c) (λ e. subst (λ (w : ℕ). Contains (xs ++ u ∷ []) w) (sym e) (Contains-push xs u)) h,
)

-- The sessions up to index k were added, and then the one at k.
pub added-next : (old mid new xs : List ℕ) (k d : ℕ) → k < length xs → ((u : ℕ) → Contains mid u ↔ (Contains old u ⊎ Contains (take k xs) u))
    → ((u : ℕ) → Contains new u ↔ (Contains mid u ⊎ (u ≡ get_or xs k d))) → (u : ℕ) → Contains new u ↔ (Contains old u ⊎ Contains (take (k + 1) xs) u)
added-next old mid new xs k d few first last u =
    let whole : take (k + 1) xs ≡ take k xs ++ get_or xs k d ∷ [] = ap (λ (n : ℕ). take n xs) (let e : k + 1 ≡ suc k = omega arith in e) ∙ take-suc xs k d few in
    let p = push-members (take k xs) (get_or xs k d) u in (
      λ h. ⊎_elim (λ m. ⊎_elim (λ o. inl o) (λ t. inr (subst (λ (l : List ℕ). Contains l u) (sym whole) (p.1 (inl t)))) ((first u).0 m)) (λ e. inr (subst (λ (l : List ℕ). Contains l u) (sym whole) (p.1 (inr e)))) ((last u).0 h),
      λ h. (last u).1 (⊎_elim (λ o. inl ((first u).1 (inl o))) (λ t. ⊎_elim (λ f. inl ((first u).1 (inr f))) (λ e. inr e) (p.0 (subst (λ (l : List ℕ). Contains l u) whole t))) h),
    )

-- A session whose bit is set is among them already.
pub marked-already : (words : List ℕ) (n k s : ℕ) → k ≡ s - 1 → 1 ≤ s → s ≤ n → has_bit words k ≡ true → (u : ℕ) → Contains (marked words n) u ↔ (Contains (marked words n) u ⊎ (u ≡ s))
marked-already words n k s place some few is u = (
  λ h. inl h,
  λ h. ⊎_elim (λ c. c) (λ e. subst (λ (v : ℕ). Contains (marked words n) v) (sym e) ((marked-in words n s).1 (some, few, ap (λ (i : ℕ). has_bit words i) (sym place) ∙ is))) h,
)
