-- Lists joined end to end, number by number: what is told of the whole is what is told of the parts.
use Rattle.std.proofs.Common.{◌≡◌, ℕ, zero, suc, ◌+◌, ◌<◌, ◌≤◌, Bool, true, false, cond, eqb, ltb, ◌&&◌, ◌||◌, inl, inr, List, [], ◌∷◌, ◌++◌, length, map, filter, append-nil, refl, sym, ◌∙◌, ap, arith}
use Rattle.std.specs.Prelude.{All}
use Rattle.std.specs.List.{flat_map, list_any, range_with_len}
use Rattle.std.proofs.Math.Bool.{and-false, or-false}
use Rattle.std.proofs.lemmas.Bool.{and_from, and_parts, cases_Bool, lt-ltb, or_left, or_right}
use Rattle.std.proofs.lemmas.Bool.Decides.{nat_tests, Decides-eqb}
use Rattle.std.proofs.lemmas.Grind.{flat_map-append}
use Rattle.std.proofs.lemmas.List.{map-append}
use Rattle.std.proofs.lemmas.List.Elements.{All-cons, All-head, All-nil, All-tail, filter-append}
use Rattle.std.proofs.lemmas.List.Folds.{list_any-append}
use Rattle.lock_rules.proofs.Lists.{eqb-refl}
use Rattle.lock_rules.proofs.Walks.{any-find, any-from, has}
use Rattle.lock_rules.proofs.Ranges.{both-ways}

-- whether one passes
pub any-flat : {X : Type 0} (p : X → Bool) (f : ℕ → List X) (us : List ℕ) → list_any p (flat_map f us) ≡ list_any (λ u. list_any p (f u)) us
any-flat p f [] = refl
any-flat p f (u ∷ us) = list_any-append p (f u) (flat_map f us) ∙ ap (λ (b : Bool). list_any p (f u) || b) (any-flat p f us)

-- what is made of each
pub flat-flat : {X Y : Type 0} (g : X → List Y) (f : ℕ → List X) (us : List ℕ) → flat_map g (flat_map f us) ≡ flat_map (λ u. flat_map g (f u)) us
flat-flat g f [] = refl
flat-flat g f (u ∷ us) = flat_map-append g (f u) (flat_map f us) ∙ ap (λ (l : List _). flat_map g (f u) ++ l) (flat-flat g f us)

pub map-flat : {X Y : Type 0} (h : X → Y) (f : ℕ → List X) (us : List ℕ) → map h (flat_map f us) ≡ flat_map (λ u. map h (f u)) us
map-flat h f [] = refl
map-flat h f (u ∷ us) = map-append h (f u) (flat_map f us) ∙ ap (λ (l : List _). map h (f u) ++ l) (map-flat h f us)

pub filter-flat : {X : Type 0} (p : X → Bool) (f : ℕ → List X) (us : List ℕ) → filter p (flat_map f us) ≡ flat_map (λ u. filter p (f u)) us
filter-flat p f [] = refl
filter-flat p f (u ∷ us) = filter-append p (f u) (flat_map f us) ∙ ap (λ (l : List _). filter p (f u) ++ l) (filter-flat p f us)

-- a test of a list of one under a test
pub any-one : {X : Type 0} (p : X → Bool) (b : Bool) (x : X) → list_any p (cond b (x ∷ []) []) ≡ (b && p x)
any-one p true x = or-false (p x)
any-one p false x = refl

-- no number passes a test that fails
pub none-any : (p : ℕ → Bool) (us : List ℕ) → list_any (λ u. p u && false) us ≡ false
none-any p [] = refl
none-any p (u ∷ us) = ap (λ (b : Bool). b || list_any (λ v. p v && false) us) (and-false (p u)) ∙ none-any p us

-- nothing is joined
pub none-flat : {X : Type 0} (us : List ℕ) → flat_map {A = X} (λ u. []) us ≡ []
none-flat [] = refl
none-flat (u ∷ us) = none-flat us

-- one passes exactly if some are left
pub any-some : (p : ℕ → Bool) (us : List ℕ) → list_any p us ≡ ltb 0 (length (filter p us))
any-some p [] = refl
any-some p (u ∷ us) = go (p u) (any-some p us)
  where
    go : (b : Bool) → list_any p us ≡ ltb 0 (length (filter p us)) → (b || list_any p us) ≡ ltb 0 (length (cond b (u ∷ filter p us) (filter p us)))
    go true e = sym (lt-ltb 0 (length (u ∷ filter p us)) (omega arith))
    go false e = e

-- a number is in a range
in-range : (a n u : ℕ) → a ≤ u → u < a + n → has u (range_with_len a n) ≡ true
in-range a zero u from below = absurd (omega (arith, from, below))
in-range a (suc n) u from below = elim (cases_Bool (eqb a u)) [
  | inl y ↦ or_left (eqb a u) (has u (range_with_len (a + 1) n)) y
  | inr k ↦ or_right (eqb a u) (has u (range_with_len (a + 1) n)) (in-range (a + 1) n u (grind (arith, nat_tests, from, k)) (omega (arith, below)))
]

-- a test of one number of the range 1 to n
pub picked : (p : ℕ → Bool) (n u : ℕ) → (p u ≡ true → (1 ≤ u) × (u ≤ n)) → list_any (λ v. p v && eqb v u) (range_with_len 1 n) ≡ p u
picked p n u within = both-ways (list_any (λ v. p v && eqb v u) (range_with_len 1 n)) (p u)
    (λ h. let f = any-find (λ v. p v && eqb v u) (range_with_len 1 n) h in
    let k = and_parts (p f.0) (eqb f.0 u) f.2 in
    sym (ap p ((Decides-eqb f.0 u).0 k.1)) ∙ k.0)
    (λ h. any-from (λ v. p v && eqb v u) u (range_with_len 1 n) (in-range 1 n u (within h).0 (omega (arith, (within h).1))) (and_from (p u) (eqb u u) h (eqb-refl u)))

-- no number of a range is below it
past-flat : {X : Type 0} (f : ℕ → List X) (s a k : ℕ) → s < a → flat_map (λ v. cond (eqb v s) (f v) []) (range_with_len a k) ≡ []
past-flat f s a zero past = refl
past-flat f s a (suc k) past =
    let differs : eqb a s ≡ false = grind (arith, nat_tests, past) in
    ap (λ (b : Bool). cond b (f a) [] ++ flat_map (λ v. cond (eqb v s) (f v) []) (range_with_len (a + 1) k)) differs ∙ past-flat f s (a + 1) k (omega (arith, past))

-- what is joined of one number of a range
pub picked-flat : {X : Type 0} (f : ℕ → List X) (s a k : ℕ) → a ≤ s → s < a + k → flat_map (λ v. cond (eqb v s) (f v) []) (range_with_len a k) ≡ f s
picked-flat f s a zero from below = absurd (omega (arith, from, below))
picked-flat {X} f s a (suc k) from below = go (eqb a s) refl (picked-flat f s (a + 1) k)
  where
    rest : List X
    rest = flat_map (λ v. cond (eqb v s) (f v) []) (range_with_len (a + 1) k)

    go : (b : Bool) → eqb a s ≡ b → (a + 1 ≤ s → s < a + 1 + k → rest ≡ f s) → cond b (f a) [] ++ rest ≡ f s
    go true e next =
        let same : a ≡ s = (Decides-eqb a s).0 e in
        ap (λ (l : List X). f a ++ l) (past-flat f s (a + 1) k (omega (arith, same))) ∙ (append-nil (f a) ∙ ap f same)
    go false e next = next (grind (arith, nat_tests, from, e)) (omega (arith, below))

-- what holds of the parts

all-append : {X : Type 0} (P : X → Type 0) (xs ys : List X) → All P xs → All P ys → All P (xs ++ ys)
all-append P [] ys a b = b
all-append P (x ∷ xs) ys a b = All-cons P x (xs ++ ys) (All-head P x xs a) (all-append P xs ys (All-tail P x xs a) b)

pub all-range : {X : Type 0} (P : X → Type 0) (f : ℕ → List X) (a k : ℕ) → ((v : ℕ) → a ≤ v → v < a + k → All P (f v)) → All P (flat_map f (range_with_len a k))
all-range P f a zero h = All-nil P
all-range P f a (suc k) h =
    all-append P (f a) (flat_map f (range_with_len (a + 1) k)) (h a (omega arith) (omega arith))
    (all-range P f (a + 1) k (λ v from below. h v (omega (arith, from)) (omega (arith, below))))
