-- Counting the items of a list that pass a test, and sums over served entries.
use Rattle.std.proofs.Common.{◌≡◌, ℕ, zero, suc, ◌+◌, ◌<◌, ◌≤◌, Bool, true, false, cond, not, inl, inr, List, [], ◌∷◌, ◌++◌, length, filter, take, get_or, add-one, refl, ◌∙◌, ap, arith}
use Rattle.sequential.proofs.Members.{Member}
use Rattle.lock_rules.specs.Entries.{Entry}
use Rattle.lock_rules.specs.State.{State}
use Rattle.lock_rules.specs.Step.{step}
use Rattle.lock_rules.specs.Legal.{state_after}
use Rattle.lock_rules.specs.Counts.{one_if, count_if, total_from}

-- no test counts more than once
pub one_if-le : (b : Bool) → one_if b ≤ 1
one_if-le true = omega arith
one_if-le false = omega arith

-- no more items pass a test than there are
pub count-le-length : {X : Type 0} (p : X → Bool) (xs : List X) → count_if p xs ≤ length xs
count-le-length p [] = omega arith
count-le-length p (x ∷ xs) = omega (arith, one_if-le (p x), count-le-length p xs)

-- two lists together
pub count-append : {X : Type 0} (p : X → Bool) (xs ys : List X) → count_if p (xs ++ ys) ≡ count_if p xs + count_if p ys
count-append p [] ys = omega arith
count-append p (x ∷ xs) ys = omega (arith, count-append p xs ys)

-- if each item passes a test exactly if it passes one of two others, and never both, the counts add up
pub count-splits : {X : Type 0} (p a b : X → Bool) (xs : List X) → ((x : X) → Member x xs → one_if (p x) ≡ one_if (a x) + one_if (b x))
    → count_if p xs ≡ count_if a xs + count_if b xs
count-splits p a b [] h = refl
count-splits p a b (x ∷ xs) h = omega (arith, h x (inl refl), count-splits p a b xs (λ y k. h y (inr k)))

-- tests that agree on the items count alike
pub count-alike : {X : Type 0} (p a : X → Bool) (xs : List X) → ((x : X) → Member x xs → p x ≡ a x) → count_if p xs ≡ count_if a xs
count-alike p a [] h = refl
count-alike p a (x ∷ xs) h = omega (arith, ap one_if (h x (inl refl)), count-alike p a xs (λ y k. h y (inr k)))

-- a test that no item passes
pub count-none : {X : Type 0} (p : X → Bool) (xs : List X) → ((x : X) → Member x xs → p x ≡ false) → count_if p xs ≡ 0
count-none p [] h = refl
count-none p (x ∷ xs) h = omega (arith, ap one_if (h x (inl refl)), count-none p xs (λ y k. h y (inr k)))

-- the items that a filter keeps, and those that it doesn't
pub count-filtered : {X : Type 0} (p : X → Bool) (xs : List X) → length xs ≡ length (filter p xs) + count_if (λ x. not (p x)) xs
count-filtered p [] = refl
count-filtered p (x ∷ xs) = go (p x) (count-filtered p xs)
  where
    go : (b : Bool) → length xs ≡ length (filter p xs) + count_if (λ y. not (p y)) xs
        → length (x ∷ xs) ≡ length (cond b (x ∷ filter p xs) (filter p xs)) + (one_if (not b) + count_if (λ y. not (p y)) xs)
    go true e = omega (arith, e)
    go false e = omega (arith, e)

-- a sum over two lists of entries
pub total-append : (amount : State → Entry → State → ℕ) (st : State) (es fs : List Entry) → total_from amount st (es ++ fs) ≡ total_from amount st es + total_from amount (state_after st es) fs
total-append amount st [] fs = omega arith
total-append amount st (e ∷ es) fs = omega (arith, total-append amount (step st e.session e.call).state es fs)

-- a sum of amounts of which each is at most that of another sum
pub total-le : (a b : State → Entry → State → ℕ) (st : State) (es : List Entry) → ((before : State) (e : Entry) (after : State) → a before e after ≤ b before e after) → total_from a st es ≤ total_from b st es
total-le a b st [] h = omega arith
total-le a b st (e ∷ es) h = omega (arith, h st e (step st e.session e.call).state, total-le a b (step st e.session e.call).state es h)

-- one item more of those in front of an index
pub count-next : {X : Type 0} (p : X → Bool) (xs : List X) (i : ℕ) (d : X) → i < length xs → count_if p (take (i + 1) xs) ≡ count_if p (take i xs) + one_if (p (get_or xs i d))
count-next {X} p xs i d l = ap (λ (k : ℕ). count_if p (take k xs)) (add-one i) ∙ go xs i l
  where
    go : (xs : List X) (i : ℕ) → i < length xs → count_if p (take (suc i) xs) ≡ count_if p (take i xs) + one_if (p (get_or xs i d))
    go [] i l = absurd (omega (arith, l))
    go (x ∷ xs) zero l = omega arith
    go (x ∷ xs) (suc i) l = omega (arith, go xs i (omega (arith, l)))

-- no more of them than the index
pub count-le : {X : Type 0} (p : X → Bool) (xs : List X) (i : ℕ) → count_if p (take i xs) ≤ i
count-le p xs zero = omega arith
count-le p [] (suc i) = omega arith
count-le p (x ∷ xs) (suc i) = omega (arith, one_if-le (p x), count-le p xs i)
