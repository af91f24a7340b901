-- What is listed of numbers one after another: one number more is at the end.
use Rattle.std.proofs.Common.{◌≡◌, ℕ, zero, suc, ◌+◌, Bool, true, false, List, [], ◌∷◌, ◌++◌, refl, sym, ap, ◌∙◌, arith, append-nil}
use Rattle.std.specs.List.{flat_map, range_with_len}
use Rattle.std.proofs.lemmas.Grind.{flat_map-append}

-- two tests of which each implies the other are equal
pub both-ways : (b c : Bool) → (b ≡ true → c ≡ true) → (c ≡ true → b ≡ true) → b ≡ c
both-ways true c f g = sym (f refl)
both-ways false true f g = g refl
both-ways false false f g = refl

-- one number more behind a range
pub one-behind : (a n j : ℕ) → a + n ≡ j → range_with_len a (suc n) ≡ range_with_len a n ++ j ∷ []
one-behind a zero j e = let same : a ≡ j = omega (arith, e) in ap (λ (k : ℕ). k ∷ []) same
one-behind a (suc n) j e = ap (λ (l : List ℕ). a ∷ l) (one-behind (a + 1) n j (omega (arith, e)))

-- what is listed of one session more is at the end
pub next-session : {X : Type 0} (f : ℕ → List X) (n : ℕ) → flat_map f (range_with_len 1 (n + 1)) ≡ flat_map f (range_with_len 1 n) ++ f (n + 1)
next-session {X} f n =
    let on : n + 1 ≡ suc n = omega arith in
    ap (λ (k : ℕ). flat_map f (range_with_len 1 k)) on
    ∙ ap (flat_map f) (one-behind 1 n (n + 1) (omega arith))
    ∙ flat_map-append f (range_with_len 1 n) ((n + 1) ∷ [])
    ∙ ap (λ (xs : List X). flat_map f (range_with_len 1 n) ++ xs) (append-nil (f (n + 1)))

-- with the list of the next session, a list is that of one session more
pub session-more : {X : Type 0} (f : ℕ → List X) (n : ℕ) (xs ys : List X) → xs ≡ flat_map f (range_with_len 1 n) → ys ≡ xs ++ f (n + 1) → ys ≡ flat_map f (range_with_len 1 (n + 1))
session-more {X} f n xs ys so_far more = more ∙ ap (λ (l : List X). l ++ f (n + 1)) so_far ∙ sym (next-session f n)
