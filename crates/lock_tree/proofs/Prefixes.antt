-- The first numbers of a list, with 0 in place of those behind them.
use Rattle.std.proofs.Common.{◌≡◌, ℕ, zero, suc, ◌+◌, ◌-◌, ◌<◌, ◌≤◌, ◌^◌, List, [], ◌∷◌, ◌++◌, length, take, drop, set, get_or, replicate, refl, sym, ap, ◌∙◌, arith}
use Rattle.std.specs.List.{All}
use Rattle.std.proofs.lemmas.List.{length-take, take_all, take_more, take_more_set}
use Rattle.lock_tree.specs.declared.levels.TheConstants.{LEVELS}
use Rattle.lock_tree.specs.Fields.{ArePadded}

-- the first `level` numbers, and 0 in place of each behind them
abbrev pub kept_of : ℕ → List ℕ → List ℕ
kept_of level [] = []
kept_of zero (x ∷ xs) = 0 ∷ kept_of zero xs
kept_of (suc level) (x ∷ xs) = x ∷ kept_of level xs

-- one more number is kept below the level, and is 0 from there on
kept-push : (level : ℕ) (xs : List ℕ) (n v : ℕ) → (length xs < level → v ≡ n) → (level ≤ length xs → v ≡ 0) → kept_of level (xs ++ n ∷ []) ≡ kept_of level xs ++ v ∷ []
kept-push zero [] n v below behind = ap (λ (m : ℕ). m ∷ []) (sym (behind (omega arith)))
kept-push (suc level) [] n v below behind = ap (λ (m : ℕ). m ∷ []) (sym (below (omega arith)))
kept-push zero (x ∷ xs) n v below behind = ap (λ (ys : List ℕ). 0 ∷ ys) (kept-push zero xs n v (λ lt. absurd (omega (arith, lt))) (λ le. behind (omega arith)))
kept-push (suc level) (x ∷ xs) n v below behind = ap (λ (ys : List ℕ). x ∷ ys) (kept-push level xs n v (λ lt. below (omega (arith, lt))) (λ le. behind (omega (arith, le))))

-- the same for the number at k, which is written there
pub kept_more : (level k : ℕ) (xs padded : List ℕ) (v : ℕ) → k < length xs → k < length padded → (k < level → v ≡ get_or xs k 0) → (level ≤ k → v ≡ 0)
    → take k padded ≡ kept_of level (take k xs) → take (k + 1) (set padded k v) ≡ kept_of level (take (k + 1) xs)
kept_more level k xs padded v here room below behind so_far =
    let long : length (take k xs) ≡ k = length-take k xs ∙ omega (arith, here) in
    take_more_set padded k v room
    ∙ ap (λ (ys : List ℕ). ys ++ v ∷ []) so_far
    ∙ sym (kept-push level (take k xs) (get_or xs k 0) v (λ lt. below (omega (arith, lt, long))) (λ le. behind (omega (arith, le, long))))
    ∙ ap (kept_of level) (sym (take_more xs k 0 here))

-- what is kept begins with the first `level` numbers
pub take_kept : (level : ℕ) (xs : List ℕ) → take level (kept_of level xs) ≡ take level xs
take_kept level [] = refl
take_kept zero (x ∷ xs) = refl
take_kept (suc level) (x ∷ xs) = ap (λ (ys : List ℕ). x ∷ ys) (take_kept level xs)

-- behind them are zeros
drop_kept : (level more : ℕ) (xs : List ℕ) → length xs ≡ level + more → drop level (kept_of level xs) ≡ replicate more 0
drop_kept zero zero [] e = refl
drop_kept zero (suc more) [] e = absurd (omega (arith, e))
drop_kept zero zero (x ∷ xs) e = absurd (omega (arith, e))
drop_kept zero (suc more) (x ∷ xs) e = ap (λ (ys : List ℕ). 0 ∷ ys) (drop_kept zero more xs (omega (arith, e)))
drop_kept (suc level) more [] e = absurd (omega (arith, e))
drop_kept (suc level) more (x ∷ xs) e = drop_kept level more xs (omega (arith, e))

-- after all numbers, the list is what is kept of them
pub all_kept : (level k : ℕ) (xs padded : List ℕ) → length padded ≡ LEVELS → length xs ≡ LEVELS → LEVELS ≤ k → take k padded ≡ kept_of level (take k xs) → padded ≡ kept_of level xs
all_kept level k xs padded full long all so_far = sym (take_all k padded (omega (arith, full, all))) ∙ so_far ∙ ap (kept_of level) (take_all k xs (omega (arith, long, all)))

-- it is the field of a resource with this level
pub kept_padded : (level : ℕ) (xs padded : List ℕ) → padded ≡ kept_of level xs → length padded ≡ LEVELS → length xs ≡ LEVELS → 0 < level → level ≤ LEVELS → All (λ n. n < 2 ^ 32) padded
    → ArePadded (record { numbers = padded; level = level })
kept_padded level xs padded is full long some few small = record {
  rest = ap (drop level) is ∙ drop_kept level (LEVELS - level) xs (omega (arith, long, few));
  full = full;
  some = some;
  few = few;
  small = small;
}
