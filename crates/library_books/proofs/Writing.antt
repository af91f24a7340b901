-- Writing numbers to an array, one element at a time.
use Rattle.std.proofs.Common.{◌≡◌, ℕ, zero, suc, ◌<◌, List, [], ◌∷◌, length, get_or, set, Some, slice_get, refl, sym, ap, arith}
use Rattle.library_books.specs.Calls.{written}

-- writing the element at index k makes the written part one element longer
pub next_written : {X Y : Type 0} (numbers : X → Y) (k : ℕ) (items : List X) (places : List Y) (d : X) → k < length items → k < length places
    → set (written numbers k items places) k (numbers (get_or items k d)) ≡ written numbers (suc k) items places
next_written numbers k [] places d h l = absurd (omega (arith, h))
next_written numbers k (x ∷ xs) [] d h l = absurd (omega (arith, l))
next_written numbers zero (x ∷ xs) (y ∷ ys) d h l = refl
next_written numbers (suc k) (x ∷ xs) (y ∷ ys) d h l =
    ap (λ rest. numbers x ∷ rest) (next_written numbers k xs ys d (omega (arith, h)) (omega (arith, l)))

-- the same, of an element that is read from a list in the contracts
pub next_told : {X Y : Type 0} (numbers : X → Y) (k : ℕ) (items : List X) (places : List Y) (x : X) → slice_get items k ≡ Some x → k < length places
    → set (written numbers k items places) k (numbers x) ≡ written numbers (suc k) items places
next_told numbers k [] places x h l = absurd (cc)
next_told numbers k (y ∷ xs) [] x h l = absurd (omega (arith, l))
next_told numbers zero (y ∷ xs) (z ∷ ys) x h l = let e : y ≡ x = cc in ap (λ v. numbers v ∷ ys) (sym e)
next_told numbers (suc k) (y ∷ xs) (z ∷ ys) x h l = ap (λ rest. numbers y ∷ rest) (next_told numbers k xs ys x h (omega (arith, l)))
