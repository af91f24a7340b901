-- A row that is written within words, between the words before it and the words behind it.
use Rattle.std.proofs.Common.{◌≡◌, ℕ, ◌+◌, ◌-◌, ◌*◌, ◌<◌, ◌≤◌, ◌&&◌, ◌||◌, leb, ltb, List, ◌++◌, length, get_or, take, drop, ap, sym, ◌∙◌, arith}
use Rattle.std.specs.Simd.Lanes.{chunk}
use Rattle.std.proofs.lemmas.List.{get_or_append_left, get_or-append_right, get_or-take, get_or-drop, drop_at, drop-append-le, take-append-le, length-drop, length-take-le, append_assoc}
use Rattle.waits_for.specs.inner.Bits.{has_bit}
use Rattle.waits_for.proofs.BitRows.{bit-placed}

-- The row stands in the second part, and the other row is in the first part.
pub placed-behind : (old a b row : List ℕ) (from other count : ℕ) → old ≡ a ++ b → length a ≡ from → from + count ≤ length old → other + count ≤ from → length row ≡ count
    → ((j : ℕ) → has_bit row j ≡ (has_bit (take count b) j || has_bit (take (other + count - other) (drop other a)) j))
    → (j : ℕ) → has_bit (a ++ (row ++ drop count b)) j ≡ (has_bit old j || ((leb (64 * from) j && ltb j (64 * (from + count))) && has_bit (chunk other count old) (j - 64 * from)))
placed-behind old a b row from other count e long room apart wide bits = bit-placed old (a ++ (row ++ drop count b)) row (take count b) (chunk other count old) from count inside before behind was (λ j. bits j ∙ ap (λ (l : List ℕ). has_bit (take count b) j || has_bit l j) same)
  where
    at : (k : ℕ) → from + k - from ≡ k
    at k = omega arith

    after : (ys : List ℕ) (k : ℕ) → get_or (a ++ ys) (from + k) 0 ≡ get_or ys k 0
    after ys k = get_or-append_right a ys from (from + k) 0 long (omega arith) ∙ ap (λ (i : ℕ). get_or ys i 0) (at k)

    inside : (k : ℕ) → k < count → get_or (a ++ (row ++ drop count b)) (from + k) 0 ≡ get_or row k 0
    inside k lt = after (row ++ drop count b) k ∙ get_or_append_left row (drop count b) 0 k (omega (arith, lt, wide))

    before : (k : ℕ) → k < from → get_or (a ++ (row ++ drop count b)) k 0 ≡ get_or old k 0
    before k lt = get_or_append_left a (row ++ drop count b) 0 k (omega (arith, lt, long)) ∙ (sym (get_or_append_left a b 0 k (omega (arith, lt, long))) ∙ ap (λ (l : List ℕ). get_or l k 0) (sym e))

    behind : (k : ℕ) → from + count ≤ k → get_or (a ++ (row ++ drop count b)) k 0 ≡ get_or old k 0
    behind k le =
        let back : count + (k - from - count) ≡ k - from = omega (arith, le) in
        get_or-append_right a (row ++ drop count b) from k 0 long (omega (arith, le)) ∙ (get_or-append_right row (drop count b) count (k - from) 0 wide (omega (arith, le)) ∙ (get_or-drop count b (k - from - count) 0 ∙ (ap (λ (i : ℕ). get_or b i 0) back
        ∙ (sym (get_or-append_right a b from k 0 long (omega (arith, le))) ∙ ap (λ (l : List ℕ). get_or l k 0) (sym e)))))

    was : (k : ℕ) → k < count → get_or (take count b) k 0 ≡ get_or old (from + k) 0
    was k lt = get_or-take count b k 0 lt ∙ (sym (after b k) ∙ ap (λ (l : List ℕ). get_or l (from + k) 0) (sym e))

    same : take (other + count - other) (drop other a) ≡ chunk other count old
    same =
        let n : other + count - other ≡ count = omega arith in
        ap (λ (m : ℕ). take m (drop other a)) n ∙ (sym (take-append-le count (drop other a) b (omega (arith, length-drop other a, long, apart)))
        ∙ (ap (take count) (sym (drop-append-le other a b (omega (arith, long, apart)))) ∙ ap (λ (l : List ℕ). take count (drop other l)) (sym e)))

-- The row stands in the first part, and the other row is in the second part.
pub placed-before : (old a b row : List ℕ) (from other count : ℕ) → old ≡ a ++ b → length a ≡ other → from + count ≤ other → length row ≡ count
    → ((j : ℕ) → has_bit row j ≡ (has_bit (take (from + count - from) (drop from a)) j || has_bit (take count b) j))
    → (j : ℕ) → has_bit (take from a ++ (row ++ drop (from + count - from) (drop from a)) ++ b) j ≡ (has_bit old j || ((leb (64 * from) j && ltb j (64 * (from + count))) && has_bit (chunk other count old) (j - 64 * from)))
placed-before old a b row from other count e long apart wide bits = bit-placed old (take from a ++ (row ++ q) ++ b) row (take n (drop from a)) (chunk other count old) from count inside before behind was (λ j. bits j ∙ ap (λ (l : List ℕ). has_bit (take n (drop from a)) j || has_bit l j) same)
  where
    n : ℕ
    n = from + count - from

    q : List ℕ
    q = drop n (drop from a)

    front : length (take from a) ≡ from
    front = length-take-le from a (omega (arith, long, apart))

    whole : (take from a ++ (row ++ q) ++ b) ≡ (take from a ++ (row ++ (q ++ b)))
    whole = append_assoc (take from a) (row ++ q) b ∙ ap (λ (l : List ℕ). take from a ++ l) (append_assoc row q b)

    inside : (k : ℕ) → k < count → get_or (take from a ++ (row ++ q) ++ b) (from + k) 0 ≡ get_or row k 0
    inside k lt =
        let at : from + k - from ≡ k = omega arith in
        ap (λ (l : List ℕ). get_or l (from + k) 0) whole ∙ (get_or-append_right (take from a) (row ++ (q ++ b)) from (from + k) 0 front (omega arith) ∙ (ap (λ (i : ℕ). get_or (row ++ (q ++ b)) i 0) at ∙ get_or_append_left row (q ++ b) 0 k (omega (arith, lt, wide))))

    before : (k : ℕ) → k < from → get_or (take from a ++ (row ++ q) ++ b) k 0 ≡ get_or old k 0
    before k lt = ap (λ (l : List ℕ). get_or l k 0) whole ∙ (get_or_append_left (take from a) (row ++ (q ++ b)) 0 k (omega (arith, lt, front)) ∙ (get_or-take from a k 0 lt
        ∙ (sym (get_or_append_left a b 0 k (omega (arith, lt, long, apart))) ∙ ap (λ (l : List ℕ). get_or l k 0) (sym e))))

    rest : (q ++ b) ≡ drop n (drop from old)
    rest = sym (drop-append-le n (drop from a) b (omega (arith, length-drop from a, long, apart))) ∙ (ap (drop n) (sym (drop-append-le from a b (omega (arith, long, apart)))) ∙ ap (λ (l : List ℕ). drop n (drop from l)) (sym e))

    behind : (k : ℕ) → from + count ≤ k → get_or (take from a ++ (row ++ q) ++ b) k 0 ≡ get_or old k 0
    behind k le =
        let at : from + (from + count - from + (k - from - count)) ≡ k = omega (arith, le) in
        ap (λ (l : List ℕ). get_or l k 0) whole ∙ (get_or-append_right (take from a) (row ++ (q ++ b)) from k 0 front (omega (arith, le)) ∙ (get_or-append_right row (q ++ b) count (k - from) 0 wide (omega (arith, le))
        ∙ (ap (λ (l : List ℕ). get_or l (k - from - count) 0) rest ∙ (get_or-drop n (drop from old) (k - from - count) 0 ∙ (get_or-drop from old (n + (k - from - count)) 0 ∙ ap (λ (i : ℕ). get_or old i 0) at)))))

    was : (k : ℕ) → k < count → get_or (take n (drop from a)) k 0 ≡ get_or old (from + k) 0
    was k lt = get_or-take n (drop from a) k 0 (omega (arith, lt)) ∙ (get_or-drop from a k 0 ∙ (sym (get_or_append_left a b 0 (from + k) (omega (arith, lt, long, apart))) ∙ ap (λ (l : List ℕ). get_or l (from + k) 0) (sym e)))

    same : take count b ≡ chunk other count old
    same = ap (take count) (sym (drop_at a b other long)) ∙ ap (λ (l : List ℕ). take count (drop other l)) (sym e)
