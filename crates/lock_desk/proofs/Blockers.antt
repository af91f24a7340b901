-- The sessions for which one waits, entered one after another, by number.
use Rattle.std.proofs.Common.{◌≡◌, ℕ, suc, ◌+◌, Bool, true, false, cond, List, [], ◌∷◌, ◌++◌, filter, sym, ap, ◌∙◌, arith, append-nil, length, take, drop, set, ◌<◌, ◌≤◌, refl, if◌then◌else◌, not, ◌&&◌, Option, None, Some}
use Rattle.std.specs.Prelude.{nat_lt, is_some, ◌==◌}
use Rattle.std.proofs.lemmas.Bool.{ltb-true, ltb-false}
use Rattle.std.proofs.Math.Bool.{and-false}
use Rattle.lock_rules.specs.State.{Claim, State, is_waiting, request_of}
use Rattle.lock_rules.specs.Waits.{keeps_waiting, waits_for}
use Rattle.lock_desk.specs.Queries.{blockers_among}
use Rattle.lock_holders.proofs.FilteredNumbers.{no-numbers}
use Rattle.std.specs.List.{range_with_len}
use Rattle.std.proofs.Math.Seq.{take-nil}
use Rattle.std.proofs.lemmas.List.Elements.{filter-append}
use Rattle.lock_rules.proofs.Ranges.{one-behind}

-- One number more: it is entered if the test holds of it.
one-more : (p : ℕ → Bool) (n : ℕ) → filter p (range_with_len 1 (n + 1)) ≡ filter p (range_with_len 1 n) ++ cond (p (n + 1)) ((n + 1) ∷ []) []
one-more p n =
    let on : n + 1 ≡ suc n = omega arith in
    ap (λ (k : ℕ). filter p (range_with_len 1 k)) on ∙ (ap (filter p) (one-behind 1 n (n + 1) (omega arith)) ∙ filter-append p (range_with_len 1 n) ((n + 1) ∷ []))

-- A number of which the test holds is entered.
pub entered : (p : ℕ → Bool) (n : ℕ) (xs ys : List ℕ) → xs ≡ filter p (range_with_len 1 n) → p (n + 1) ≡ true → ys ≡ xs ++ (n + 1) ∷ [] → ys ≡ filter p (range_with_len 1 (n + 1))
entered p n xs ys so_far holds is =
    is ∙ (ap (λ (l : List ℕ). l ++ (n + 1) ∷ []) so_far ∙ (ap (λ (b : Bool). filter p (range_with_len 1 n) ++ cond b ((n + 1) ∷ []) []) (sym holds) ∙ sym (one-more p n)))

-- Any other number isn't.
pub skipped : (p : ℕ → Bool) (n : ℕ) (xs : List ℕ) → xs ≡ filter p (range_with_len 1 n) → p (n + 1) ≡ false → xs ≡ filter p (range_with_len 1 (n + 1))
skipped p n xs so_far fails =
    so_far ∙ (sym (append-nil (filter p (range_with_len 1 n)))
    ∙ (ap (λ (b : Bool). filter p (range_with_len 1 n) ++ cond b ((n + 1) ∷ []) []) (sym fails) ∙ sym (one-more p n)))

-- What a list begins with is written over its front, as far as it reaches; one more has a place.
pub written-behind : (xs old : List ℕ) (v : ℕ) → length xs < length old
    → set (take (length old) xs ++ drop (length xs) old) (length xs) v ≡ take (length old) (xs ++ v ∷ []) ++ drop (length (xs ++ v ∷ [])) old
written-behind xs [] v lt = absurd (omega (arith, lt))
written-behind [] (o ∷ os) v lt = ap (λ (l : List ℕ). v ∷ (l ++ os)) (sym (take-nil (length os)))
written-behind (x ∷ xs) (o ∷ os) v lt = ap (λ (l : List ℕ). x ∷ l) (written-behind xs os v (omega (arith, lt)))

-- Or it has none.
pub written-past : (xs old : List ℕ) (v : ℕ) → length old ≤ length xs
    → take (length old) xs ++ drop (length xs) old ≡ take (length old) (xs ++ v ∷ []) ++ drop (length (xs ++ v ∷ [])) old
written-past [] [] v le = refl
written-past [] (o ∷ os) v le = absurd (omega (arith, le))
written-past (x ∷ xs) [] v le = refl
written-past (x ∷ xs) (o ∷ os) v le = ap (λ (l : List ℕ). x ∷ l) (written-past xs os v (omega (arith, le)))

-- What a list begins with, written over its front.
abbrev pub over : List ℕ → List ℕ → List ℕ
over xs old = take (length old) xs ++ drop (length xs) old

-- One session more is written, if it has a place.
pub one-written : (xs old list new : List ℕ) (count v : ℕ) → length list ≡ length old → count ≡ length xs → list ≡ over xs old → new ≡ (if nat_lt count (length list) then set list count v else list) → new ≡ over (xs ++ v ∷ []) old
one-written xs old list new count v long counted is told = go (nat_lt count (length list)) refl
  where
    go : (b : Bool) → nat_lt count (length list) ≡ b → new ≡ over (xs ++ v ∷ []) old
    go true e = told ∙ (ap (λ (b : Bool). if b then set list count v else list) e ∙ ((λ i. set (is i) (counted i) v) ∙ written-behind xs old v (omega (arith, ltb-true count (length list) e, long, counted))))
    go false e = told ∙ (ap (λ (b : Bool). if b then set list count v else list) e ∙ (is ∙ written-past xs old v (omega (arith, ltb-false count (length list) e, long, counted))))

-- Nothing is written.
pub none-written : (old : List ℕ) → old ≡ over [] old
none-written old = ap (λ (l : List ℕ). l ++ old) (sym (take-nil (length old)))

-- A session that doesn't wait waits for nobody.
pub nobody : (st : State) (s n : ℕ) → is_waiting st s ≡ false → blockers_among n st.table s ≡ []
nobody st s n idle = no-numbers (waits_for st.table s) 1 n (λ u. go u (request_of s st.table.requests) idle)
  where
    go : (u : ℕ) (o : Option Claim) → is_some o ≡ false → (not (u == s) && keeps_waiting st.table u o) ≡ false
    go u None h = and-false (not (u == s))
    go u (Some q) h = absurd (cc)
