-- What the pieces of the history that sessions took make together.
use Rattle.std.proofs.Common.{◌≡◌, ℕ, zero, suc, ◌+◌, ◌-◌, ◌<◌, ◌≤◌, List, [], ◌∷◌, ◌++◌, length, get_or, take, drop, refl, sym, ap, ◌∙◌, subst, arith}
use mathlib.Core.List.{IsPrefix}
use Rattle.publication.specs.Pieces.{AreInOrder, AreInARow, lines_in, put_together}
use Rattle.publication.specs.declared.piece.Piece.{Piece}

-- The last of the pieces ends no earlier than the first begins.
ends_late : (from upto : ℕ) (ps : List Piece) → AreInARow from ps upto → from ≤ upto
ends_late from upto [] row = omega (arith, row)
ends_late from upto (p ∷ ps) row = omega (arith, row.0, ends_late (p.first + p.count) upto ps row.1)

-- An empty list has no part.
no_part : {A : Type 0} (m k : ℕ) → take {A = A} m (drop k []) ≡ []
no_part zero k = refl
no_part (suc m) zero = refl
no_part (suc m) (suc k) = refl

-- A run of elements, and the run behind it.
two_runs : {A : Type 0} (l : List A) (from m n : ℕ) → take m (drop from l) ++ take n (drop (from + m) l) ≡ take (m + n) (drop from l)
two_runs {A} [] from m n = ap (λ (l : List A). l ++ take n (drop (from + m) [])) (no_part m from) ∙ (no_part n (from + m) ∙ sym (no_part (m + n) from))
two_runs (x ∷ xs) zero zero n = let e : n ≡ 0 + n = omega arith in ap (λ (k : ℕ). take k (x ∷ xs)) e
two_runs (x ∷ xs) zero (suc m) n =
    let here : 0 + suc m ≡ suc (0 + m) = omega arith in let long : suc (m + n) ≡ suc m + n = omega arith in
    ap (λ (k : ℕ). x ∷ (take m xs ++ take n (drop k (x ∷ xs)))) here ∙ (ap (λ l. x ∷ l) (two_runs xs zero m n) ∙ ap (λ (k : ℕ). take k (x ∷ xs)) long)
two_runs (x ∷ xs) (suc from) m n =
    let there : suc from + m ≡ suc (from + m) = omega arith in
    ap (λ (k : ℕ). take m (drop from xs) ++ take n (drop k (x ∷ xs))) there ∙ two_runs xs from m n

module _ {L : Type 0} where
  -- Pieces in a row are the part of the history from the first one's beginning to the last one's end.
  runs : (history : List L) (from upto : ℕ) (ps : List Piece) → AreInARow from ps upto → put_together history ps ≡ take (upto - from) (drop from history)
  runs history from upto [] row = let none : 0 ≡ upto - from = omega (arith, row) in ap (λ (n : ℕ). take n (drop from history)) none
  runs history from upto (p ∷ ps) row =
      let late = ends_late (p.first + p.count) upto ps row.1 in
      let long : p.count + (upto - (p.first + p.count)) ≡ upto - from = omega (arith, row.0, late) in
      ap (λ (l : List L). lines_in history p ++ l) (runs history (p.first + p.count) upto ps row.1)
      ∙ (two_runs history p.first p.count (upto - (p.first + p.count))
      ∙ (ap (λ (n : ℕ). take n (drop p.first history)) long ∙ ap (λ (n : ℕ). take (upto - from) (drop n history)) row.0))

  -- Pieces in a row from the beginning are the history up to where the last one ends.
  pub together : (history : List L) (from upto : ℕ) (ps : List Piece) → AreInARow from ps upto → from ≡ 0 → put_together history ps ≡ take upto history
  together history from upto ps row e = let whole : upto - 0 ≡ upto = omega arith in
      runs history from upto ps row ∙ (ap (λ (n : ℕ). take (upto - n) (drop n history)) e ∙ ap (λ (n : ℕ). take n history) whole)

-- The part of a longer list that lies within the shorter one.
stays : {A : Type 0} (front more : List A) (first count : ℕ) → first + count ≤ length front → take count (drop first (front ++ more)) ≡ take count (drop first front)
stays [] more zero zero le = refl
stays [] more zero (suc n) le = absurd (omega arith)
stays [] more (suc f) n le = absurd (omega arith)
stays (x ∷ xs) more zero zero le = refl
stays (x ∷ xs) more zero (suc n) le = ap (λ l. x ∷ l) (stays xs more zero n (omega arith))
stays (x ∷ xs) more (suc f) n le = stays xs more f n (omega arith)

module _ {L : Type 0} where
  -- The entries of a piece stay what they are as the history grows.
  pub piece_stays : (front history : List L) (p : Piece) → IsPrefix front history → p.first + p.count ≤ length front → lines_in history p ≡ lines_in front p
  piece_stays front history p begins le = subst (λ (h : List L). lines_in h p ≡ lines_in front p) begins.1 (stays front begins.0 p.first p.count le)

-- A piece begins no earlier than the row does.
begins_late : (from upto j : ℕ) (ps : List Piece) (d : Piece) → AreInOrder from ps upto → j < length ps → from ≤ (get_or ps j d).first
begins_late from upto j [] d order few = absurd (omega arith)
begins_late from upto zero (p ∷ ps) d order few = order.0
begins_late from upto (suc j) (p ∷ ps) d order few = omega (arith, order.0, begins_late (p.first + p.count) upto j ps d order.1 (omega arith))

-- An earlier piece ends before a later one begins.
pub apart_from : (from upto i j : ℕ) (ps : List Piece) (d : Piece) → AreInOrder from ps upto → i < j → j < length ps → (get_or ps i d).first + (get_or ps i d).count ≤ (get_or ps j d).first
apart_from from upto i j [] d order less few = absurd (omega arith)
apart_from from upto zero zero (p ∷ ps) d order less few = absurd (omega arith)
apart_from from upto zero (suc j) (p ∷ ps) d order less few = begins_late (p.first + p.count) upto j ps d order.1 (omega arith)
apart_from from upto (suc i) zero (p ∷ ps) d order less few = absurd (omega arith)
apart_from from upto (suc i) (suc j) (p ∷ ps) d order less few = apart_from (p.first + p.count) upto i j ps d order.1 (omega arith) (omega arith)

-- one piece more

-- One piece more keeps the order.
pub one_more_in_order : (from upto : ℕ) (ps : List Piece) (p : Piece) → AreInOrder from ps upto → upto ≤ p.first → AreInOrder from (ps ++ p ∷ []) (p.first + p.count)
one_more_in_order from upto [] p order late = (omega (arith, order, late), omega arith)
one_more_in_order from upto (q ∷ qs) p order late = (order.0, one_more_in_order (q.first + q.count) upto qs p order.1 late)

-- One piece more at the end of a row makes a longer row.
pub one_more_in_a_row : (from upto : ℕ) (ps : List Piece) (p : Piece) → AreInARow from ps upto → p.first ≡ upto → AreInARow from (ps ++ p ∷ []) (p.first + p.count)
one_more_in_a_row from upto [] p row at = (at ∙ sym row, refl)
one_more_in_a_row from upto (q ∷ qs) p row at = (row.0, one_more_in_a_row (q.first + q.count) upto qs p row.1 at)
