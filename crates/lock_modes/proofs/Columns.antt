-- The bitwise or of a column's codes is the code of the least upper bound of its modes, so one mask tests the whole column.
use Rattle.std.proofs.Common.{◌≡◌, ◌≢◌, Bool, true, false, List, [], ◌∷◌, ◌&&◌, ◌||◌, ◌↔◌, All, Any, eqb, not, refl, sym, ◌∙◌, ap, subst, bit_and, bit_or}
use mathlib.Core.Bool.{beq}
use Rattle.std.proofs.lemmas.Bool.{and_parts, not-true, not-false}
use Rattle.std.proofs.lemmas.Bool.Decides.{Decides-eqb}
use Rattle.std.proofs.lemmas.List.Elements.{All-nil, All-cons, All-head, All-tail}
use Rattle.std.specs.List.{list_any}
use Rattle.std.proofs.lemmas.List.Folds.{Any-from_list_any}
use Rattle.lock_modes.specs.declared.Mode.{Mode}
use Rattle.lock_modes.specs.declared.Mode.TheVariants.{NL}
use Rattle.lock_modes.specs.Order.{sup_of}
use Rattle.lock_modes.specs.Compatibility.{IsCompatible, are_compatible}
use Rattle.lock_modes.specs.Codes.{code_of, mask_of, union_of}
use Rattle.lock_modes.proofs.Every.{every-at, every3-at, beq-same}
use Rattle.lock_modes.proofs.Compatibility.{compatible-from, compatible-tests}
use Rattle.lock_modes.proofs.Codes.{mask-same, sup-code}

-- the least upper bound of all modes of a column
abbrev pub join_of : List Mode → Mode
join_of [] = NL
join_of (m ∷ ms) = sup_of m (join_of ms)

-- the bitwise or of a column's codes is the code of its least upper bound
pub union-join : (column : List Mode) → union_of column ≡ code_of (join_of column)
union-join [] = refl
union-join (m ∷ ms) = ap (bit_or (code_of m)) (union-join ms) ∙ sym (sup-code m (join_of ms))

-- a mode is compatible with a least upper bound exactly if it is with both modes
pub compatible-sup : (target a b : Mode) → are_compatible target (sup_of a b) ≡ (are_compatible target a && are_compatible target b)
compatible-sup target a b = beq-same _ _ (every3-at (λ t a b. beq (are_compatible t (sup_of a b)) (are_compatible t a && are_compatible t b)) refl target a b)

-- a mode compatible with every mode of a column is so with its least upper bound
fits-tests : (target : Mode) (column : List Mode) → All (IsCompatible target) column → are_compatible target (join_of column) ≡ true
fits-tests target [] h = every-at (λ t. are_compatible t NL) refl target
fits-tests target (m ∷ ms) h =
    let first = compatible-tests target m (All-head (IsCompatible target) m ms h) in
    let rest = fits-tests target ms (All-tail (IsCompatible target) m ms h) in
    rw (compatible-sup, first) rest

-- a mode compatible with a column's least upper bound is so with every mode of the column
fits-from : (target : Mode) (column : List Mode) → are_compatible target (join_of column) ≡ true → All (IsCompatible target) column
fits-from target [] h = All-nil (IsCompatible target)
fits-from target (m ∷ ms) h =
    let parts = and_parts (are_compatible target m) (are_compatible target (join_of ms)) (sym (compatible-sup target m (join_of ms)) ∙ h) in
    All-cons (IsCompatible target) m ms (compatible-from target m parts.0) (fits-from target ms parts.1)

-- the test of a mask against a column is the table for its least upper bound
pub mask-column : (target : Mode) (column : List Mode) → eqb (bit_and (mask_of target) (union_of column)) 0 ≡ are_compatible target (join_of column)
mask-column target column = rw union-join (mask-same target (join_of column))

-- a mask meets no bit of a column's codes exactly if the mode is compatible with every mode of the column
pub column_fits : (target : Mode) (column : List Mode) → (bit_and (mask_of target) (union_of column) ≡ 0) ↔ All (IsCompatible target) column
column_fits target column = (
  λ e. fits-from target column (sym (mask-column target column) ∙ (Decides-eqb (bit_and (mask_of target) (union_of column)) 0).1 e),
  λ h. (Decides-eqb (bit_and (mask_of target) (union_of column)) 0).0 (mask-column target column ∙ fits-tests target column h),
)

-- conflict-same for the head of a column, by truth values
split : (x y : Bool) → (x && not y) ≡ not (not x || y)
split true y = refl
split false y = refl

-- a column has a mode that conflicts exactly if its least upper bound does
conflict-same : (target : Mode) (column : List Mode) → are_compatible target (join_of column) ≡ not (list_any (λ granted. not (are_compatible target granted)) column)
conflict-same target [] = every-at (λ t. are_compatible t NL) refl target
conflict-same target (m ∷ ms) = rw (compatible-sup, conflict-same target ms) (split (are_compatible target m) (list_any (λ granted. not (are_compatible target granted)) ms))

-- if an element satisfies P, and P implies Q, an element satisfies Q
any-weaker : {T : Type 0} (P Q : T → Type 0) (xs : List T) → ((x : T) → P x → Q x) → Any P xs → Any Q xs
any-weaker P Q xs f (k, x, within, is, p) = (k, x, within, is, f x p)

-- a conflict by the table is one by the relation
refused : (target granted : Mode) → not (are_compatible target granted) ≡ true → ¬ IsCompatible target granted
refused target granted e h = let yes = compatible-tests target granted h in let no = not-true (are_compatible target granted) e in cc

-- what isn't true is false
false_unless : (x : Bool) → ¬ (x ≡ true) → x ≡ false
false_unless true h = absurd (h refl)
false_unless false h = refl

-- if the mask meets a bit of the column's codes, some mode of the column conflicts
conflict-found : (target : Mode) (column : List Mode) → bit_and (mask_of target) (union_of column) ≢ 0 → list_any (λ granted. not (are_compatible target granted)) column ≡ true
conflict-found target column n =
    let meets : eqb (bit_and (mask_of target) (union_of column)) 0 ≡ false = false_unless _ (λ e. n ((Decides-eqb (bit_and (mask_of target) (union_of column)) 0).0 e)) in
    not-false _ (sym (conflict-same target column) ∙ sym (mask-column target column) ∙ meets)

-- a mask meets a bit of a column's codes exactly if some mode of the column conflicts
pub column_conflicts : (target : Mode) (column : List Mode) → (bit_and (mask_of target) (union_of column) ≢ 0) ↔ Any (λ granted. ¬ IsCompatible target granted) column
column_conflicts target column = (
  λ n. any-weaker (λ granted. not (are_compatible target granted) ≡ true) (λ granted. ¬ IsCompatible target granted) column (refused target) (Any-from_list_any _ column (conflict-found target column n)),
  λ (k, granted, within, is, conflicts) e. conflicts (subst (IsCompatible target) is ((column_fits target column).0 e k granted within)),
)
