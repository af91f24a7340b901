-- The entries of a table of cells: the list of resources beside the list of cells, and the cell of a resource after a change.
use Rattle.std.proofs.Common.{◌≡◌, ℕ, zero, suc, ◌<◌, ◌≤◌, Bool, true, false, cond, List, [], ◌∷◌, ◌++◌, length, take, set, slice_get, get_or, zip, Option, None, Some, unwrap_or, refl, sym, ◌∙◌, ap, subst, inl, inr, arith}
use Rattle.std.specs.List.{IsDistinct, swap_remove}
use Rattle.std.specs.Map.{keys_of, IsKeyTest}
use Rattle.indexmap.specs.IndexMap.{set_value_at, insert_entry}
use Rattle.indexmap.proofs.MapLemmas.{distinct-take, index-first}
use Rattle.indexmap.proofs.RemoveLemmas.{swap_out, own_first}
use Rattle.lock_tree.specs.Paths.{same_path}
use Rattle.lock_rules.proofs.Lists.{same_path-true, same_path_tells}
use Rattle.session_locks.proofs.ResourceLists.{same_path-equivalence}
use Rattle.lock_table.specs.declared.cells.Cell.{Cell}
use Rattle.lock_table.specs.inner.Cells.{in_use, Cells, cell_at}

-- lists

-- the item at an index that was written
pub set-there : (xs : List Cell) (i : ℕ) (c : Cell) → i < length xs → slice_get (set xs i c) i ≡ Some c
set-there [] i c h = absurd (omega arith)
set-there (x ∷ xs) zero c h = refl
set-there (x ∷ xs) (suc i) c h = set-there xs i c (omega arith)

-- equal entries have equal cells
pub same-cell : (k r : List ℕ) (c x : Cell) → ◌≡◌ {A = Option (List ℕ × Cell)} (Some (k, c)) (Some (r, x)) → c ≡ x
same-cell k r c x e = ap (λ (o : Option (List ℕ × Cell)). (unwrap_or o (k, c)).1) e

-- lists of distinct resources

module _ (eq : List ℕ → List ℕ → Bool) (same : (a b : List ℕ) → eq a b ≡ same_path a b) where
  -- if all keys are distinct, those in use are
  pub apart-in_use : (rs : List (List ℕ)) (b : Bool) → IsDistinct eq rs → IsDistinct same_path (in_use rs b)
  apart-in_use rs true h = distinct-take same_path-equivalence _ rs (subst (λ (t : List ℕ → List ℕ → Bool). IsDistinct t rs) (λ j x y. same x y j) h)
  apart-in_use rs false h = subst (λ (t : List ℕ → List ℕ → Bool). IsDistinct t rs) (λ j x y. same x y j) h

-- resources zipped with cells

-- the resources of the entries are the resources
pub keys-beside : (rs : List (List ℕ)) (xs : List Cell) → length rs ≤ length xs → keys_of (zip rs xs) ≡ rs
keys-beside [] xs h = refl
keys-beside (r ∷ rs) [] h = absurd (omega arith)
keys-beside (r ∷ rs) (x ∷ xs) h = ap (λ (ks : List (List ℕ)). r ∷ ks) (keys-beside rs xs (omega arith))

-- an entry at an index is the resource at that index with the cell at that index
pub resource-at : (rs : List (List ℕ)) (xs : List Cell) (i : ℕ) (r : List ℕ) (x : Cell) → slice_get (zip rs xs) i ≡ Some (r, x) → slice_get rs i ≡ Some r
resource-at [] xs i r x h = absurd (cc)
resource-at (q ∷ rs) [] i r x h = absurd (cc)
resource-at (q ∷ rs) (y ∷ xs) zero r x h = ap (λ (o : Option (List ℕ × Cell)). Some (unwrap_or o (r, x)).0) h
resource-at (q ∷ rs) (y ∷ xs) (suc i) r x h = resource-at rs xs i r x h

-- writing a cell writes its entry
pub beside-written : (rs : List (List ℕ)) (xs : List Cell) (i : ℕ) (c : Cell) → zip rs (set xs i c) ≡ set_value_at (zip rs xs) i c
beside-written [] xs i c = refl
beside-written (r ∷ rs) [] i c = refl
beside-written (r ∷ rs) (x ∷ xs) zero c = refl
beside-written (r ∷ rs) (x ∷ xs) (suc i) c = ap (λ (es : Cells). (r, x) ∷ es) (beside-written rs xs i c)

-- a resource and a cell that are added at the end give one entry more, the last one
pub beside-pushed : (rs : List (List ℕ)) (xs : List Cell) (r : List ℕ) (c : Cell) → length rs < length xs → zip (rs ++ r ∷ []) (set xs (length rs) c) ≡ zip rs xs ++ (r, c) ∷ []
beside-pushed [] [] r c h = absurd (omega arith)
beside-pushed [] (x ∷ xs) r c h = refl
beside-pushed (q ∷ rs) [] r c h = absurd (omega arith)
beside-pushed (q ∷ rs) (x ∷ xs) r c h = ap (λ (es : Cells). (q, x) ∷ es) (beside-pushed rs xs r c (omega arith))

-- writing a resource and a cell at an index writes the entry at that index
pub beside-set : (rs : List (List ℕ)) (xs : List Cell) (i : ℕ) (r : List ℕ) (c : Cell) → zip (set rs i r) (set xs i c) ≡ set (zip rs xs) i (r, c)
beside-set [] xs i r c = refl
beside-set (q ∷ rs) [] zero r c = refl
beside-set (q ∷ rs) [] (suc i) r c = refl
beside-set (q ∷ rs) (x ∷ xs) zero r c = refl
beside-set (q ∷ rs) (x ∷ xs) (suc i) r c = ap (λ (es : Cells). (q, x) ∷ es) (beside-set rs xs i r c)

-- the entry at an index is the resource and the cell at that index
pub entry-last : (rs : List (List ℕ)) (xs : List Cell) (i : ℕ) (r : List ℕ) (d x : Cell) → i < length rs → i < length xs → get_or (zip rs xs) i (r, x) ≡ (get_or rs i r, get_or xs i d)
entry-last [] xs i r d x h g = absurd (omega arith)
entry-last (q ∷ rs) [] i r d x h g = absurd (omega arith)
entry-last (q ∷ rs) (y ∷ xs) zero r d x h g = refl
entry-last (q ∷ rs) (y ∷ xs) (suc i) r d x h g = entry-last rs xs i r d x (omega arith) (omega arith)

-- there are as many entries as resources
pub length-beside : (rs : List (List ℕ)) (xs : List Cell) → length rs ≤ length xs → length (zip rs xs) ≡ length rs
length-beside [] xs h = refl
length-beside (r ∷ rs) [] h = absurd (omega arith)
length-beside (r ∷ rs) (x ∷ xs) h = ap suc (length-beside rs xs (omega arith))

-- cells behind the resources give no entries
pub beside-cut : (rs : List (List ℕ)) (xs : List Cell) (n : ℕ) → length rs ≤ n → zip rs (take n xs) ≡ zip rs xs
beside-cut [] xs n h = refl
beside-cut (r ∷ rs) [] zero h = refl
beside-cut (r ∷ rs) [] (suc n) h = refl
beside-cut (r ∷ rs) (x ∷ xs) zero h = absurd (omega arith)
beside-cut (r ∷ rs) (x ∷ xs) (suc n) h = ap (λ (es : Cells). (r, x) ∷ es) (beside-cut rs xs n (omega arith))

-- the cell of a resource after a change of the entries

-- a choice that gives `None` has not taken its first option, and the second one is `None`
head-off : (b : Bool) (x : Cell) (o : Option Cell) → cond b (Some x) o ≡ None → (b ≡ false) × (o ≡ None)
head-off true x o h = absurd (cc)
head-off false x o h = (refl, h)

-- after an entry is added: its resource has its cell, all others have theirs
pub cell-pushed : (es : Cells) (r : List ℕ) (c : Cell) → cell_at r es ≡ None → (q : List ℕ) → cell_at q (es ++ (r, c) ∷ []) ≡ cond (same_path r q) (Some c) (cell_at q es)
cell-pushed [] r c h q = ap (λ (b : Bool). cond b (Some c) None) (same_path-equivalence.symm q r)
cell-pushed ((k, x) ∷ es) r c h q = elim (same_path_tells q k) [
  | inl p ↦ (let off : same_path r q ≡ false = ap (same_path r) p.1 ∙ parts.0 in rw p.0 (rw off refl))
  | inr n ↦ rw n (cell-pushed es r c parts.1 q)
]
  where
    parts : (same_path r k ≡ false) × (cell_at r es ≡ None)
    parts = head-off (same_path r k) x (cell_at r es) h

-- the test for a resource passes for that key alone
pub one : (r : List ℕ) → IsKeyTest same_path (same_path r)
one r = λ x y h. ap (λ (z : List ℕ). same_path z y) (same_path-true r x h)

-- after an entry is removed: its resource has no cell, all others have theirs
pub cell-gone : (es : Cells) (r : List ℕ) (c : Cell) (i : ℕ) → IsDistinct same_path (keys_of es) → slice_get es i ≡ Some (r, c) → (q : List ℕ) → cell_at q (swap_remove es i (r, c)) ≡ cond (same_path r q) None (cell_at q es)
cell-gone es r c i apart at q =
    (swap_out same_path same_path-equivalence (same_path r) (one r) es i (r, c) (index-first (same_path r) es i (own_first same_path same_path-equivalence es i r c apart at)) at apart (swap_remove es i (r, c)) refl).updated.0 q

-- after a cell is written: its resource has the new cell, all others have theirs
pub cell-inserted : (es : Cells) (r : List ℕ) (c : Cell) (q : List ℕ) → cell_at q (insert_entry same_path es r c) ≡ cond (same_path r q) (Some c) (cell_at q es)
cell-inserted [] r c q = ap (λ (b : Bool). cond b (Some c) None) (same_path-equivalence.symm q r)
cell-inserted ((k, x) ∷ es) r c q = elim (same_path_tells r k) [
  | inl p ↦ rw p.0 (rw (ap (λ (z : List ℕ). same_path z q) p.1 ∙ same_path-equivalence.symm k q) (twice (same_path q k) (cell_at q es)))
  | inr n ↦ rw n (elim (same_path_tells q k) [
    | inl p ↦ (let off : same_path r q ≡ false = ap (same_path r) p.1 ∙ n in rw p.0 (rw off refl))
    | inr m ↦ rw m (cell-inserted es r c q)
  ])
]
  where
    twice : (b : Bool) (o : Option Cell) → cond b (Some c) o ≡ cond b (Some c) (cond b (Some x) o)
    twice true o = refl
    twice false o = refl
