-- Places: the index of the cell of a resource, in the list of cells beside the list of resources.
use Rattle.std.proofs.Common.{◌≡◌, ℕ, zero, suc, ◌+◌, ◌-◌, ◌<◌, ◌≤◌, min, Bool, true, false, cond, not, nat_lt, List, [], ◌∷◌, ◌++◌, length, take, set, swap, slice_get, get_or, zip, Option, None, Some, is_some, IfSome, position, refl, sym, ◌∙◌, ap, subst, inl, inr, arith, lt-ltb, le-ltb}
use Rattle.std.proofs.lemmas.List.{get_or-set_other, length-take, length-set, length-append, take-set}
use Rattle.std.proofs.lemmas.Option.{slice_get_within, get_or_from_slice_get, slice_get-get_or, slice_get-map}
use Rattle.std.proofs.lemmas.Bool.{or_parts, cases_lt}
use Rattle.std.proofs.lemmas.Grind.{common_steps, get_or-set_at}
use Rattle.std.proofs.lemmas.List.Edits.{length-swap}
use Rattle.std.proofs.lemmas.List.Quantifiers.{position-Some}
use Rattle.std.proofs.lemmas.List.Sums.{position_or_len_is, prefix_len-le-length}
use Rattle.std.proofs.lemmas.Map.Keys.{apart_from_distinct}
use Rattle.std.proofs.lemmas.Map.Made.{is_some-lookup}
use Rattle.std.specs.List.{IsDistinct, swap_remove, list_any, position_or_len}
use Rattle.std.specs.Map.{keys_of}
use Rattle.std.specs.Option.{option_map}
use Rattle.indexmap.proofs.MapLemmas.{Found-position, some_index, insert_entry-first, split_last, take_zero}
use Rattle.indexmap.proofs.ReorderLemmas.{slice_get-zip_some, zip-take}
use Rattle.lock_tree.specs.Paths.{same_path}
use Rattle.lock_rules.proofs.Lists.{same_path-true}
use Rattle.session_locks.specs.Resources.{has_path}
use Rattle.session_locks.proofs.ResourceLists.{same_path-equivalence}
use Rattle.lock_table.specs.declared.cells.Cell.{Cell}
use Rattle.lock_table.specs.declared.cell_table.CellTable.TheInside.{Inside}
use Rattle.lock_table.specs.inner.Cells.{View, no_view, view_of, Keys, in_use, Cells, Table, cell_at, CellsBecame, AreKeptCells, IsKeptCell, IsPlace}
use Rattle.lock_table.specs.inner.Tables.{table_of, AreIdleFrom, IsKeptTable}
use Rattle.lock_table.proofs.CellTable.{became, became-view}
use Rattle.lock_table.proofs.CellEntries.{set-there, same-cell, keys-beside, resource-at, beside-written, beside-pushed, beside-set, entry-last, length-beside, beside-cut, cell-pushed, cell-gone, cell-inserted}

-- the cells behind those in use

-- writing a cell keeps the number of cells
pub long-still : (xs : List Cell) (n i : ℕ) (c : Cell) → n ≤ length xs → n ≤ length (set xs i c)
long-still xs n i c h = omega (arith, h, length-set xs i c)

-- writing a cell in use leaves those behind idle
pub idle-still : (xs : List Cell) (n i : ℕ) (c : Cell) → i < n → ((j : ℕ) (d : Cell) → n ≤ j → j < length xs → view_of (get_or xs j d) ≡ no_view)
    → (j : ℕ) (d : Cell) → n ≤ j → j < length (set xs i c) → view_of (get_or (set xs i c) j d) ≡ no_view
idle-still xs n i c lt idle j d h g =
    ap view_of (get_or-set_other xs i j c d (λ e. absurd (omega (arith, lt, h, e)))) ∙ idle j d h (omega (arith, g, length-set xs i c))

-- a resource without a cell is not in use
pub unused : (r : List ℕ) (rs : List (List ℕ)) (xs : List Cell) → length rs ≤ length xs → cell_at r (zip rs xs) ≡ None → list_any (same_path r) rs ≡ false
unused r rs xs long h = ap (list_any (same_path r)) (sym (keys-beside rs xs long)) ∙ (sym (is_some-lookup (same_path r) (zip rs xs)) ∙ ap is_some h)

-- removing a resource and swapping its cell with the last one in use removes their entry
pub beside-swapped : (rs : List (List ℕ)) (xs : List Cell) (i : ℕ) (r : List ℕ) (x : Cell) → length rs ≤ length xs → i < length rs
    → zip (swap_remove rs i r) (swap xs i (length rs - 1)) ≡ swap_remove (zip rs xs) i (r, x)
beside-swapped rs [] i r x long lt = absurd (omega arith)
beside-swapped rs (d ∷ ys) i r x long lt =
    sym (beside-cut (take m named) (swap xs i m) m (omega (arith, length-take m named)))
    ∙ ap (zip (take m named)) (take-set (set xs i moved) m (get_or xs i d))
    ∙ zip-take m named (set xs i moved)
    ∙ ap (take m) (beside-set rs xs i (get_or rs m r) moved)
    ∙ ap (λ (e : List ℕ × Cell). take m (set (zip rs xs) i e)) (sym (entry-last rs xs m r d x (omega arith) (omega arith)))
    ∙ ap (λ (k : ℕ). take (k - 1) (set (zip rs xs) i (get_or (zip rs xs) (k - 1) (r, x)))) (sym long-beside)
  where
    xs : List Cell
    xs = d ∷ ys

    m : ℕ
    m = length rs - 1

    moved : Cell
    moved = get_or xs m d

    named : List (List ℕ)
    named = set rs i (get_or rs m r)

    long-beside : length (zip rs xs) ≡ length rs
    long-beside = length-beside rs xs long

-- an option that is not `Some` is `None`
none-there : (o : Option Cell) → is_some o ≡ false → o ≡ None
none-there None h = refl
none-there (Some x) h = absurd (cc)

-- the keys in use among all keys

-- the items at the indices of a front are those of the list
slice_get-take : (n : ℕ) (rs : List (List ℕ)) (i : ℕ) → i < n → slice_get (take n rs) i ≡ slice_get rs i
slice_get-take zero rs i h = absurd (omega (arith, h))
slice_get-take (suc n) [] i h = refl
slice_get-take (suc n) (r ∷ rs) zero h = refl
slice_get-take (suc n) (r ∷ rs) (suc i) h = slice_get-take n rs i (omega (arith, h))

-- at an index in use, the resource in use is the key
pub in_use-at : (rs : List (List ℕ)) (b : Bool) (i : ℕ) → i < length (in_use rs b) → slice_get (in_use rs b) i ≡ slice_get rs i
in_use-at rs true i h = slice_get-take (length rs - 1) rs i (omega (arith, h, length-take (length rs - 1) rs))
in_use-at rs false i h = refl

-- the first index at which a test passes, as `position` gives it
position-at : (test : List ℕ → Bool) (rs : List (List ℕ)) (i : ℕ) → i < length rs → position_or_len test rs ≡ i → Some i ≡ position test rs
position-at test rs i h e = sym (ap (λ (n : ℕ). cond (nat_lt n (length rs)) (Some n) None) e ∙ ap (λ (b : Bool). cond b (Some i) None) (lt-ltb i (length rs) h))

-- a resource in a list without repetition is found at its index
pub position-apart : (rs : List (List ℕ)) (r : List ℕ) (i : ℕ) → IsDistinct same_path rs → slice_get rs i ≡ Some r → Some i ≡ position (same_path r) rs
position-apart rs r i apart at =
    let lt : i < length rs = slice_get_within rs i r at in
    let e : get_or rs i r ≡ r = get_or_from_slice_get rs i r r at in
    position-at (same_path r) rs i lt (position_or_len_is (same_path r) rs i r (omega (arith, lt))
    (λ k h. same_path-equivalence.symm r (get_or rs k r) ∙ (ap (same_path (get_or rs k r)) (sym e) ∙ apart_from_distinct same_path rs k i r apart h lt))
    (λ h. ap (same_path r) e ∙ same_path-equivalence.refl r))

-- a test that passes for no item fails up to the end
none-passes : (test : List ℕ → Bool) (rs : List (List ℕ)) → list_any test rs ≡ false → length rs ≤ position_or_len test rs
none-passes test [] h = omega arith
none-passes test (r ∷ rs) h =
    let e = or_parts (test r) (list_any test rs) h in
    omega (arith, none-passes test rs e.1, ap (λ (b : Bool). cond (not b) (1 + position_or_len test rs) 0) e.0)

-- a test first passes among the first `n` items where it does among all, if that is one of them
position-front : (test : List ℕ → Bool) (n : ℕ) (rs : List (List ℕ)) → position_or_len test (take n rs) ≡ min n (position_or_len test rs)
position-front test zero rs = let z : 0 ≡ min 0 (position_or_len test rs) = omega arith in z
position-front test (suc n) [] = let z : 0 ≡ min (suc n) 0 = omega arith in z
position-front test (suc n) (r ∷ rs) = by (test r) (position-front test n rs)
  where
    by : (b : Bool) → position_or_len test (take n rs) ≡ min n (position_or_len test rs) → cond (not b) (1 + position_or_len test (take n rs)) 0 ≡ min (suc n) (cond (not b) (1 + position_or_len test rs) 0)
    by true h = let z : 0 ≡ min (suc n) 0 = omega arith in z
    by false h = let z : 1 + position_or_len test (take n rs) ≡ min (suc n) (1 + position_or_len test rs) = omega (arith, h) in z

module _ (eq : List ℕ → List ℕ → Bool) (same : (a b : List ℕ) → eq a b ≡ same_path a b) (rs : List (List ℕ)) (b : Bool) (k : Keys) (is : ◌≡◌ {A = Keys} (record { used = in_use rs b; has_provisional = b }) k) (r : List ℕ) where
  -- a look-up among all keys gives what one among those in use does, if that is an index in use
  first-used : (position_or_len (same_path r) k.used ≡ min (length k.used) (position_or_len (eq r) rs)) × (length k.used ≤ length rs)
  first-used = subst (λ (k : Keys). (position_or_len (same_path r) k.used ≡ min (length k.used) (position_or_len (eq r) rs)) × (length k.used ≤ length rs)) is (by b)
    where
      by-path : position_or_len (eq r) rs ≡ position_or_len (same_path r) rs
      by-path = ap (λ (test : List ℕ → Bool). position_or_len test rs) (λ j q. same r q j)

      by : (c : Bool) → (position_or_len (same_path r) (in_use rs c) ≡ min (length (in_use rs c)) (position_or_len (eq r) rs)) × (length (in_use rs c) ≤ length rs)
      by true = (omega (arith, position-front (same_path r) (length rs - 1) rs, length-take (length rs - 1) rs, by-path, prefix_len-le-length (λ q. not (same_path r q)) rs), omega (arith, length-take (length rs - 1) rs))
      by false = (omega (arith, prefix_len-le-length (λ q. not (same_path r q)) rs, by-path), omega arith)

  -- an index at which a key is found is the place of the resource, if it is in use
  pub place-found : (i : ℕ) → Some i ≡ position (eq r) rs → i < length k.used → Some i ≡ position (same_path r) k.used
  place-found i e lt =
      let first : position_or_len (eq r) rs ≡ i = grind (arith, common_steps) in
      position-at (same_path r) k.used i lt (omega (arith, first-used.0, lt, first))

  none-before : length k.used ≤ position_or_len (eq r) rs → None ≡ position (same_path r) k.used
  none-before h = sym (ap (λ (b : Bool). cond b (Some (position_or_len (same_path r) k.used)) None) (le-ltb (position_or_len (same_path r) k.used) (length k.used) (omega (arith, h, first-used.0))))

  -- if it is not in use, the resource has no place
  pub place-behind : (i : ℕ) → Some i ≡ position (eq r) rs → length k.used ≤ i → None ≡ position (same_path r) k.used
  place-behind i e le =
      let first : position_or_len (eq r) rs ≡ i = grind (arith, common_steps) in
      none-before (omega (arith, le, first))

  -- nor if no key is found
  pub place-absent : list_any (eq r) rs ≡ false → None ≡ position (same_path r) k.used
  place-absent h = none-before (omega (arith, none-passes (eq r) rs h, first-used.1))

  -- the keys in use, after the resource is added behind them
  pub key-added : b ≡ false → has_path r k.used ≡ false → (ns : List (List ℕ)) → ns ≡ cond (list_any (eq r) rs) rs (rs ++ r ∷ []) → in_use ns b ≡ k.used ++ r ∷ []
  key-added still none ns come = ap (in_use ns) still ∙ (come ∙ (ap (λ (c : Bool). cond c rs (rs ++ r ∷ [])) absent ∙ ap (λ (qs : List (List ℕ)). qs ++ r ∷ []) (sym all)))
    where
      all : k.used ≡ rs
      all = sym (ap (λ (k : Keys). k.used) is) ∙ ap (in_use rs) still

      absent : list_any (eq r) rs ≡ false
      absent = ap (λ (test : List ℕ → Bool). list_any test rs) (λ j q. (same r q ∙ same_path-equivalence.symm r q) j) ∙ (ap (has_path r) (sym all) ∙ none)

-- a provisional key that is taken into use
pub key-taken : (rs : List (List ℕ)) (b : Bool) (r : List ℕ) → b ≡ true → slice_get rs (length (in_use rs b)) ≡ Some r → rs ≡ in_use rs b ++ r ∷ []
key-taken rs false r h at = absurd (cc)
key-taken rs true r h at =
    let n : length (take (length rs - 1) rs) ≡ length rs - 1 = omega (arith, length-take (length rs - 1) rs) in
    let last = subst (λ (n : ℕ). slice_get rs n ≡ Some r) n at in
    split_last rs r last (omega (arith, slice_get_within rs (length rs - 1) r last)) ∙ ap (λ (qs : List (List ℕ)). qs ++ r ∷ []) (sym (take_zero rs (length rs - 1)))

-- after a removal, one resource fewer is in use
pub fewer : (rs : List (List ℕ)) (i : ℕ) → i < length rs → (ns : List (List ℕ)) → IfSome (slice_get rs i) (λ k. ns ≡ swap_remove rs i k) → length ns + 1 ≡ length rs
fewer rs i lt ns after =
    let m = length rs - 1 in
    let named = subst (λ (o : Option (List ℕ)). IfSome o (λ k. ns ≡ swap_remove rs i k)) (slice_get-get_or rs i [] lt) after in
    omega (arith, ap length named, length-take m (set rs i (get_or rs m (get_or rs i []))), length-set rs i (get_or rs m (get_or rs i [])), lt)

-- removal: the resource goes, and its cell is swapped with the last one in use

module _ (rs : List (List ℕ)) (xs : List Cell) (es : Cells) (e : zip rs xs ≡ es) (long : length rs ≤ length xs) (i : ℕ) (lt : i < length rs) where
  -- after the removal, the resource has no cell, and all others have theirs
  pub gone-there : IsDistinct same_path rs → (ns : List (List ℕ)) (ys : List Cell) → IfSome (slice_get rs i) (λ k. ns ≡ swap_remove rs i k) → ys ≡ swap xs i (length rs - 1)
      → (r : List ℕ) (c : Cell) → slice_get es i ≡ Some (r, c) → (q : List ℕ) → cell_at q (zip ns ys) ≡ cond (same_path r q) None (cell_at q es)
  gone-there apart ns ys after swapped r c at q =
      (λ j. cell_at q (zip (named j) (swapped j)))
      ∙ ap (cell_at q) (beside-swapped rs xs i r c long lt)
      ∙ cell-gone (zip rs xs) r c i (subst (IsDistinct same_path) (sym (keys-beside rs xs long)) apart) there q
      ∙ ap (λ (os : Cells). cond (same_path r q) None (cell_at q os)) e
    where
      there : slice_get (zip rs xs) i ≡ Some (r, c)
      there = ap (λ (os : Cells). slice_get os i) e ∙ at

      named : ns ≡ swap_remove rs i r
      named = subst (λ (o : Option (List ℕ)). IfSome o (λ k. ns ≡ swap_remove rs i k)) (resource-at rs xs i r c there) after

  -- then the cells behind those in use are idle
  pub idle-swapped : ((r : List ℕ) (c : Cell) → slice_get es i ≡ Some (r, c) → view_of c ≡ no_view) → ((j : ℕ) (d : Cell) → length rs ≤ j → j < length xs → view_of (get_or xs j d) ≡ no_view)
      → (j : ℕ) (d : Cell) → length rs ≤ j + 1 → j < length (swap xs i (length rs - 1)) → view_of (get_or (swap xs i (length rs - 1)) j d) ≡ no_view
  idle-swapped left idle = go xs refl
    where
      go : (zs : List Cell) → zs ≡ xs → (j : ℕ) (d : Cell) → length rs ≤ j + 1 → j < length (swap zs i (length rs - 1)) → view_of (get_or (swap zs i (length rs - 1)) j d) ≡ no_view
      go [] z j d h g = absurd (omega (arith, lt, long, ap length z))
      go (x ∷ zs) z j d h g = elim (cases_lt j (length rs)) [
        | inl less ↦ ap view_of (get_or-set_at (set (x ∷ zs) i (get_or (x ∷ zs) (length rs - 1) x)) (length rs - 1) j (get_or (x ∷ zs) i x) d (omega (arith, less, h)) (omega (arith, lt, long, longer, written)))
            ∙ left (get_or rs i []) (get_or (x ∷ zs) i x) (ap (λ (os : Cells). slice_get os i) (sym e) ∙ slice_get-zip_some rs xs i _ _ (slice_get-get_or rs i [] lt) (ap (λ (os : List Cell). slice_get os i) (sym z) ∙ slice_get-get_or (x ∷ zs) i x (omega (arith, lt, long, longer))))
        | inr more ↦ ap view_of (get_or-set_other (set (x ∷ zs) i (get_or (x ∷ zs) (length rs - 1) x)) (length rs - 1) j (get_or (x ∷ zs) i x) d (λ f. absurd (omega (arith, f, more, lt)))
            ∙ get_or-set_other (x ∷ zs) i j (get_or (x ∷ zs) (length rs - 1) x) d (λ f. absurd (omega (arith, f, more, lt)))
            ∙ ap (λ (os : List Cell). get_or os j d) z)
            ∙ idle j d more (omega (arith, g, longer, length-swap (x ∷ zs) i (length rs - 1)))
      ]
        where
          longer : length (x ∷ zs) ≡ length xs
          longer = ap length z

          written : length (set (x ∷ zs) i (get_or (x ∷ zs) (length rs - 1) x)) ≡ length (x ∷ zs)
          written = length-set (x ∷ zs) i (get_or (x ∷ zs) (length rs - 1) x)

-- cells that agree up to the last resource give the same entries
pub beside-front : (rs : List (List ℕ)) (xs ys : List Cell) → take (length rs) ys ≡ take (length rs) xs → zip rs ys ≡ zip rs xs
beside-front rs xs ys h = sym (beside-cut rs ys (length rs) (omega arith)) ∙ ap (zip rs) h ∙ beside-cut rs xs (length rs) (omega arith)

-- a resource is added, with a cell that was idle

module _ (rs : List (List ℕ)) (xs ys : List Cell) (cs : Cells) (e : zip rs xs ≡ cs) (r : List ℕ) (n : ℕ) (is : n ≡ length rs) (front : take n ys ≡ take n xs) where
  -- the entries of the cells in use are unchanged
  pub front-unchanged : zip rs ys ≡ cs
  front-unchanged = beside-front rs xs ys (subst (λ m. take m ys ≡ take m xs) is front) ∙ e

  module _ (ks : List (List ℕ)) (come : ks ≡ rs ++ r ∷ []) where
    -- once its cell is in use, it has this cell, and all others have theirs
    pub cell-come : (c : Cell) → n < length ys → cell_at r cs ≡ None → (q : List ℕ) → cell_at q (zip ks (set ys n c)) ≡ cond (same_path r q) (Some c) (cell_at q cs)
    cell-come c lt none q =
        (λ j. cell_at q (zip (come j) (set ys (is j) c)))
        ∙ ap (cell_at q) (beside-pushed rs ys r c (omega (arith, lt, is)))
        ∙ cell-pushed (zip rs ys) r c (ap (cell_at r) front-unchanged ∙ none) q
        ∙ ap (λ (os : Cells). cond (same_path r q) (Some c) (cell_at q os)) front-unchanged

    -- the cells behind it are still there and idle
    pub long-come : n < length ys → (c : Cell) → length ks ≤ length (set ys n c)
    long-come lt c = omega (arith, lt, is, ap length come, length-append rs (r ∷ []), length-set ys n c)

    -- the cells behind it are idle
    pub idle-come : AreIdleFrom n ys → (c : Cell) → AreIdleFrom (length ks) (set ys n c)
    idle-come idle c = λ j d h g.
        ap view_of (get_or-set_other ys n j c d (λ f. absurd (omega (arith, f, h, is, ap length come, length-append rs (r ∷ [])))))
        ∙ idle j d (omega (arith, h, is, ap length come, length-append rs (r ∷ []))) (omega (arith, g, length-set ys n c))

-- the index of a resource among those in use is its place
pub placed : {a : Inside} (kept : IsKeptTable a) {t : Table} (e : table_of a ≡ t) (r : List ℕ) (o : Option ℕ) → o ≡ position (same_path r) a.keys.used → IsPlace r t.entries o
placed {a} kept {t} e r o is = by o (is ∙ ap (position (same_path r)) (sym (keys-beside a.keys.used a.cells.items kept.long) ∙ ap (λ (s : Table). keys_of s.entries) e))
  where
    by : (o : Option ℕ) → o ≡ position (same_path r) (keys_of t.entries) → IsPlace r t.entries o
    by None h = none-there _ (sym (some_index (same_path r) t.entries) ∙ ap is_some (sym h))
    by (Some i) h = h

-- the cell at the place of a resource is read and written
module _ {a : Inside} (kept : IsKeptTable a) {t : Table} (e : table_of a ≡ t) (r : List ℕ) {o : Option ℕ} {i : ℕ} (is : o ≡ Some i) (place : IsPlace r t.entries o) where
  named : position (same_path r) (keys_of (zip a.keys.used a.cells.items)) ≡ Some i
  named = ap (λ (s : Table). position (same_path r) (keys_of s.entries)) e ∙ sym (subst (IsPlace r t.entries) is place)

  found : (i < length a.keys.used) × (same_path r (get_or a.keys.used i r) ≡ true) × ((k : ℕ) → k < i → same_path r (get_or a.keys.used k r) ≡ false)
  found = position-Some (same_path r) a.keys.used i r (ap (position (same_path r)) (sym (keys-beside a.keys.used a.cells.items kept.long)) ∙ named)

  -- the place is an index of the resources
  pub resource-within : i < length a.keys.used
  resource-within = found.0

  -- the place is an index of the list of cells
  pub cell-within : i < length a.cells.items
  cell-within = omega (arith, found.0, kept.long)

  -- the entry there, with this cell
  entry : (xs : List Cell) (c : Cell) → slice_get xs i ≡ Some c → slice_get (zip a.keys.used xs) i ≡ Some (r, c)
  entry xs c at = slice_get-zip_some a.keys.used xs i r c (slice_get-get_or a.keys.used i r found.0 ∙ ap Some (sym (same_path-true r (get_or a.keys.used i r) found.1))) at

  module _ {x : Cell} (read : x ≡ get_or a.cells.items i x) where
    -- the cell there is that of the resource
    pub there : Some x ≡ cell_at r t.entries
    there =
        let es = zip a.keys.used a.cells.items in
        let at = slice_get-get_or a.cells.items i x cell-within ∙ ap Some (sym read) in
        sym ((Found-position (same_path r) es i named).value ∙ (slice_get-map (λ (p : List ℕ × Cell). p.1) es i ∙ ap (option_map (λ (p : List ℕ × Cell). p.1)) (entry a.cells.items x at)))
        ∙ ap (λ (s : Table). cell_at r s.entries) e

  module _ (c : Cell) where
    -- the entry at the place has the cell that is written
    pub written-entry : slice_get (zip a.keys.used (set a.cells.items i c)) i ≡ Some (r, c)
    written-entry = entry (set a.cells.items i c) c (set-there a.cells.items i c cell-within)

    -- the cell that is written there is that of the entry
    pub written-cell : (q : List ℕ) (y : Cell) → slice_get (zip a.keys.used (set a.cells.items i c)) i ≡ Some (q, y) → c ≡ y
    written-cell q y h = same-cell r q c y (sym written-entry ∙ h)

    -- it is then the cell of the resource, and all others have theirs
    pub wrote : (q : List ℕ) → cell_at q (zip a.keys.used (set a.cells.items i c)) ≡ cond (same_path r q) (Some c) (cell_at q t.entries)
    wrote q =
        let es = zip a.keys.used a.cells.items in
        ap (cell_at q) (beside-written a.keys.used a.cells.items i c ∙ sym (insert_entry-first same_path r c es i (Found-position (same_path r) es i named).first))
        ∙ (cell-inserted es r c q ∙ ap (λ (s : Table). cond (same_path r q) (Some c) (cell_at q s.entries)) e)

    -- so the view of the resource is that of the cell written there, and the others are unchanged
    pub wrote-kept : (v : View) → AreKeptCells t.entries → IsKeptCell c → view_of c ≡ v → CellsBecame r v t.entries (zip a.keys.used (set a.cells.items i c))
    wrote-kept v k kept h = became-view r (view_of c) v t.entries _ h (became r (Some c) t.entries _ k kept wrote)
