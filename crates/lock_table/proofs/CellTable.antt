-- The cells after a change of one of them.
use Rattle.std.proofs.Common.{◌≡◌, ℕ, Bool, true, false, cond, not, ◌&&◌, inl, inr, List, [], ◌∷◌, Option, Some, IfSome, refl, sym, ◌∙◌, ap, subst}
use Rattle.lock_tree.specs.Paths.{same_path}
use Rattle.lock_rules.proofs.Lists.{same_path_tells}
use Rattle.lock_holders.specs.declared.session_mode.SessionMode.{SessionMode}
use Rattle.lock_table.specs.declared.cells.Cell.{Cell}
use Rattle.lock_table.specs.inner.Cells.{View, no_view, Cells, cell_at, view_in, cell_view, IsKeptCell, AreKeptCells, CellsBecame, is_busy}
use Rattle.lock_holders.specs.SessionModes.{is_nobody}

-- no cell has changed

-- the view of a resource, chosen by whether it is this one
pub same-view : (r q : List ℕ) (cs : Cells) → cell_view q cs ≡ cond (same_path r q) (cell_view r cs) (cell_view q cs)
same-view r q cs = elim (same_path_tells r q) [
  | inl h ↦ sym (ap (λ (b : Bool). cond b (cell_view r cs) (cell_view q cs)) h.0 ∙ ap (λ (p : List ℕ). cell_view p cs) h.1)
  | inr h ↦ sym (ap (λ (b : Bool). cond b (cell_view r cs) (cell_view q cs)) h)
]

-- cells that are unchanged give the views that were there
pub became-same : (r : List ℕ) (cs : Cells) → AreKeptCells cs → CellsBecame r (cell_view r cs) cs cs
became-same r cs k = record { views = λ q. same-view r q cs; kept = k }

-- equal views give equal changes
pub became-view : (r : List ℕ) (v w : View) (cs new : Cells) → v ≡ w → CellsBecame r v cs new → CellsBecame r w cs new
became-view r v w cs new e h = subst (λ (x : View). CellsBecame r x cs new) e h

-- a cell is written, added or removed

-- a cell of a resource that is written, added or removed changes the view of this resource alone
pub became : (r : List ℕ) (now : Option Cell) (cs new : Cells) → AreKeptCells cs → IfSome now IsKeptCell → ((q : List ℕ) → cell_at q new ≡ cond (same_path r q) now (cell_at q cs)) → CellsBecame r (view_in now) cs new
became r now cs new k kept at = record {
  views = λ q. ap view_in (at q) ∙ said-cond (same_path r q) (cell_at q cs);
  kept = λ q. subst (λ (o : Option Cell). IfSome o IsKeptCell) (sym (at q)) (kept-cond (same_path r q) (cell_at q cs) (k q));
}
  where
    said-cond : (b : Bool) (o : Option Cell) → view_in (cond b now o) ≡ cond b (view_in now) (view_in o)
    said-cond true o = refl
    said-cond false o = refl

    kept-cond : (b : Bool) (o : Option Cell) → IfSome o IsKeptCell → IfSome (cond b now o) IsKeptCell
    kept-cond true o h = kept
    kept-cond false o h = h

-- a view that is not busy is the empty one
pub idle-view : (v : View) → is_busy v ≡ false → v ≡ no_view
idle-view v h = λ i. record { holders = no-holders v.holders v.waiting h i; waiting = no-waiting v.holders v.waiting h i }
  where
    no-holders : (hs ws : List SessionMode) → not (is_nobody hs && is_nobody ws) ≡ false → hs ≡ []
    no-holders [] ws h = refl
    no-holders (x ∷ hs) ws h = absurd (cc)

    no-waiting : (hs ws : List SessionMode) → not (is_nobody hs && is_nobody ws) ≡ false → ws ≡ []
    no-waiting hs [] h = refl
    no-waiting [] (x ∷ ws) h = absurd (cc)
    no-waiting (y ∷ hs) (x ∷ ws) h = absurd (cc)

-- the cell of a resource keeps its invariant
pub kept-at : (r : List ℕ) (cs : Cells) (c : Cell) → AreKeptCells cs → Some c ≡ cell_at r cs → IsKeptCell c
kept-at r cs c k e = subst (λ (o : Option Cell). IfSome o IsKeptCell) (sym e) (k r)
