-- A session gives up its lock on a resource, or its request.
use Rattle.std.proofs.Common.{◌≡◌, ℕ, Bool, true, false, cond, List, Option, Some, None, refl, sym, ◌∙◌, ap, subst}
use Rattle.lock_tree.specs.Paths.{same_path}
use Rattle.lock_table.specs.declared.cells.Cell.{Cell}
use Rattle.lock_table.specs.declared.cells.GivenUp.{GivenUp}
use Rattle.lock_table.specs.declared.cells.GivenUp.TheVariants as claim
use Rattle.lock_table.specs.inner.Cells.{View, no_view, view_of, Cells, cell_at, view_in, cell_view, view_after_giving_up, view_after_freeing, view_after_promotion, HasRoom, IsOnce, is_busy, AreKeptCells, CellsBecame}
use Rattle.lock_table.specs.inner.Lockers.{Standing, DoAgree}
use Rattle.lock_table.proofs.ResourceViews.{once-giving_up}
use Rattle.lock_table.proofs.CellTable.{became-view, became, idle-view}

-- where nobody holds and nobody waits, nothing is given up
pub freed-nothing : (g : GivenUp) (s : ℕ) → view_after_freeing g s no_view ≡ no_view
freed-nothing claim.Lock s = refl
freed-nothing claim.Request s = refl

module _ (g : GivenUp) (r : List ℕ) (s : ℕ) (cs : Cells) (x l : Cell) (there : Some x ≡ cell_at r cs) (gave : view_of l ≡ view_after_giving_up g s (view_of x)) where
  -- the view after the session has given up its lock or its request
  pub view-left : view_of l ≡ view_after_giving_up g s (cell_view r cs)
  view-left = gave ∙ ap (λ (o : Option Cell). view_after_giving_up g s (view_in o)) there

  -- the view still keeps its invariant
  pub once-there : IsOnce (view_of x) → IsOnce (view_of l)
  once-there o = subst IsOnce (sym gave) (once-giving_up g s (view_of x) o)

  module _ (new : Cell) (promoted : view_of new ≡ view_after_promotion (view_of l)) where
    -- the view after the queue is promoted
    pub view-promoted : view_of new ≡ view_after_freeing g s (cell_view r cs)
    view-promoted = promoted ∙ ap view_after_promotion view-left

    -- the lockers agree with this view
    pub agree-there : (ss : List Standing) → DoAgree r (view_of new) ss → DoAgree r (view_after_freeing g s (cell_view r cs)) ss
    agree-there ss a = subst (λ (v : View). DoAgree r v ss) view-promoted a

    module _ (k : AreKeptCells cs) (after : Cells) where
      -- the cell is still busy: it has the new view, and no other view changes
      pub free-kept : HasRoom new → IsOnce (view_of new) → is_busy (view_of new) ≡ true → ((q : List ℕ) → cell_at q after ≡ cond (same_path r q) (Some new) (cell_at q cs)) → CellsBecame r (view_after_freeing g s (cell_view r cs)) cs after
      free-kept room once busy updates = became-view r (view_of new) _ cs after view-promoted (became r (Some new) cs after k (record { room = room; once = once; busy = busy }) updates)

      -- the cell is idle, and is removed: its resource has the empty view, and no other view changes
      pub free-idle : (mid : Cells) → is_busy (view_of new) ≡ false → ((q : List ℕ) → cell_at q mid ≡ cond (same_path r q) (Some new) (cell_at q cs)) → ((q : List ℕ) → cell_at q after ≡ cond (same_path r q) None (cell_at q mid))
          → CellsBecame r (view_after_freeing g s (cell_view r cs)) cs after
      free-idle mid idle lent gone =
          became-view r no_view _ cs after (sym (idle-view (view_of new) idle) ∙ view-promoted)
          (became r None cs after k tt (λ q. gone q ∙ (ap (λ (o : Option Cell). cond (same_path r q) None o) (lent q) ∙ twice (same_path r q) (Some new) None (cell_at q cs))))
        where
          -- of two changes of one cell the last one counts
          twice : (b : Bool) (x y z : Option Cell) → cond b y (cond b x z) ≡ cond b y z
          twice true x y z = refl
          twice false x y z = refl

-- a cell is either idle or busy
