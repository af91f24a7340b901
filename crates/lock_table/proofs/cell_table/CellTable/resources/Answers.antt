use Rattle.std.proofs.Common.{sym, ◌∙◌, ap, subst}
use Rattle.std.specs.List.{IsDistinct}
use Rattle.std.specs.Map.{keys_of}
use Rattle.lock_tree.specs.Paths.{same_path}
use Rattle.lock_table.specs.inner.Cells.{Table}
use Rattle.session_locks.specs.Resources.{in_order}
use Rattle.lock_table.proofs.CellEntries.{keys-beside}
use Rattle.lock_table.proofs.cell_table.CellTable.resources.Goals as goal

pub sort_resources-requires : goal.sort_resources-requires
sort_resources-requires c = subst (IsDistinct same_path) (sym (c.in_ok-list.ensures.items ∙ c.as_slice.ensures.used)) c.as_slice.ensures.apart

pub returns : goal.returns
returns c =
    let keys = sym (keys-beside c.self.inside.keys.used c.self.inside.cells.items c.self.invariant.long) ∙ ap (λ (t : Table). keys_of t.entries) c.self.view_is in
    c.sort_resources.ensures ∙ ap in_order (c.in_ok-list.ensures.items ∙ (c.as_slice.ensures.used ∙ keys))
