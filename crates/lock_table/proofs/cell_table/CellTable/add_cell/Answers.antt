use Rattle.std.proofs.Common.{◌∙◌, ℕ, List, Bool, zip, ap, Some}
use Rattle.std.specs.List.{list_any}
use Rattle.lock_tree.specs.Paths.{same_path}
use Rattle.lock_table.specs.inner.Cells.{Table, Cells, cell_at, view_of}
use Rattle.lock_table.proofs.Results.{on-err-from}
use Rattle.lock_table.proofs.CellTable.{became, became-view}
use Rattle.session_locks.proofs.ResourceLists.{same_path-equivalence}
use Rattle.lock_table.proofs.Places.{unused, front-unchanged, cell-come, long-come, idle-come}
use Rattle.lock_table.proofs.cell_table.CellTable.add_cell.Goals as goal

pub add-requires : goal.add-requires
add-requires c =
    let rs = c.self.inside.keys.used in
    let e = ap (λ (t : Table). t.entries) c.self.view_is in
    ap (λ (test : List ℕ → Bool). list_any test rs) (λ j q. same_path-equivalence.symm q c.args.resource j)
    ∙ unused c.args.resource rs c.self.inside.cells.items c.self.invariant.long (ap (cell_at c.args.resource) e ∙ c.requires.none)

pub returns-in_err-ensure_cell-clause-err : goal.returns-in_err-ensure_cell-clause-err
returns-in_err-ensure_cell-clause-err c =
    on-err-from c.from_residual.result (ap (λ (es : Cells). record { entries = es })
    (front-unchanged c.self.inside.keys.used c.self.inside.cells.items c.ensure_cell.new.cells.items c.args.self.now.entries (ap (λ (t : Table). t.entries) c.self.view_is) c.args.resource _ c.len-place.ensures.len c.in_err-ensure_cell.ensures.front))

pub returns-in_err-add-clause-err : goal.returns-in_err-add-clause-err
returns-in_err-add-clause-err c =
    on-err-from c.from_residual-in_err-add.result ((λ i. record { entries = zip (c.in_err-add.ensures.err i) c.ensure_cell.new.cells.items }) ∙ ap (λ (es : Cells). record { entries = es })
    (front-unchanged c.self.inside.keys.used c.self.inside.cells.items c.ensure_cell.new.cells.items c.args.self.now.entries (ap (λ (t : Table). t.entries) c.self.view_is) c.args.resource _ c.len-place.ensures.len c.in_ok-ensure_cell.ensures.front))

pub invariant_of-self-2 : goal.invariant_of-self-2
invariant_of-self-2 c =
    let rs = c.self.inside.keys.used in
    let e = ap (λ (t : Table). t.entries) c.self.view_is in
    record {
      long = long-come rs c.self.inside.cells.items c.ensure_cell.new.cells.items c.args.self.now.entries e c.args.resource _ c.len-place.ensures.len c.in_ok-ensure_cell.ensures.front c.add.new.self.used c.in_ok-add.ensures.ok c.in_ok-ensure_cell.ensures.ok c.set_first_holder.new.self;
      idle = idle-come rs c.self.inside.cells.items c.ensure_cell.new.cells.items c.args.self.now.entries e c.args.resource _ c.len-place.ensures.len c.in_ok-ensure_cell.ensures.front c.add.new.self.used c.in_ok-add.ensures.ok c.in_ok-ensure_cell.ensures.idle c.set_first_holder.new.self;
    }

pub returns-clause-ok : goal.returns-clause-ok
returns-clause-ok c =
    let rs = c.self.inside.keys.used in
    let e = ap (λ (t : Table). t.entries) c.self.view_is in
    let cell = c.set_first_holder.new.self in
    became-view c.args.resource (view_of cell) _ c.args.self.now.entries _ c.set_first_holder.ensures.view
    (became c.args.resource (Some cell) c.args.self.now.entries _ c.requires.kept c.set_first_holder.ensures.kept
    (cell-come rs c.self.inside.cells.items c.ensure_cell.new.cells.items c.args.self.now.entries e c.args.resource _ c.len-place.ensures.len c.in_ok-ensure_cell.ensures.front c.add.new.self.used c.in_ok-add.ensures.ok cell c.in_ok-ensure_cell.ensures.ok c.requires.none))
