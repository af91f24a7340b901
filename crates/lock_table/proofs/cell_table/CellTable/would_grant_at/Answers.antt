use Rattle.std.proofs.Common.{◌∙◌, ap, arith, Option}
use Rattle.lock_table.specs.declared.cells.Cell.{Cell}
use Rattle.lock_table.specs.inner.Cells.{Table, can_grant, view_in}
use Rattle.lock_table.proofs.Places.{cell-within, there}
use Rattle.lock_table.proofs.cell_table.CellTable.would_grant_at.Goals as goal

pub returns-in-Some : goal.returns-in-Some
returns-in-Some c = λ r p.
    c.would_grant.ensures ∙ ap (λ (o : Option Cell). can_grant c.args.asker (view_in o)) (there c.self.invariant c.self.view_is r c.in-Some.is p c.index.ensures)

pub returns-in_default : goal.returns-in_default
returns-in_default c = λ r p.
    absurd (omega (arith, cell-within c.self.invariant c.self.view_is r c.in-Some.is p, c.if-place-len.false, c.len.ensures, c.self.inside.cells.ok.0))
