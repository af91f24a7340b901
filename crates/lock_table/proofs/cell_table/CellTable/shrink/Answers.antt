use Rattle.std.proofs.Common.{◌∙◌, ap, arith, List, length, take, zip, ℕ}
use Rattle.lock_table.proofs.CellEntries.{beside-cut}
use Rattle.lock_table.proofs.cell_table.CellTable.shrink.Goals as goal

pub returns : goal.returns
returns c =
    let used = c.shrink.ensures.used in
    let cells = c.shrink_to_fit.ensures.items ∙ c.truncate.ensures.items ∙ ap (λ (n : ℕ). take n c.self.inside.cells.items) (c.len.ensures.len ∙ ap (λ (l : List (List ℕ)). length l) used) in
    record {
      same = (λ i. record { entries = zip (used i) (cells i) })
          ∙ (λ i. record { entries = beside-cut c.self.inside.keys.used c.self.inside.cells.items (length c.self.inside.keys.used) (omega arith) i })
          ∙ c.self.view_is;
    }
