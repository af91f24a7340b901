use Rattle.std.proofs.Common.{◌<◌, ◌∙◌, sym, ap, length, slice_get, arith}
use Rattle.lock_table.specs.inner.Cells.{Keys, in_use}
use Rattle.lock_table.proofs.Places.{in_use-at, position-apart}
use Rattle.lock_table.proofs.cell_table.resource_keys.ResourceKeys.place_near.Goals as goal

pub returns-then-is_at : goal.returns-then-is_at
returns-then-is_at c =
    let within : c.args.likely < length (in_use c.self.inside.resources.keys c.self.inside.has_provisional) = omega (arith, c.if-likely-len.true, c.len.ensures.len, ap (λ (k : Keys). length k.used) c.self.view_is) in
    let at = in_use-at c.self.inside.resources.keys c.self.inside.has_provisional c.args.likely within ∙ c.is_at.ensures c.if-is_at.true in
    position-apart _ c.args.resource c.args.likely c.len.ensures.apart (sym (ap (λ (k : Keys). slice_get k.used c.args.likely) c.self.view_is) ∙ at)
