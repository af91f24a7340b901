use Rattle.std.proofs.Common.{◌∙◌, ap, subst, length, slice_get, sym, Some, ◌≡◌, List, ℕ, [], ◌∷◌, ◌++◌}
use Rattle.lock_table.specs.inner.Cells.{Keys}
use Rattle.lock_table.proofs.Places.{key-taken}
use Rattle.lock_table.proofs.cell_table.resource_keys.ResourceKeys.add.Goals as goal

pub returns-then-is_at-clause-ok : goal.returns-then-is_at-clause-ok
returns-then-is_at-clause-ok c =
    let r = c.args.resource in
    let ks = c.self.inside.resources.keys in
    let last = c.len.ensures.len ∙ sym (ap (λ (k : Keys). length k.used) c.self.view_is) in
    key-taken ks c.self.inside.has_provisional r c.if-self.true (subst (λ (n : ℕ). slice_get ks n ≡ Some r) last (c.is_at.ensures c.if-is_at.true)) ∙ ap (λ (k : Keys). k.used ++ r ∷ []) c.self.view_is
