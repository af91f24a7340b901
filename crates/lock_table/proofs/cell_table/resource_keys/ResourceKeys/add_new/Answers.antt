use Rattle.std.proofs.Common.{◌∙◌, ap, List, ℕ, [], ◌∷◌, ◌++◌}
use Rattle.session_locks.specs.Resources.{has_path}
use Rattle.lock_table.specs.inner.Cells.{Keys}
use Rattle.lock_table.proofs.Places.{key-added}
use Rattle.lock_table.proofs.cell_table.resource_keys.ResourceKeys.add_new.Goals as goal

pub returns-clause-ok : goal.returns-clause-ok
returns-clause-ok c =
    let r = c.args.resource in
    let used = c.drop_provisional.ensures.used in
    key-added _ c.self.invariant c.self.inside.resources.keys c.self.inside.has_provisional _ c.self.view_is r (ap (λ (k : Keys). k.has_provisional) c.self.view_is ∙ c.drop_provisional.ensures.none) (ap (has_path r) used ∙ c.requires) _ c.in_ok-insert.ensures.keys
    ∙ ap (λ (qs : List (List ℕ)). qs ++ r ∷ []) used
