use Rattle.std.proofs.Common.{subst}
use Rattle.std.specs.List.{IsDistinct}
use Rattle.lock_tree.specs.Paths.{same_path}
use Rattle.lock_table.specs.inner.Cells.{Keys}
use Rattle.lock_table.proofs.CellEntries.{apart-in_use}
use Rattle.lock_table.proofs.cell_table.resource_keys.ResourceKeys.len.Goals as goal

pub returns-then-self-clause-apart : goal.returns-then-self-clause-apart
returns-then-self-clause-apart c = subst (λ (k : Keys). IsDistinct same_path k.used) c.self.view_is (apart-in_use _ c.self.invariant c.self.inside.resources.keys c.self.inside.has_provisional c.len-all.ensures.unique)

pub returns-clause-apart : goal.returns-clause-apart
returns-clause-apart c = subst (λ (k : Keys). IsDistinct same_path k.used) c.self.view_is (apart-in_use _ c.self.invariant c.self.inside.resources.keys c.self.inside.has_provisional c.len-all.ensures.unique)
