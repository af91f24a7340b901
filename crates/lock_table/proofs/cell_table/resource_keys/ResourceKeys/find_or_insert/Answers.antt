use Rattle.std.proofs.Common.{◌∙◌, sym, ap, position}
use Rattle.std.proofs.lemmas.Bool.{not-true}
use Rattle.lock_tree.specs.Paths.{same_path}
use Rattle.lock_table.proofs.Places.{place-absent}
use Rattle.lock_table.proofs.cell_table.resource_keys.ResourceKeys.find_or_insert.Goals as goal

pub returns-then-added-clause-place : goal.returns-then-added-clause-place
returns-then-added-clause-place c =
    place-absent _ c.self.invariant c.self.inside.resources.keys c.self.inside.has_provisional _ c.self.view_is c.args.resource (not-true _ (sym c.in-Ok.ensures.added ∙ c.if-added.true))
    ∙ ap (position (same_path c.args.resource)) c.drop_provisional.ensures.used
