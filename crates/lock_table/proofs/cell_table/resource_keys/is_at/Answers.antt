use Rattle.std.proofs.Common.{◌∙◌, sym, ap, Some}
use Rattle.lock_rules.proofs.Lists.{same_path-true}
use Rattle.lock_table.proofs.cell_table.resource_keys.is_at.Goals as goal

pub returns-in-Some : goal.returns-in-Some
returns-in-Some c = λ e. sym c.in-Some.ensures.key ∙ ap Some (same_path-true c.in-Some.here.now c.args.resource (sym c.is_same.ensures ∙ e))
