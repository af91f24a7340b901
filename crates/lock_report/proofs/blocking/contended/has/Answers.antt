use Rattle.std.proofs.Common.{◌∙◌}
use Rattle.indexmap.specs.IndexSet.{contains_by}
use Rattle.lock_report.proofs.blocking.contended.has.Goals as goal

pub returns : goal.returns
returns c = c.contains.ensures ∙ (λ i. contains_by (λ y. c.same_path_is_equality.ensures.code c.args.resource y i) c.args.resources.now)
