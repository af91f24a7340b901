use Rattle.std.proofs.Common.{◌∙◌}
use Rattle.lock_report.proofs.claims.is_last.Goals as goal

pub returns-in-Some : goal.returns-in-Some
returns-in-Some c = rw c.in-Some.is (c.eq.ensures ∙ c.same_path_is_equality.ensures.code c.args.resource c.in-Some.last)
