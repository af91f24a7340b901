use Rattle.std.proofs.Common.{◌∙◌, ap}
use Rattle.waits_for.specs.Pairs.{Pairs, pairs_of}
use Rattle.waits_for.proofs.rows.Rows.waits.Goals as goal

pub returns : goal.returns
returns c = record { pairs = c.has.ensures ∙ c.row.ensures.bits c.args.u ∙ ap (λ (p : Pairs). pairs_of p c.args.t c.args.u) c.self.view_is }
