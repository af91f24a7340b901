use Rattle.std.proofs.Common.{ℕ, get_or, ap, ◌∙◌}
use Rattle.lock_rules.specs.Kinds.{number_of_why}
use Rattle.lock_rules.proofs.CountNumbers.{why_few}
use Rattle.lock_desk.proofs.call_counts.CallCounts.refused.Goals as goal

pub returns : goal.returns
returns c = λ h t.
    ap (λ (i : ℕ). get_or c.args.self.now.refusals i 0) c.number.ensures ∙ t.refusals (number_of_why c.args.why) (why_few c.args.why)
