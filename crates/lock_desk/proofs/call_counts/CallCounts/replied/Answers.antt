use Rattle.std.proofs.Common.{ℕ, get_or, ap, ◌∙◌}
use Rattle.lock_rules.specs.Kinds.{number_of_kind}
use Rattle.lock_rules.proofs.CountNumbers.{kind_few}
use Rattle.lock_desk.proofs.call_counts.CallCounts.replied.Goals as goal

pub returns : goal.returns
returns c = λ h t.
    ap (λ (i : ℕ). get_or c.args.self.now.replies i 0) c.cell.ensures.cell ∙ t.replies c.args.op (number_of_kind c.args.kind) (kind_few c.args.kind)
