use Rattle.lock_rules.proofs.CountBalance.{counts-bounded}
use Rattle.lock_rules.proofs.count_laws.counts_are_bounded.Goals as goal

pub returns : goal.returns
returns c = counts-bounded
