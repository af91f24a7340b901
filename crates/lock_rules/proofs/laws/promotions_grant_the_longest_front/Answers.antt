use Rattle.lock_rules.proofs.Fronts.{promotion-longest}
use Rattle.lock_rules.proofs.laws.promotions_grant_the_longest_front.Goals as goal

pub returns : goal.returns
returns c = promotion-longest
