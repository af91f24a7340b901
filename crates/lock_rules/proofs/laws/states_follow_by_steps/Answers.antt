use Rattle.lock_rules.proofs.Histories.{state_of-push}
use Rattle.lock_rules.proofs.laws.states_follow_by_steps.Goals as goal

pub returns-clause-one_more : goal.returns-clause-one_more
returns-clause-one_more c = state_of-push
