use Rattle.lock_rules.proofs.Waiting.{waits-tell}
use Rattle.lock_rules.proofs.laws.waits_are_for_holders_and_earlier_requests.Goals as goal

pub returns : goal.returns
returns c = waits-tell
