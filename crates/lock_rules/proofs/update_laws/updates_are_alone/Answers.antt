use Rattle.lock_rules.proofs.Updates.{update-alone}
use Rattle.lock_rules.proofs.update_laws.updates_are_alone.Goals as goal

pub returns : goal.returns
returns c = update-alone
