use Rattle.lock_rules.proofs.Sessions.{begin-opens}
use Rattle.lock_rules.proofs.laws.begins_open_one_transaction.Goals as goal

pub returns : goal.returns
returns c = begin-opens
