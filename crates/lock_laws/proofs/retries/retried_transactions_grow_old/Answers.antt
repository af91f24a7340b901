use Rattle.lock_laws.proofs.Oldest.{number-stands, older-stay, history-younger, history-spared, oldest-stands}
use Rattle.lock_laws.proofs.retries.retried_transactions_grow_old.Goals as goal

pub returns-clause-number : goal.returns-clause-number
returns-clause-number c = number-stands

pub returns-clause-older : goal.returns-clause-older
returns-clause-older c = older-stay

pub returns-clause-younger : goal.returns-clause-younger
returns-clause-younger c = history-younger

pub returns-clause-spared : goal.returns-clause-spared
returns-clause-spared c = history-spared

pub returns-clause-oldest : goal.returns-clause-oldest
returns-clause-oldest c = oldest-stands
