use Rattle.lock_rules.proofs.Lawful.{lawful}
use Rattle.lock_rules.proofs.laws.refusals_mean_what_they_say.Goals as goal

pub returns-clause-meant : goal.returns-clause-meant
returns-clause-meant c = λ es. (lawful es).refusals_meant

pub returns-clause-others : goal.returns-clause-others
returns-clause-others c = λ es. (lawful es).others_accepted

pub returns-clause-conversion : goal.returns-clause-conversion
returns-clause-conversion c = λ es. (lawful es).conversions_unbounded

pub returns-clause-abort : goal.returns-clause-abort
returns-clause-abort c = λ es. (lawful es).abort_needs_transaction

pub returns-clause-commit : goal.returns-clause-commit
returns-clause-commit c = λ es. (lawful es).clear_commit_accepted
