use Rattle.lock_rules.proofs.Histories.{legal-steps, steps-legal, legal-front, legal-push}
use Rattle.lock_rules.proofs.laws.histories_are_legal_by_steps.Goals as goal

pub returns-clause-by_steps : goal.returns-clause-by_steps
returns-clause-by_steps c = λ es. (legal-steps es, steps-legal es)

pub returns-clause-fronts : goal.returns-clause-fronts
returns-clause-fronts c = legal-front

pub returns-clause-one_more : goal.returns-clause-one_more
returns-clause-one_more c = legal-push
