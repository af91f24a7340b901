use Rattle.lock_rules.specs.Legal.{state_of}
use Rattle.lock_rules.proofs.Lawful.{lawful}
use Rattle.lock_laws.proofs.Chains.{lawful-others, lawful-holders}
use Rattle.lock_laws.proofs.ends.whoever_waits_waits_in_the_end_for_a_holder.Goals as goal

pub returns-clause-others : goal.returns-clause-others
returns-clause-others c = lawful-others

pub returns-clause-holders : goal.returns-clause-holders
returns-clause-holders c = lawful-holders

pub returns-clause-history : goal.returns-clause-history
returns-clause-history c = λ es. lawful-holders (state_of es) (lawful es)
