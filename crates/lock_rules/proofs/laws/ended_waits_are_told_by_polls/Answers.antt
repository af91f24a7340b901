use Rattle.lock_rules.proofs.Ended.{ended-listed, nothing-ends, ended-told-after, others-told-after}
use Rattle.lock_rules.proofs.laws.ended_waits_are_told_by_polls.Goals as goal

pub returns-clause-listed : goal.returns-clause-listed
returns-clause-listed c = ended-listed

pub returns-clause-none : goal.returns-clause-none
returns-clause-none c = nothing-ends

pub returns-clause-told : goal.returns-clause-told
returns-clause-told c = ended-told-after

pub returns-clause-others : goal.returns-clause-others
returns-clause-others c = others-told-after
