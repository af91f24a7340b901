use Rattle.publication.proofs.RealTime.{step-unchanged, step-joins, step-enters, seats-unchanged}
use Rattle.publication.proofs.laws.only_answers_and_direct_entries_change_the_history.Goals as goal

pub returns-clause-others : goal.returns-clause-others
returns-clause-others g c = step-unchanged

pub returns-clause-answers : goal.returns-clause-answers
returns-clause-answers g c = step-joins

pub returns-clause-entries : goal.returns-clause-entries
returns-clause-entries g c = step-enters

pub returns-clause-seats : goal.returns-clause-seats
returns-clause-seats g c = seats-unchanged
