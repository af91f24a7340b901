use Rattle.lock_rules.specs.Step.{restarted}
use Rattle.lock_table.proofs.Agreement.{keeps-on}
use Rattle.lock_table.proofs.BeginAndEnd.{given_up-after}
use Rattle.lock_table.proofs.EndedWaits.{waits_ended-on}
use Rattle.lock_table.proofs.table.LockTable.restart.Goals as goal

pub returns-clause-restarted : goal.returns-clause-restarted
returns-clause-restarted c = given_up-after restarted c.args.session c.args.self.now c.cancel.new.self c.begin_again.new.self c.cancel.ensures.kept.whole c.cancel.ensures.cancelled c.begin_again.ensures.restarted

pub returns-clause-kept : goal.returns-clause-kept
returns-clause-kept c = keeps-on c.cancel.ensures.kept c.begin_again.ensures.kept

pub returns-clause-waits_ended : goal.returns-clause-waits_ended
returns-clause-waits_ended c = waits_ended-on c.args.session c.args.self.now c.cancel.new.self c.begin_again.new.self c.cancel.ensures.waits_ended c.begin_again.ensures.waits_ended
