use Rattle.std.proofs.Common.{None}
use Rattle.lock_table.proofs.Agreement.{keeps-on}
use Rattle.lock_table.proofs.BeginAndEnd.{given_up-after}
use Rattle.lock_table.proofs.EndedWaits.{waits_ended-on}
use Rattle.lock_table.proofs.table.LockTable.abort.Goals as goal

pub returns-clause-ended : goal.returns-clause-ended
returns-clause-ended c = given_up-after (λ o. None) c.args.session c.args.self.now c.cancel.new.self c.end.new.self c.cancel.ensures.kept.whole c.cancel.ensures.cancelled c.end.ensures.ended

pub returns-clause-kept : goal.returns-clause-kept
returns-clause-kept c = keeps-on c.cancel.ensures.kept c.end.ensures.kept

pub returns-clause-waits_ended : goal.returns-clause-waits_ended
returns-clause-waits_ended c = waits_ended-on c.args.session c.args.self.now c.cancel.new.self c.end.new.self c.cancel.ensures.waits_ended c.end.ensures.waits_ended
