use Rattle.std.proofs.Common.{rules}
use Rattle.lock_explain.proofs.BegunWaits.{not-begun, begins-asked, is-asked}
use Rattle.lock_explain.proofs.explaining.wait_begun.Goals as goal

pub returns-then-not-has_begun_wait-clause-none : goal.returns-then-not-has_begun_wait-clause-none
returns-then-not-has_begun_wait-clause-none c = not-begun c.args.before.now.sessions c.args.before.now.history c.args.entry.now c.args.victims.now c.requires.served c.requires.victims (c.has_begun_wait.ensures.none (search rules))

pub returns-clause-asked : goal.returns-clause-asked
returns-clause-asked c = is-asked c.args.before.now.sessions c.args.before.now.history c.args.entry.now c.args.victims.now c.requires.served c.requires.victims (c.has_begun_wait.ensures.waits (search rules)) c.asked_by.result c.asked_by.ensures.made c.asked_by.ensures.converts

pub returns-clause-begins : goal.returns-clause-begins
returns-clause-begins c = begins-asked c.args.before.now.sessions c.args.before.now.history c.args.entry.now c.args.victims.now c.requires.served c.requires.victims (c.has_begun_wait.ensures.waits (search rules)) c.asked_by.result c.asked_by.ensures.made
