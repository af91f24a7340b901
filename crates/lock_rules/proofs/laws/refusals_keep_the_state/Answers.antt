use Rattle.lock_rules.proofs.Refusals.{refused-first, refused-keeps}
use Rattle.lock_rules.proofs.laws.refusals_keep_the_state.Goals as goal

pub returns-clause-exact : goal.returns-clause-exact
returns-clause-exact c = refused-first

pub returns-clause-keeps : goal.returns-clause-keeps
returns-clause-keeps c = refused-keeps
