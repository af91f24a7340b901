use Rattle.lock_modes.proofs.Needs.{need_below, need_rises, needs_together}
use Rattle.lock_modes.proofs.laws.needs_go_together.Goals as goal

pub returns-clause-below : goal.returns-clause-below
returns-clause-below c = need_below

pub returns-clause-rises : goal.returns-clause-rises
returns-clause-rises c = need_rises

pub returns-clause-together : goal.returns-clause-together
returns-clause-together c = needs_together
