use Rattle.lock_office.proofs.Together.{told-held-there, together, exclusive, apart}
use Rattle.lock_office.proofs.laws.sessions_are_told_what_goes_together.Goals as goal

pub returns-clause-held : goal.returns-clause-held
returns-clause-held c s i answers pending r m ruled has = told-held-there c.refusals_keep_the_state.ensures.keeps s ruled i answers pending has r m

pub returns-clause-modes : goal.returns-clause-modes
returns-clause-modes c = together c.refusals_keep_the_state.ensures.keeps

pub returns-clause-exclusive : goal.returns-clause-exclusive
returns-clause-exclusive c = exclusive c.refusals_keep_the_state.ensures.keeps

pub returns-clause-access : goal.returns-clause-access
returns-clause-access c = apart c.refusals_keep_the_state.ensures.keeps
