use Rattle.lock_modes.proofs.Columns.{column_fits, column_conflicts}
use Rattle.lock_modes.proofs.laws.columns_meet_masks.Goals as goal

pub returns-clause-fits : goal.returns-clause-fits
returns-clause-fits c = column_fits

pub returns-clause-conflicts : goal.returns-clause-conflicts
returns-clause-conflicts c = column_conflicts
