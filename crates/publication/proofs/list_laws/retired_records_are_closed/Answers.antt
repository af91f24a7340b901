use Rattle.publication.proofs.ListLaws.{is_closed, has_retired, is_idle}
use Rattle.publication.proofs.list_laws.retired_records_are_closed.Goals as goal

pub returns-clause-closed : goal.returns-clause-closed
returns-clause-closed g c = is_closed

pub returns-clause-retired : goal.returns-clause-retired
returns-clause-retired g c = has_retired

pub returns-clause-idle : goal.returns-clause-idle
returns-clause-idle g c = is_idle
