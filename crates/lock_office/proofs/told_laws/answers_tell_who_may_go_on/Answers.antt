use Rattle.lock_office.proofs.by_calls.Telling.{goes-on, always-told}
use Rattle.lock_office.proofs.told_laws.answers_tell_who_may_go_on.Goals as goal

pub returns-clause-only : goal.returns-clause-only
returns-clause-only c st session place call = goes-on st session call

pub returns-clause-each : goal.returns-clause-each
returns-clause-each c st session place call = always-told st session call
