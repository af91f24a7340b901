use Rattle.lock_trace.proofs.Resources.{resource_iff}
use Rattle.lock_trace.proofs.Sessions.{session_iff}
use Rattle.lock_trace.proofs.laws.tests_pass_texts.Goals as goal

pub returns-clause-session : goal.returns-clause-session
returns-clause-session c = session_iff

pub returns-clause-resource : goal.returns-clause-resource
returns-clause-resource c = resource_iff
