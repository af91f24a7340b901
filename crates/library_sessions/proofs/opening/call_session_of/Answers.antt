use Rattle.std.proofs.Common.{ap, sym}
use Rattle.lock_office.specs.Seen.{number_of_calls}
use Rattle.library_sessions.proofs.opening.call_session_of.Goals as goal

pub new-requires-clause-seen : goal.new-requires-clause-seen
new-requires-clause-seen c = ap number_of_calls (sym c.requires.unknowing)
