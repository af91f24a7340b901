use Rattle.combining.specs.Sessions.{IsSessionOf, IsIdle}
use Rattle.flat_combining.proofs.threads.make_calls.Given as goal

-- The session may make a call.
abbrev pub invariant-loop-made : goal.invariant-loop-made
invariant-loop-made g l = IsSessionOf l.office l.session × IsIdle l.session
