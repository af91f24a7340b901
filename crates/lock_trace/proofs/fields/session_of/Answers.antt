use Rattle.std.proofs.Common.{sym, arith}
use Rattle.lock_trace.proofs.Sessions.{session_iff}
use Rattle.lock_trace.proofs.fields.session_of.Goals as goal

pub returns-in-Some-clause-value : goal.returns-in-Some-clause-value
returns-in-Some-clause-value c =
    sym ((session_iff c.args.sessions c.in-Some.session c.args.field.now c.ranges.sessions.fits).1 (record { first = omega (arith, c.if-session-ne0.true); last = c.if-session-sessions.true; text = c.in-Some.ensures }))
