use Rattle.std.proofs.Common.{◌≡◌, ◌<◌}
use Rattle.combining.specs.Sessions.{IsSessionOf}
use Rattle.combining.specs.Calls.{IsWaitingOn}
use Rattle.combining.specs.Woken.{HasAddedTold, entered_since}
use Rattle.combining.proofs.calling.go_on.Given as goal

-- The session goes on waiting, and has lost a try for the object if it made a look. Those are told whose waits its passes have ended, and
-- what is noted is true of the front that it knows.
abbrev pub invariant-loop-looked : goal.invariant-loop-looked
invariant-loop-looked g l = record {
  ours : IsSessionOf l.office l.session;
  waits : IsWaitingOn l.initial.session l.session;
  others : 0 < l.looked → 1 < l.office.sessions;
  told : HasAddedTold g.T.Listener.ends l.office.sessions l.session.front (entered_since l.initial.session l.session) (g.T.Listener.list l.initial.listener) (g.T.Listener.list l.listener);
  room : g.T.Listener.room l.listener ≡ g.T.Listener.room l.initial.listener;
  notes : g.T.Listener.notes l.initial.listener l.initial.session.front → g.T.Listener.notes l.listener l.session.front;
}
