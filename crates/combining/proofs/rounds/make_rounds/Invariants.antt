use Rattle.std.proofs.Common.{◌≡◌, ◌≤◌, ◌<◌, ◌-◌, ◌*◌, ℕ}
use mathlib.Core.List.{IsPrefix}
use Rattle.combining.specs.Woken.{HasAddedTold, entered_since}
use Rattle.combining.specs.Rounds.{HaveLed}
use Rattle.combining.specs.inner.Passes.{HasPassed, IsAtWork}
use Rattle.combining.proofs.rounds.make_rounds.Given as goal

-- So many rounds are made, and none was starved.
abbrev pub invariant-loop-made : goal.invariant-loop-made
invariant-loop-made g l = record {
  work : IsAtWork g.O.Sequential l.board l.session l.load;
  passed : (served : ℕ) × HasPassed l.initial.session l.session served × (served ≤ l.made * l.bound.calls);
  led : HaveLed g.T.Listener.weight l.bound l.made l.initial.session.front l.session.front;
  longer : IsPrefix l.initial.session.front l.session.front;
  backs : l.session.put_backs ≡ l.initial.session.put_backs;
  pieces : l.load.pieces.items ≡ l.initial.load.pieces.items;
  few : l.made < l.bound.rounds;
  told : HasAddedTold g.T.Listener.ends l.board.sessions l.session.front (entered_since l.initial.session l.session) (g.T.Listener.list l.initial.listener) (g.T.Listener.list l.listener);
  room : g.T.Listener.room l.listener ≡ g.T.Listener.room l.initial.listener;
}

abbrev pub decreases-loop-made : goal.decreases-loop-made
decreases-loop-made g l = l.bound.rounds - l.made
