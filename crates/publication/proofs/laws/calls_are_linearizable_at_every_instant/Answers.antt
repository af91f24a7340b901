use Rattle.publication.specs.BoardHistory.{history_of}
use Rattle.publication.proofs.Instants.{are_events, only-events, well-formed, linear, calls-are}
use Rattle.publication.proofs.laws.calls_are_linearizable_at_every_instant.Goals as goal

pub returns-clause-some : goal.returns-clause-some
returns-clause-some g c s r = (r.records.in_time.events, are_events s r)

pub returns-clause-only : goal.returns-clause-only
returns-clause-only g c = only-events

pub returns-clause-well_formed : goal.returns-clause-well_formed
returns-clause-well_formed g c n s events r sessions are = well-formed s r events are n sessions

pub returns-clause-calls : goal.returns-clause-calls
returns-clause-calls g c s events i answers pending r are has = calls-are s r events are i answers pending has

pub returns-clause-history : goal.returns-clause-history
returns-clause-history g c n s events r sessions are = linear s r events are n sessions

pub returns-clause-linearizable : goal.returns-clause-linearizable
returns-clause-linearizable g c n s events r sessions are = (history_of g.O.Sequential s, linear s r events are n sessions)
