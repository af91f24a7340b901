use Rattle.library_sessions.proofs.turn_calls.write_next.Goals as goal

pub tell-requires-clause-some : goal.tell-requires-clause-some
tell-requires-clause-some g c = (c.requires c.in-Answered.found c.in-Answered.is).0

pub tell-requires-clause-fits : goal.tell-requires-clause-fits
tell-requires-clause-fits g c = (c.requires c.in-Answered.found c.in-Answered.is).1
