use Rattle.std.proofs.Common.{inl, inr, refl}
use Rattle.library_sessions.proofs.turn_calls.turn.Goals as goal

pub returns-in-Err-clause-turn : goal.returns-in-Err-clause-turn
returns-in-Err-clause-turn g c = inr (c.in-Err.ensures.refused, (refl, refl, refl))

pub returns-clause-turn : goal.returns-clause-turn
returns-clause-turn g c = inl (c.in-Ok.program, c.in-Ok.ensures.asked.0, c.begin.ensures.begun)
