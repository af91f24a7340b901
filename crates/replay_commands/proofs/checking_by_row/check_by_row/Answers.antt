use Rattle.replay_commands.proofs.checking_by_row.check_by_row.Goals as goal

pub returns-in-Ok-Some-clause-finds : goal.returns-in-Ok-Some-clause-finds
returns-in-Ok-Some-clause-finds g c bytes known = rw c.in-Ok-Some.field-0-is at (c.in-Ok-Some.ensures.finds bytes (c.in-Ok.ensures.reading bytes known))

pub returns-in-Ok-None-clause-finds : goal.returns-in-Ok-None-clause-finds
returns-in-Ok-None-clause-finds g c bytes known = rw c.in-Ok-None.field-0-is at (c.in-Ok-None.ensures.finds bytes (c.in-Ok.ensures.reading bytes known))
