use Rattle.replay_commands.proofs.ServedRows.{fronts_are_parts, one_text}
use Rattle.replay_commands.proofs.laws.rows_have_one_text.Goals as goal

pub returns-clause-one : goal.returns-clause-one
returns-clause-one c = λ rows a b p q. one_text rows a b p q

pub returns-clause-front : goal.returns-clause-front
returns-clause-front c = λ rows old new h. fronts_are_parts rows old new h
