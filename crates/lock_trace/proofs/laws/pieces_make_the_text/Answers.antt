use Rattle.std.proofs.Common.{refl}
use Rattle.lock_trace.proofs.Lines.{lines_append}
use Rattle.lock_trace.proofs.laws.pieces_make_the_text.Goals as goal

pub returns-clause-whole : goal.returns-clause-whole
returns-clause-whole c = λ history. refl

pub returns-clause-parts : goal.returns-clause-parts
returns-clause-parts c = λ first front rest. lines_append first front rest
