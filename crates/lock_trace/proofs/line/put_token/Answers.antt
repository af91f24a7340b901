use Rattle.std.proofs.Common.{◌∙◌, arith}
use Rattle.lock_trace.proofs.LineSteps.{front_written}
use Rattle.lock_trace.proofs.line.put_token.Goals as goal

pub returns-clause-text : goal.returns-clause-text
returns-clause-text c =
    front_written c.args.at _ c.args.count c.args.line.now c.copy_from_slice.new.self c.args.token.now (omega (arith, c.requires.room)) (omega (arith, c.copy_from_slice.ensures.len, c.requires.few, c.requires.room)) (c.copy_from_slice.ensures.after ∙ c.as_slice.ensures)
