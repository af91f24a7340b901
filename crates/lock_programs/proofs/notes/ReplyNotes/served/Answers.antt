use Rattle.std.proofs.Common.{◌∙◌, sym, arith}
use Rattle.lock_programs.specs.Answers.{noted_of}
use Rattle.lock_programs.specs.Calls.{calls_of}
use Rattle.lock_programs.proofs.Appends.{served-length}
use Rattle.lock_programs.proofs.Readings.{all-from}
use Rattle.lock_programs.proofs.notes.ReplyNotes.served.Goals as goal

pub returns-then-served-length-clause-value : goal.returns-then-served-length-clause-value
returns-then-served-length-clause-value c =
    sym (served-length (noted_of c.args.self.now) (calls_of c.args.program.now) 0 c.args.self.now.served (omega (arith, c.if-served-length.true, c.length-length.ensures.value)))

pub returns-else-served-length-clause-value : goal.returns-else-served-length-clause-value
returns-else-served-length-clause-value c =
    c.length-length.ensures.value ∙ sym (all-from (noted_of c.args.self.now) (calls_of c.args.program.now) 0 c.args.self.now.served (omega (arith, c.if-served-length.false, c.length-length.ensures.value)))
