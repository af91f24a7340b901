use Rattle.std.proofs.Common.{rules, ap, set, arith}
use Rattle.lock_programs.specs.Answers.{noted_of}
use Rattle.lock_programs.specs.Calls.{calls_of}
use Rattle.lock_programs.proofs.Shapes.{calls-few}
use Rattle.lock_programs.proofs.Appends.{appended, served-few}
use Rattle.lock_programs.proofs.notes.ReplyNotes.append.Goals as goal

pub bounds-self-at : goal.bounds-self-at
bounds-self-at c = omega (arith, calls-few c.args.program.now, served-few (noted_of c.args.self.now) (calls_of c.args.program.now) 0 c.args.self.now.served c.requires.next)

pub bounds-self-at-2 : goal.bounds-self-at-2
bounds-self-at-2 c = omega (arith, calls-few c.args.program.now, served-few (noted_of c.args.self.now) (calls_of c.args.program.now) 0 c.args.self.now.served c.requires.next)

pub invariant_of-self : goal.invariant_of-self
invariant_of-self c = record {
  few = omega (arith, calls-few c.args.program.now, served-few (noted_of c.args.self.now) (calls_of c.args.program.now) 0 c.args.self.now.served c.requires.next);
}

pub returns : goal.returns
returns c =
    appended c.args.program.now (noted_of c.args.self.now) _ c.args.self.now.served c.args.reply c.requires.going c.requires.next c.requires.fits (search rules) c.began_after-self.ensures c.ended_after-self.ensures (ap (set c.args.self.now.granted c.args.self.now.served) c.granted_after-mode.ensures) c.stop_after-self.ensures
