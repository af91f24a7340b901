use Rattle.std.proofs.Common.{rules, ◌≡◌, ◌<◌, true, length, refl, sym, subst, arith}
use Rattle.programs.specs.Flat.{IsAnswer}
use Rattle.lock_programs.specs.declared.program.Program.{Program}
use Rattle.lock_programs.specs.Answers.{program_form}
use Rattle.lock_programs.specs.Calls.{calls_of}
use Rattle.lock_office.proofs.Sessions.{answered-at}
use Rattle.library_sessions.proofs.Turns.{to-wake}
use Rattle.library_sessions.proofs.turn_calls.resume.Goals as goal

pub write_next-requires : goal.write_next-requires
write_next-requires g c = λ found is.
    let d = c.run_look-next.ensures.awaited.answered found is in
    let kept = c.pending_program-asked.ensures d.0 d.1 d.2 in
    subst (λ (p : Program). (0 < length (calls_of p)) × IsAnswer program_form p found.reply) kept.0
    (kept.1, answered-at c.run_look-next.new.self.front found.place c.args.share.now.session.number d.0 found.reply d.3.legal d.3.stands)

pub returns-clause-resumed : goal.returns-clause-resumed
returns-clause-resumed g c =
    let made = c.run_look-next in
    let awaited = made.ensures.awaited in
    let many : c.deref.result.now.sessions ≡ c.args.share.now.sessions = search rules in record {
      pending = c.requires.pending;
      few = let few = made.ensures.few in omega (arith, few);
      ok = λ e.
          let found = c.write_next.ensures.ok e in
          let d = awaited.answered found.0 found.1 in
          let kept = c.pending_program-asked.ensures d.0 d.1 d.2 in
          ((found.0.place, found.0.reply, d, subst (λ (p : Program). g.A.Tells.tells p found.0.reply c.write_next.new.answer) (sym kept.0) found.2), awaited.idle found.0 found.1);
      memory = λ e. awaited.starved (c.write_next.ensures.memory e);
      waits = λ e. awaited.waits (c.write_next.ensures.waits e);
      others = λ e some. let others = made.ensures.others (c.write_next.ensures.waits e) (search (rules, some)) in omega (arith, others, many);
      failed = c.write_next.ensures.failed;
      told_is = to-wake _ _ c.deref.result.now.sessions _ c.clear.new.self.listener.list many c.clear.ensures.none c.count.ensures.count made.ensures.told;
      office = record { office = refl; handed = refl; sessions = refl; mark = refl; waker = refl; bound = refl };
      statuses = c.write_next.ensures.statuses;
    }
