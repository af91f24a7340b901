use Rattle.std.proofs.Common.{rules, ◌≡◌, inr, length, refl, ap, sym, arith}
use Rattle.combining.proofs.EndedWaits.{told-self}
use Rattle.lock_office.proofs.Sessions.{answered-at}
use Rattle.combining.specs.Rounds.{most_of}
use Rattle.library_sessions.proofs.Turns.{within-none, to-wake}
use Rattle.library_sessions.proofs.turn_calls.begin.Goals as goal

pub write_next-requires : goal.write_next-requires
write_next-requires g c = λ found is.
    let d = c.run_attempt-next.ensures.attempted.called found is in
    (c.requires.some, answered-at c.run_attempt-next.new.self.front found.place c.args.share.now.session.number c.args.program.now found.reply d.legal d.stands)

pub returns-clause-begun : goal.returns-clause-begun
returns-clause-begun g c =
    let made = c.run_attempt-next in
    let attempted = made.ensures.attempted in
    let some = c.if-tries-eq0.false in
    let many : c.deref-2.result.now.sessions ≡ c.args.share.now.sessions = search rules in record {
      idle = c.requires.idle;
      few = made.ensures.few;
      ok = λ e. let found = c.write_next.ensures.ok e in ((found.0.place, found.0.reply, attempted.called found.0 found.1, found.2), attempted.idle found.0 found.1);
      memory = λ e. attempted.starved (c.write_next.ensures.memory e);
      tried = λ e _. let r = attempted.waits (c.write_next.ensures.waits e) in (r.0, (let some = r.1 in omega (arith, some, many)));
      published = λ none. absurd (some none);
      failed = c.write_next.ensures.failed;
      told_is = to-wake _ _ c.deref-2.result.now.sessions _ c.clear.new.self.listener.list many c.clear.ensures.none c.count.ensures.count made.ensures.told;
      office = record { office = refl; handed = refl; sessions = refl; mark = refl; waker = refl; bound = refl };
      statuses = c.write_next.ensures.statuses;
    }

pub returns-then-tries-eq0-clause-begun : goal.returns-then-tries-eq0-clause-begun
returns-then-tries-eq0-clause-begun g c =
    let made = c.publish_program_if_idle in
    let zero = c.if-tries-eq0.true in record {
      idle = c.requires.idle;
      few = within-none 1 (most_of c.args.share.now.bound) c.args.share.now.session made.new.self made.ensures.known.1;
      ok = λ e. absurd cc;
      memory = λ e. absurd cc;
      tried = λ _ some. absurd (some zero);
      published = λ _. (refl, made.ensures.published c.requires.idle.0);
      failed = λ _. refl;
      told_is = to-wake _ _ _ _ c.clear.new.self.listener.list refl c.clear.ensures.none (sym (ap length c.clear.ensures.none)) (told-self c.args.share.now.sessions c.args.share.now.session made.new.self c.clear.new.self.listener.list made.ensures.known.1);
      office = record { office = refl; handed = refl; sessions = refl; mark = refl; waker = refl; bound = refl };
      statuses = inr (inr refl);
    }
