use Rattle.std.proofs.Common.{rules, ◌≡◌, None, false, arith, refl}
use Rattle.library_sessions.proofs.session_calls.publish.Goals as goal

pub returns-clause-ok : goal.returns-clause-ok
returns-clause-ok c = λ _.
    let made = c.publish.ensures.published in
    let posted = c.posted_number.ensures in
    let many : c.deref.result.now.sessions ≡ c.args.share.now.sessions = search rules in
    let none : c.args.share.now.session.pending ≡ None = search rules in
    let live : c.args.share.now.session.retired ≡ false = search rules in (
      c.in-Ok.call,
      c.in-Ok.ensures.ok,
      made.0,
      made.1,
      none,
      live,
      (λ one. made.2 (posted.listed one)),
      (λ two. let r = made.3 (posted.unlisted two) in (r.0, (let some = r.1 in omega (arith, some, many)))),
      record { office = refl; handed = refl; sessions = refl; mark = refl; waker = refl; bound = refl },
    )
