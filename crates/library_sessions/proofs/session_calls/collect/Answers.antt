use Rattle.std.proofs.Common.{rules, ◌≡◌, true, refl}
use Rattle.library_sessions.proofs.session_calls.collect.Goals as goal

pub returns-in-Some-clause-ok : goal.returns-in-Some-clause-ok
returns-in-Some-clause-ok c = λ _.
    let single : c.is_single.result ≡ true = search rules in (
      c.in-Some.found.reply,
      c.reply_numbers.ensures,
      c.is_single.ensures.single single,
      c.in-Some.ensures.some,
      record { office = refl; handed = refl; sessions = refl; mark = refl; waker = refl; bound = refl },
    )
