use Rattle.std.proofs.Common.{refl}
use Rattle.library_sessions.proofs.bounds.bound_passes.Goals as goal

pub returns-clause-ok : goal.returns-clause-ok
returns-clause-ok c = λ _. record {
  bound = c.in-Some.ensures.some.0;
  session = refl;
  told = refl;
  office = refl;
  handed = refl;
  sessions = refl;
  mark = refl;
  waker = refl;
}
