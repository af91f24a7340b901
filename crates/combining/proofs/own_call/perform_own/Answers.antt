use Rattle.std.proofs.Common.{List, length, subst}
use Rattle.combining.proofs.own_call.perform_own.Goals as goal

pub returns-clause-tells : goal.returns-clause-tells
returns-clause-tells g c = subst (λ (l : List _). g.O.Serving.tells_from c.serve.new.self (length l)) c.requires.work.home.history c.in-Ok.ensures.tells
