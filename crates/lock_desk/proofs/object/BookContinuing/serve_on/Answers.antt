use Rattle.std.proofs.lemmas.Result.{IfOk-weaker}
use Rattle.lock_desk.proofs.EndedInBatches.{beside-tells}
use Rattle.lock_desk.proofs.object.BookContinuing.serve_on.Goals as goal

pub returns-clause-tells : goal.returns-clause-tells
returns-clause-tells c = IfOk-weaker c.serve_on.result _ _ (λ reply is. beside-tells c.args.self.now c.serve_on.new.self c.args.session c.args.call reply is) c.serve_on.ensures.entry
