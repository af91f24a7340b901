use Rattle.std.proofs.lemmas.Result.{IfOk-weaker}
use Rattle.lock_desk.proofs.EndedInBatches.{call-tells}
use Rattle.lock_desk.proofs.object.BookServing.serve.Goals as goal

pub returns-clause-tells : goal.returns-clause-tells
returns-clause-tells c = IfOk-weaker c.serve.result _ _ (λ reply is. call-tells c.args.self.now c.serve.new.self c.args.session c.args.call reply is) c.serve.ensures.entry
