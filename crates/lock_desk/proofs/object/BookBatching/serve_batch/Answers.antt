use Rattle.std.proofs.Common.{ap, take}
use Rattle.lock_rules.specs.Legal.{state_of}
use Rattle.lock_desk.specs.BookView.{BookView}
use Rattle.lock_desk.proofs.BookHistories.{book-batch}
use Rattle.lock_desk.proofs.EndedInBatches.{batch-tells}
use Rattle.lock_desk.proofs.object.BookBatching.serve_batch.Goals as goal

pub returns-clause-batch : goal.returns-clause-batch
returns-clause-batch c =
    let before = c.args.self.now.history in
    book-batch (state_of before) before c.serve_batch.new.self.history c.args.items.now c.serve_batch.new.items c.serve_batch.result
    (ap (λ (b : BookView). b.history) c.serve_batch.ensures.history) c.serve_batch.ensures.items

pub returns-clause-tells : goal.returns-clause-tells
returns-clause-tells c = batch-tells c.args.self.now c.serve_batch.new.self (take c.serve_batch.result c.args.items.now) c.serve_batch.ensures.history
