use Rattle.std.proofs.Common.{ap}
use Rattle.lock_desk.specs.BookView.{BookView}
use Rattle.lock_desk.proofs.Batches.{served-book, served-items}
use Rattle.lock_desk.proofs.book.Book.serve_batch.Goals as goal

pub serve_items-requires-clause-none : goal.serve_items-requires-clause-none
serve_items-requires-clause-none c = ap (λ (t : BookView). t.ended) c.forget_ended.ensures

pub returns-clause-history : goal.returns-clause-history
returns-clause-history c =
    let k = c.serve_items.ensures in
    served-book c.args.self.now c.forget_ended.new.self c.serve_items.new.self c.serve_items.result c.args.items.now c.serve_items.new.items c.forget_ended.ensures k.sessions k.cut k.bound k.deadlocks k.served

pub returns-clause-items : goal.returns-clause-items
returns-clause-items c =
    served-items c.args.self.now c.forget_ended.new.self c.serve_items.result c.args.items.now c.serve_items.new.self.ended c.serve_items.new.self.history c.serve_items.new.items c.forget_ended.ensures c.serve_items.ensures.served
