use Rattle.std.proofs.Common.{◌∙◌, arith, ap}
use Rattle.lock_desk.specs.BookView.{BookView}
use Rattle.lock_shell.proofs.Served.{again_more}
use Rattle.lock_shell.proofs.desk.serve_again.Goals as goal

pub loop-place-preserved : goal.loop-place-preserved
loop-place-preserved c =
    let so_far = c.loop-place.invariant in
    let e = c.index-entries-place.result in
    let view = c.in_ok-serve.ensures.entry in
    record {
      sessions = ap (λ (b : BookView). b.sessions) view ∙ so_far.sessions;
      cut = ap (λ (b : BookView). b.cut) view ∙ so_far.cut;
      bound = ap (λ (b : BookView). b.bound) view ∙ so_far.bound;
      served = again_more c.args.entries.now c.loop-place.place e c.in_ok-serve.field-0 c.loop-place.book.history c.serve.new.self.history c.requires.legal
          (omega arith) c.index-entries-place.is so_far.served (ap (λ (b : BookView). b.history) view) c.in_ok-serve.ensures.reply;
    }
