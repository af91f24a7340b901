use Rattle.std.proofs.Common.{length, ap, sym, subst}
use Rattle.lock_desk.specs.BookView.{BookView}
use Rattle.lock_desk.specs.Batches.{TellsFrom}
use Rattle.lock_desk.proofs.EndedInBatches.{tells-nothing}
use Rattle.lock_desk.proofs.object.BookContinuing.tell_anew.Goals as goal

pub returns-clause-tells : goal.returns-clause-tells
returns-clause-tells c =
    let same = c.forget_ended.ensures in
    subst (TellsFrom c.forget_ended.new.self) (sym (ap (λ (b : BookView). length b.history) same)) (tells-nothing c.args.self.now c.forget_ended.new.self same)
