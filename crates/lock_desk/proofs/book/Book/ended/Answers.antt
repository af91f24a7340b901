use Rattle.std.proofs.Common.{ℕ, List, length, Contains, ◌∙◌, sym, ap, subst}
use Rattle.lock_desk.specs.BookView.{BookView}
use Rattle.lock_table.specs.declared.table.LockTable.{LockTable}
use Rattle.lock_holders.specs.Woken.{is_ended, ended_in}
use Rattle.lock_holders.proofs.EndedList.{waits_ended-within}
use Rattle.lock_holders.proofs.FilteredNumbers.{among}
use Rattle.lock_desk.proofs.book.Book.ended.Goals as goal

pub returns-clause-ended : goal.returns-clause-ended
returns-clause-ended c = λ u.
    let v = c.deref.result.now.ended in
    let l = c.ended.ensures.waits_ended u in
    let m = among (is_ended v) (length v.places) u in
    let e = ap (λ (d : LockTable). ended_in d.ended) c.deref.ensures ∙ ap (λ (t : BookView). t.ended) c.self.view_is in (
      λ h. let p = l.0 h in let r = waits_ended-within v u p in subst (λ (xs : List ℕ). Contains xs u) e (m.1 (r.0, r.1, p)),
      λ h. l.1 ((m.0 (subst (λ (xs : List ℕ). Contains xs u) (sym e) h)).2),
    )
