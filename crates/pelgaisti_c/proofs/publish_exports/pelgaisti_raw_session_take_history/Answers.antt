use Rattle.std.proofs.Common.{rules, ◌≡◌, List, Some, subst}
use Rattle.library_books.specs.declared.numbers.EntryNumbers.{EntryNumbers}
use Rattle.library_sessions.specs.Sessions.{IsPieceTaken}
use Rattle.pelgaisti_c.proofs.publish_exports.pelgaisti_raw_session_take_history.Goals as goal

pub returns-clause-ok : goal.returns-clause-ok
returns-clause-ok c = λ e.
    let was : c.args.session.now.behind.held.share ≡ Some c.deref_mut.result.now = search rules in
    let at : c.items-entries.result.now ≡ c.args.entries.now.behind = search rules in (
      c.deref_mut.result.now,
      c.take_history-status.new.share,
      was,
      c.put.ensures.1,
      subst (λ (places : List EntryNumbers). IsPieceTaken c.deref_mut.result.now c.take_history-status.new.share c.take_history-status.new.first c.take_history-status.new.count places c.take_history-status.new.places) at (c.take_history-status.ensures.ok e),
    )

pub returns-clause-elsewhere : goal.returns-clause-elsewhere
returns-clause-elsewhere c = λ e.
    let was : c.args.session.now.behind.held.share ≡ Some c.deref_mut.result.now = search rules in
    (c.deref_mut.result.now, was, c.take_history-status.ensures.elsewhere e)
