use Rattle.std.proofs.Common.{rules, tests, ◌≡◌, false, sym, ◌∙◌}
use Rattle.lock_report.proofs.ReadOrder.{late-wait}
use Rattle.lock_report.proofs.reading.state.add_wait.Goals as goal

pub returns-then-not-contains-clause-late : goal.returns-then-not-contains-clause-late
returns-then-not-contains-clause-late c = λ e kept.
    let lists = c.args.reading.now.lists in
    let none : c.contains.result ≡ false = search (rules, tests) in
    late-wait lists.opens.items lists.claims.items lists.waits.items c.args.wait (sym (kept.asking c.args.wait.wait.session) ∙ (sym c.contains.ensures ∙ none))
