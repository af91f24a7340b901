use Rattle.std.proofs.Common.{rules, tests, ◌≡◌, [], false, sym, ◌∙◌}
use Rattle.lock_report.proofs.ReadOrder.{late-claim, late-unopened}
use Rattle.lock_report.proofs.reading.state.add_claim.Goals as goal

pub returns-then-not-is_empty-clause-late : goal.returns-then-not-is_empty-clause-late
returns-then-not-is_empty-clause-late c = λ e kept.
    let lists = c.args.reading.now.lists in
    late-claim lists.opens.items lists.claims.items lists.waits.items c.args.claim (λ (none : lists.waits.items ≡ []). search (rules, tests))

pub returns-then-not-contains-clause-late : goal.returns-then-not-contains-clause-late
returns-then-not-contains-clause-late c = λ e kept.
    let lists = c.args.reading.now.lists in
    let none : c.contains.result ≡ false = search (rules, tests) in
    late-unopened lists.opens.items lists.claims.items lists.waits.items c.args.claim (sym (kept.opening c.args.claim.session) ∙ (sym c.contains.ensures ∙ none))
