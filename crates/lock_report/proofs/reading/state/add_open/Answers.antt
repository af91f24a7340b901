use Rattle.std.proofs.Common.{rules, tests, ◌≡◌, []}
use Rattle.lock_report.proofs.ReadOrder.{late-open}
use Rattle.lock_report.proofs.reading.state.add_open.Goals as goal

pub returns-then-not-is_empty-clause-late : goal.returns-then-not-is_empty-clause-late
returns-then-not-is_empty-clause-late c = λ e.
    late-open c.args.reading.now.lists.opens.items c.args.reading.now.lists.claims.items c.args.reading.now.lists.waits.items c.args.begun (λ (none : c.args.reading.now.lists.claims.items ≡ []) waits. search (rules, tests))

pub returns-then-not-is_empty-2-clause-late : goal.returns-then-not-is_empty-2-clause-late
returns-then-not-is_empty-2-clause-late c = λ e.
    late-open c.args.reading.now.lists.opens.items c.args.reading.now.lists.claims.items c.args.reading.now.lists.waits.items c.args.begun (λ claims (none : c.args.reading.now.lists.waits.items ≡ []). search (rules, tests))
