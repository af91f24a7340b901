use Rattle.std.proofs.Common.{rules, ◌≡◌, ◌↔◌, Option, Some, None, subst}
use Rattle.lock_report.specs.declared.reading.row.StateRow.{StateRow}
use Rattle.lock_report.specs.ReadRows.{IsRow, line_of_row}
use Rattle.lock_report.specs.ReadStates.{rows_of}
use Rattle.lock_report.proofs.ReadPrefixes.{one-more, no-row, late-row}
use Rattle.lock_report.proofs.reading.state.add_line.Goals as goal

pub returns-in_default-clause-bad : goal.returns-in_default-clause-bad
returns-in_default-clause-bad c = λ before e only kept.
    let none : c.in_ok-found.found ≡ None = search rules in
    let read = subst (λ (o : Option StateRow). (x : StateRow) → (o ≡ Some x) ↔ (IsRow c.args.sessions x × (c.args.line.now ≡ line_of_row x))) none c.in_ok-found.ensures in
    no-row c.args.sessions before c.args.line.now read

pub returns-clause-added : goal.returns-clause-added
returns-clause-added c = λ before e only.
    let some : c.in_ok-found.found ≡ Some c.in-Some.row = search rules in
    let read = subst (λ (o : Option StateRow). (x : StateRow) → (o ≡ Some x) ↔ (IsRow c.args.sessions x × (c.args.line.now ≡ line_of_row x))) some c.in_ok-found.ensures in
    one-more c.args.sessions before c.args.line.now (rows_of c.args.reading.now.lists) _ c.in-Some.row read only (c.add_row.ensures.added (search rules))

pub returns-clause-bad : goal.returns-clause-bad
returns-clause-bad c = λ before e only kept.
    let some : c.in_ok-found.found ≡ Some c.in-Some.row = search rules in
    let read = subst (λ (o : Option StateRow). (x : StateRow) → (o ≡ Some x) ↔ (IsRow c.args.sessions x × (c.args.line.now ≡ line_of_row x))) some c.in_ok-found.ensures in
    late-row c.args.sessions before c.args.line.now (rows_of c.args.reading.now.lists) c.in-Some.row read only (c.add_row.ensures.late (search rules) kept)
