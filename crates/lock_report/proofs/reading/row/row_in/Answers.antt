use Rattle.std.proofs.Common.{rules, ◌≡◌, None}
use Rattle.lock_report.proofs.ReadRows.{row-of-open, row-of-wait}
use Rattle.lock_report.proofs.reading.row.row_in.Goals as goal

pub returns-in-Some : goal.returns-in-Some
returns-in-Some c = row-of-open c.args.sessions _ c.open_in.result c.in-Some.begun c.open_in.ensures (search rules)

pub returns-in-Some-wait_in : goal.returns-in-Some-wait_in
returns-in-Some-wait_in c =
    let none : c.open_in.result ≡ None = search rules in
    row-of-wait c.args.sessions _ c.open_in.result c.wait_in.result c.in-Some-wait_in.wait c.open_in.ensures c.wait_in.ensures none (search rules)
