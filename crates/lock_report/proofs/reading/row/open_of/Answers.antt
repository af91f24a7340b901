use Rattle.std.proofs.Common.{rules}
use Rattle.lock_report.proofs.ReadRows.{open-iff}
use Rattle.lock_report.proofs.reading.row.open_of.Goals as goal

pub returns : goal.returns
returns c =
    open-iff c.args.sessions c.args.session.now c.args.number.now c.args.victim.now c.session_of.result c.transaction_of.result c.in_ok-session.session c.in_ok-transaction.transaction
    c.session_of.ensures c.transaction_of.ensures (search rules) (search rules)
