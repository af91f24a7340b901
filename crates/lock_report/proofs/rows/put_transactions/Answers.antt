use Rattle.lock_report.specs.StateRows.{row_of_transaction}
use Rattle.lock_report.proofs.Pieces.{next_piece}
use Rattle.lock_report.proofs.rows.put_transactions.Goals as goal

pub loop-begun-preserved : goal.loop-begun-preserved
loop-begun-preserved c = next_piece row_of_transaction c.args.opens.now c.loop-begun.begun-index _ _ _ _ c.loop-begun-test.true c.loop-begun.invariant c.in_ok-put_transaction.ensures
