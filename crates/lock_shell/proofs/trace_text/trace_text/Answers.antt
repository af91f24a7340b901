use Rattle.std.proofs.Common.{◌∙◌, [], ap, take_all}
use Rattle.std.specs.List.{flat_map}
use Rattle.lock_shell.specs.inner.Traces.{row_of_call}
use Rattle.lock_report.proofs.Pieces.{next_item}
use Rattle.lock_shell.proofs.trace_text.trace_text.Goals as goal

pub loop-entry-preserved : goal.loop-entry-preserved
loop-entry-preserved c =
    next_item row_of_call c.args.entries.now c.loop-entry.entry-index c.entry-item.result [] _ _ c.loop-entry-test.true c.entry-item.is
    c.loop-entry.invariant c.in_ok-put_row.ensures

pub returns : goal.returns
returns c = c.loop-entry.invariant ∙ ap (flat_map row_of_call) (take_all c.loop-entry.entry-index c.args.entries.now c.loop-entry-test.false)
