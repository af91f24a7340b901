use Rattle.std.proofs.Common.{◌∙◌, ◌++◌, List, ℕ, ap}
use Rattle.lock_rules.specs.Entries.{Entry}
use Rattle.lock_trace.specs.Histories.{text_of_piece}
use Rattle.lock_trace.proofs.Lines.{next_entry, take_every}
use Rattle.lock_trace.proofs.writing.piece_text.Goals as goal

pub loop-index-preserved : goal.loop-index-preserved
loop-index-preserved c =
    next_entry c.args.first c.args.entries.now c.loop-index.index c.index-entries-index.result c.loop-index.out.items c.extend_from_slice.new.self.items c.loop-index-test.true c.index-entries-index.is c.loop-index.invariant
    (c.in_ok-extend_from_slice.ensures.items ∙ ap (λ (t : List ℕ). c.loop-index.out.items ++ t) c.put_entry-end.ensures.text)

pub returns : goal.returns
returns c = c.loop-index.invariant ∙ ap (λ (es : List Entry). text_of_piece c.args.first es) (take_every c.args.entries.now c.loop-index.index c.loop-index-test.false)
