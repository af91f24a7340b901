use Rattle.sequential.proofs.BitRows.{no_bit-zeros}
use Rattle.waits_for.proofs.MarkBits.{marked-none}
use Rattle.waits_for.proofs.marks.Marks.new.Goals as goal

pub returns-clause-none : goal.returns-clause-none
returns-clause-none c =
    let w = c.in_ok-words.words.items in
    let zeros = c.in_ok-words.ensures.items_if_clones_equal (λ y e. e) in
    marked-none c.args.sessions w (λ j. rw zeros (no_bit-zeros c.words_for.result j))
