use Rattle.lock_explain.specs.ExplanationText.{line_of_member}
use Rattle.lock_report.proofs.Pieces.{next_piece}
use Rattle.lock_explain.proofs.text.put_members.Goals as goal

pub loop-member-preserved : goal.loop-member-preserved
loop-member-preserved c = next_piece line_of_member c.args.members.now c.loop-member.member-index _ _ _ _ c.loop-member-test.true c.loop-member.invariant c.in_ok-put_member.ensures
