use Rattle.std.proofs.Common.{codes}
use Rattle.std.proofs.lemmas.Result.{on_ok_weaker}
use Rattle.lock_report.specs.JamText.{session_heading}
use Rattle.lock_report.proofs.Pieces.{next_part}
use Rattle.lock_report.proofs.jam.put_line_of_victim.Goals as goal

pub returns : goal.returns
returns c = on_ok_weaker _ (next_part _ (codes "not aborted: ") (session_heading c.args.begun.now) _ _ c.in_ok-push_str.ensures.bytes) c.put_session_heading.ensures
