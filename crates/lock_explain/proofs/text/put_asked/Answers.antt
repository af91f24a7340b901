use Rattle.std.proofs.Common.{codes}
use Rattle.std.specs.List.{flat_map}
use Rattle.std.proofs.lemmas.Result.{on_ok_weaker}
use Rattle.lock_explain.specs.ExplanationText.{line_of_request, line_of_blocker}
use Rattle.lock_report.proofs.Pieces.{next_part}
use Rattle.lock_explain.proofs.text.put_asked.Goals as goal

pub returns : goal.returns
returns c =
    let request = line_of_request (codes "  would begin to wait ") c.args.request.now in
    let blockers = flat_map (line_of_blocker (codes "    would wait for ")) c.args.blockers.now in
    on_ok_weaker _ (next_part _ request blockers _ _ c.in_ok-put_line_of_request.ensures) c.put_blockers.ensures
