use Rattle.std.proofs.Common.{◌++◌, codes}
use Rattle.lock_report.specs.LocksDot.{name_of_box}
use Rattle.lock_report.proofs.Pieces.{next_part}
use Rattle.lock_report.proofs.rows_of_boxes.put_hidden_edge.Goals as goal

pub returns : goal.returns
returns c =
    let a = name_of_box c.args.a in
    let b = name_of_box c.args.b in
    let arrow = codes " -> " in
    next_part _ (a ++ arrow ++ b) (codes " [style=invis];") _ _
    (next_part _ (a ++ arrow) b _ _ (next_part _ a arrow _ _ c.in_ok-put_name.ensures c.in_ok-push_str.ensures.bytes) c.in_ok-put_name-2.ensures) c.in_ok-push_str-2.ensures.bytes
