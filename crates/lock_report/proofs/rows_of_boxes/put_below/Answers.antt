use Rattle.std.proofs.Common.{◌++◌, codes}
use Rattle.lock_report.specs.LocksDot.{hidden_edge}
use Rattle.lock_report.proofs.Pieces.{next_part}
use Rattle.lock_report.proofs.rows_of_boxes.put_below.Goals as goal

pub returns : goal.returns
returns c =
    let edge = hidden_edge c.args.a c.args.b in
    next_part _ (codes "  {rank=same; ") (edge ++ codes "}\n") _ _ c.in_ok-push_str.ensures.bytes
    (next_part _ edge (codes "}\n") _ _ c.in_ok-put_hidden_edge.ensures c.in_ok-push_str-2.ensures.bytes)
