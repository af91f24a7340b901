use Rattle.std.proofs.Common.{◌++◌, ◌∙◌, None, List, ℕ, ap, length, string_bytes}
use Rattle.std.specs.List.{flat_map}
use Rattle.lock_report.proofs.Pieces.{next_part}
use Rattle.lock_report.specs.Dot.{node_of}
use Rattle.lock_report.specs.LocksDot.{boxes_behind, places_of, start_of_graph}
use Rattle.lock_report.proofs.boxes.put_boxed.Goals as goal

pub returns : goal.returns
returns c =
    let start = string_bytes c.args.out.now in
    let nodes = flat_map node_of c.args.opens.now in
    let boxes = boxes_behind None c.args.claims.now in
    let boxed = c.deref.result.now in
    let with_nodes = next_part start start_of_graph nodes _ _ c.in_ok-push_str.ensures.bytes c.in_ok-put_nodes.ensures in
    let with_boxes = next_part start (start_of_graph ++ nodes) boxes _ _ with_nodes c.in_ok-put_boxes.ensures in
    next_part start (start_of_graph ++ nodes ++ boxes) (places_of boxed (length boxed)) _ _ with_boxes c.in_ok-put_places.ensures
    ∙ ap (λ (rs : List (List ℕ)). start ++ (start_of_graph ++ nodes ++ boxes ++ places_of rs (length rs))) (c.deref.ensures.value ∙ c.in_ok-boxed.ensures)
