use Rattle.std.proofs.Common.{ℕ, ◌++◌, add-one, string_bytes, ap, sym, ◌∙◌}
use Rattle.lock_report.specs.LocksDot.{placed_behind, places_of}
use Rattle.lock_report.proofs.Pieces.{next_part}
use Rattle.lock_report.proofs.rows_of_boxes.put_places.Goals as goal

pub loop-index-preserved : goal.loop-index-preserved
loop-index-preserved c =
    let boxed = c.args.boxed.now in
    let i = c.loop-index.index in
    next_part _ (places_of boxed i) (placed_behind boxed i) _ _ c.loop-index.invariant c.in_ok-put_placed_behind.ensures
    ∙ ap (λ (n : ℕ). string_bytes c.args.out.now ++ places_of boxed n) (sym (add-one i))
