use Rattle.std.proofs.Common.{rules, ◌≡◌, [], ◌∷◌}
use Rattle.std.specs.Prelude.{codes}
use Rattle.lock_report.proofs.ReadRows.{seven}
use Rattle.lock_report.proofs.reading.row.wait_in.Goals as goal

pub returns : goal.returns
returns c =
    let word : c.args.fields.word.now ≡ codes "waits" = search rules in
    let victim = c.is_blank.ensures.0 (search rules) in
    let empty = c.are_blank.ensures.0 (search rules) in
    λ w. (
      λ e. let h = (c.wait_of.ensures w).0 e in (h.0, λ i. word i ∷ h.1 i ∷ empty.0 i ∷ victim i ∷ empty.1 i ∷ empty.2 i ∷ h.2 i ∷ []),
      λ h. let parts = seven (h.1) in (c.wait_of.ensures w).1 (h.0, parts.1, parts.6),
    )
