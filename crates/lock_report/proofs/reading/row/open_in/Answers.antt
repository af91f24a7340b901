use Rattle.std.proofs.Common.{rules, ◌≡◌, [], ◌∷◌}
use Rattle.std.specs.Prelude.{codes}
use Rattle.lock_report.proofs.ReadRows.{seven}
use Rattle.lock_report.proofs.reading.row.open_in.Goals as goal

pub returns : goal.returns
returns c =
    let word : c.args.fields.word.now ≡ codes "transaction" = search rules in
    let empty = c.are_blank.ensures.0 (search rules) in
    λ o. (
      λ e. let h = (c.open_of.ensures o).0 e in (h.0, λ i. word i ∷ h.1 i ∷ h.2 i ∷ h.3 i ∷ empty.0 i ∷ empty.1 i ∷ empty.2 i ∷ []),
      λ h. let parts = seven (h.1) in (c.open_of.ensures o).1 (h.0, parts.1, parts.2, parts.3),
    )
