use Rattle.std.proofs.Common.{rules, ◌≡◌, ◌<◌, ◌^◌, ℕ, List, length, map, ap, sym, ◌∙◌, Bor}
use Rattle.std.specs.List.{slice_split, join_with_byte}
use Rattle.std.proofs.lemmas.List.{length-map}
use Rattle.std.proofs.lemmas.List.Splits.{join_with_byte-slice_split}
use Rattle.lock_report.specs.ReadRows.{is_comma}
use Rattle.lock_report.proofs.ReadRows.{seven-fields, seven-items}
use Rattle.lock_report.proofs.ReadLines.{fields-again}
use Rattle.lock_report.proofs.reading.row.row_of.Goals as goal

pub returns-then-len-ne7 : goal.returns-then-len-ne7
returns-then-len-ne7 c = λ row. (
  λ e. absurd cc,
  λ h.
      let few : c.args.sessions < 2 ^ 16 = search rules in
      let all : map (λ (f : Bor (List ℕ)). f.now) c.in_ok-fields.fields.items ≡ slice_split is_comma c.args.line.now = search rules in
      let is = all ∙ fields-again c.args.sessions row c.args.line.now few h.0 h.1 in
      let long = sym (length-map c.in_ok-fields.fields.items (λ (f : Bor (List ℕ)). f.now)) ∙ ap length is ∙ seven-fields row in
      let seven : length c.in_ok-fields.fields.items ≡ 7 = long in
      absurd (search rules),
)

pub returns : goal.returns
returns c =
    let few : c.args.sessions < 2 ^ 16 = search rules in
    let all : map (λ (f : Bor (List ℕ)). f.now) c.in_ok-fields.fields.items ≡ slice_split is_comma c.args.line.now = search rules in
    let seven : length c.in_ok-fields.fields.items ≡ 7 = search rules in
    let items =
    seven-items (λ (f : Bor (List ℕ)). f.now) c.in_ok-fields.fields.items c.index.result.now c.index-2.result.now c.index-3.result.now c.index-4.result.now c.index-5.result.now c.index-6.result.now c.index-7.result.now seven
    (search rules) (search rules) (search rules) (search rules) (search rules) (search rules) (search rules) in
    λ row. (
      λ e.
          let h = (c.row_in.ensures row).0 e in
          (h.0, sym (join_with_byte-slice_split 44 c.args.line.now) ∙ ap (join_with_byte 44) (sym all ∙ (items ∙ h.1))),
      λ h. (c.row_in.ensures row).1 (h.0, sym items ∙ (all ∙ fields-again c.args.sessions row c.args.line.now few h.0 h.1)),
    )
