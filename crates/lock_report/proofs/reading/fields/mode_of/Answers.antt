use Rattle.std.proofs.Common.{rules, ◌≡◌, true, false, ap, ◌∙◌}
use Rattle.std.specs.Str.{is_utf8}
use Rattle.lock_report.proofs.ReadTexts.{mode-utf8}
use Rattle.lock_report.proofs.reading.fields.mode_of.Goals as goal

pub returns-in_err-text_in : goal.returns-in_err-text_in
returns-in_err-text_in c = λ m. (
  λ e. absurd cc,
  λ h.
      let no : is_utf8 c.args.field.now ≡ false = search rules in
      let yes : is_utf8 c.args.field.now ≡ true = ap is_utf8 h.1 ∙ mode-utf8 m in
      absurd cc,
)
