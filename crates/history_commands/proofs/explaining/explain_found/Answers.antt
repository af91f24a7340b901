use Rattle.std.proofs.Common.{ℕ, List, rules, sym, subst}
use Rattle.lock_rules.specs.Entries.{Entry}
use Rattle.history_commands.specs.Explaining.{IsTextExplained}
use Rattle.history_commands.proofs.explaining.explain_found.Goals as goal

pub returns-then-is_err-clause-part : goal.returns-then-is_err-clause-part
returns-then-is_err-clause-part g c = λ is.
    let report = c.in-Ok-report_of.report in
    let of_entries = subst (λ (es : List Entry). IsTextExplained c.args.form c.args.sessions c.args.place es report.verdict report.text.items) c.deref-2.ensures.value c.in-Ok-report_of.ensures.text in
    let text = subst (λ (bytes : List ℕ). IsTextExplained c.args.form c.args.sessions c.args.place c.in-Ok.entries.items report.verdict bytes) (sym c.deref-4.ensures.value) of_entries in (
      c.in-Ok.entries.items,
      report.verdict,
      c.deref-4.result.now,
      (c.in-Ok.ensures.entries, record { within = search rules; is_right = search rules; text_is = text }, search rules),
    )
