use Rattle.std.proofs.Common.{ℕ, sym, subst}
use Rattle.std.proofs.lemmas.Result.{IfOk-weaker}
use Rattle.std.specs.List.{All}
use Rattle.lock_trace.specs.Entries.{IsEntry}
use Rattle.history_commands.specs.Explaining.{IsTextExplained}
use Rattle.history_commands.proofs.explaining.report_of.Goals as goal

pub report_on_book-requires : goal.report_on_book-requires
report_on_book-requires c = record { within = subst (λ (n : ℕ). All (IsEntry n) c.args.entries.now) (sym c.in_ok-before.ensures.sessions) c.requires.within; behind = c.in_ok-before.ensures.empty; place = c.requires.place }

pub returns : goal.returns
returns c = record {
  verdict = c.report_on_book.ensures.verdict;
  text = IfOk-weaker c.report_on_book.result _ _
      (λ report is. subst (λ (n : ℕ). IsTextExplained c.args.form n c.args.place c.args.entries.now report.verdict report.text.items) c.in_ok-before.ensures.sessions is) c.report_on_book.ensures.text;
}
