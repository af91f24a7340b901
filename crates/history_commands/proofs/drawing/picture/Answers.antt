use Rattle.std.proofs.Common.{◌≡◌, ℕ, List, Result, Ok, Err, IfOk, string_bytes, sym, subst}
use Rattle.std.proofs.lemmas.Result.{IfOk-weaker}
use Rattle.replay_commands.specs.declared.checking.Verdict.{Verdict}
use Rattle.replay_commands.specs.declared.checking.Verdict.TheVariants as verdict
use Rattle.history_commands.specs.Drawing.{IsTextDrawn}
use Rattle.replay_commands.specs.Verdicts.{IsFirstWrong, IsVerdict, text_of_verdict}
use Rattle.history_commands.proofs.ExplainedParts.{of_some}
use Rattle.history_commands.proofs.drawing.picture.Goals as goal

-- the text of a verdict's line is what is written of it
line_drawn : {T E : Type 0} (r : Result T E) (verdict_in : T → Verdict) (text_in : T → List ℕ) (first : ℕ) → IfOk r (λ x. verdict_in x ≡ verdict.Illegal first)
    → IfOk r (λ x. text_in x ≡ text_of_verdict (verdict.Illegal first)) → IfOk r (λ x. IsTextDrawn (verdict_in x) (text_in x))
line_drawn (Ok x) verdict_in text_in first is text = subst (λ (v : Verdict). IsTextDrawn v (text_in x)) (sym is) text
line_drawn (Err e) verdict_in text_in first is text = tt

pub returns-in-Some-clause-verdict : goal.returns-in-Some-clause-verdict
returns-in-Some-clause-verdict c =
    let es = c.args.entries.now in
    let wrong = of_some c.in_ok-first.field-0 c.in-Some.first (IsFirstWrong es) c.in-Some.is c.in_ok-first.ensures.wrong in
    IfOk-weaker c.illegal_text.result (λ shown. shown.verdict ≡ verdict.Illegal c.in-Some.first) (λ shown. IsVerdict es shown.verdict) (λ shown is. subst (λ (v : Verdict). IsVerdict es v) (sym is) wrong) c.illegal_text.ensures.verdict

pub returns-in-Some-clause-text : goal.returns-in-Some-clause-text
returns-in-Some-clause-text c =
    line_drawn c.illegal_text.result (λ shown. shown.verdict) (λ shown. string_bytes shown.text) c.in-Some.first c.illegal_text.ensures.verdict c.illegal_text.ensures.text
