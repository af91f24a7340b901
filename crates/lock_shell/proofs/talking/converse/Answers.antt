use Rattle.std.proofs.Common.{◌≡◌, ℕ, List, ap₂, subst}
use Rattle.std.proofs.lemmas.Result.{IfOk-weaker, on_err_weaker}
use Rattle.lock_rules.specs.Entries.{Entry}
use Rattle.lock_shell.specs.Turns.{Kept, nothing_kept}
use Rattle.lock_shell.specs.inner.Answered.{HasAnswered, HasAnsweredPart}
use Rattle.lock_shell.specs.inner.Desks.{kept_in}
use Rattle.lock_shell.proofs.Talks.{greeted_part, silent_part, talked, talked_part}
use Rattle.lock_shell.proofs.talking.converse.Goals as goal

pub returns-in_default-clause-part : goal.returns-in_default-clause-part
returns-in_default-clause-part g c = silent_part c.args.desk.now.after.sessions (g.W.Write.contents c.args.output.now)

pub returns-clause-part : goal.returns-clause-part
returns-clause-part g c = greeted_part c.args.desk.now.after.sessions (g.W.Write.contents c.args.output.now) (g.W.Write.contents c.greet.new.output) c.in-Err.ensures.part

pub returns-in-Ok-greet-clause-talked : goal.returns-in-Ok-greet-clause-talked
returns-in-Ok-greet-clause-talked g c =
    let n = c.args.desk.now.after.sessions in
    let begun : kept_in c.args.desk.now.after c.new-marks.result.items ≡ nothing_kept = ap₂ (λ (es : List Entry) (ms : List ℕ). record { history = es; marks = ms }) c.requires.fresh c.new-marks.ensures.items in
    IfOk-weaker c.answer_lines.result _ _
    (λ count some. talked n count some.0 (g.W.Write.contents c.args.output.now) (g.W.Write.contents c.greet.new.output) (g.W.Write.contents c.answer_lines.new.output)
    c.in-Ok-greet.ensures.written
    (subst (λ (front : Kept). HasAnswered n count front some.0 (g.W.Write.contents c.greet.new.output) (g.W.Write.contents c.answer_lines.new.output)) begun some.1))
    c.answer_lines.ensures.answered

pub returns-in-Ok-greet-clause-part : goal.returns-in-Ok-greet-clause-part
returns-in-Ok-greet-clause-part g c =
    let n = c.args.desk.now.after.sessions in
    let begun : kept_in c.args.desk.now.after c.new-marks.result.items ≡ nothing_kept = ap₂ (λ (es : List Entry) (ms : List ℕ). record { history = es; marks = ms }) c.requires.fresh c.new-marks.ensures.items in
    on_err_weaker c.answer_lines.result
    (λ part. talked_part n (g.W.Write.contents c.args.output.now) (g.W.Write.contents c.greet.new.output) (g.W.Write.contents c.answer_lines.new.output)
    c.in-Ok-greet.ensures.written
    (subst (λ (front : Kept). HasAnsweredPart n front (g.W.Write.contents c.greet.new.output) (g.W.Write.contents c.answer_lines.new.output)) begun part))
    c.answer_lines.ensures.part
