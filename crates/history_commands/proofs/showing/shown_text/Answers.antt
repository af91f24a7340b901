use Rattle.std.proofs.Common.{◌≡◌, ℕ, IfOk, string_bytes, subst}
use Rattle.history_commands.specs.Showing.{text_shown}
use Rattle.replay_commands.specs.Verdicts.{IsVerdict}
use Rattle.history_commands.proofs.showing.shown_text.Goals as goal

pub returns : goal.returns
returns c =
    let history = c.args.entries.now in
    let is_shown = λ (n : ℕ). IfOk c.shown_on.result (λ shown. IsVerdict history shown.verdict × (string_bytes shown.text ≡ text_shown c.args.form n c.args.place history shown.verdict)) in
    subst is_shown c.in_ok-book.ensures.sessions c.shown_on.ensures
