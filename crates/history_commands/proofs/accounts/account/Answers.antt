use Rattle.std.proofs.Common.{◌∙◌, ◌++◌, ℕ, List, ap}
use Rattle.history_commands.specs.Explaining.{account_in, answer_told}
use Rattle.history_commands.proofs.accounts.account.Goals as goal

pub returns : goal.returns
returns c =
    let x = c.args.explanation.now in
    let before = c.args.call.now.before.now in (
      x,
      c.requires.explained,
      c.in_ok-add_answer.ensures
          ∙ ap (λ (l : List ℕ). l ++ answer_told c.args.form before.sessions before.history c.args.call.now.entry.now)
          (c.in_ok-text.ensures ∙ ap (λ (k : ℕ). account_in c.args.form k c.args.call.now.entry.now x) c.requires.place),
    )
