use Rattle.std.proofs.Common.{◌∙◌, ◌++◌, ℕ, List, Option, is_some, sym, ap}
use Rattle.history_commands.proofs.ExplainedParts.{account_told}
use Rattle.history_commands.proofs.accounts.add_account_if_eventful.Goals as goal

pub returns : goal.returns
returns c =
    let before = c.args.call.now.before.now in (
      c.in_ok-appended.appended.items,
      (
        account_told c.args.form before.sessions before.history c.args.call.now.entry.now c.in_ok-appended.appended.items (sym c.requires.eventful ∙ ap (λ (o : Option _). is_some o) c.in-Some.is) c.in_ok-appended.ensures,
        c.in_ok-extend_from_slice.ensures.items ∙ ap (λ (l : List ℕ). c.args.text.now.items ++ l) c.deref-2.ensures.value,
      ),
    )
