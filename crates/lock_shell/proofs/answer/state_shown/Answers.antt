use Rattle.std.proofs.Common.{◌∙◌, ℕ, List, ap, ap₂, vec_items}
use Rattle.lock_rules.specs.Entries.{Entry}
use Rattle.history_commands.specs.Showing.{lines_in}
use Rattle.lock_shell.proofs.answer.state_shown.Goals as goal

pub returns : goal.returns
returns c =
    ap vec_items c.into_bytes.ensures.value ∙ c.in_ok-shown.ensures
    ∙ ap₂ (λ (place : ℕ) (es : List Entry). lines_in c.args.after.now.sessions place es) c.served-place.ensures.count (c.history.ensures.all c.requires.all c.requires.unbounded)
