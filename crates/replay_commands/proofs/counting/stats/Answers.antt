use Rattle.std.proofs.Common.{rules}
use Rattle.replay_commands.proofs.counting.stats.Goals as goal

pub returns-then-is_err-clause-part : goal.returns-then-is_err-clause-part
returns-then-is_err-clause-part g c = λ is. (
  c.in-Ok.entries.items,
  c.in-Ok-told_text.told.verdict,
  c.as_bytes.result.now,
  (c.in-Ok.ensures.entries, record { is_right = search rules; text_is = search rules }, search rules),
)
