use Rattle.std.proofs.Common.{rules}
use Rattle.history_commands.proofs.drawing.timeline.Goals as goal

pub returns-then-is_err-clause-part : goal.returns-then-is_err-clause-part
returns-then-is_err-clause-part g c = λ is. (
  c.in-Ok.entries.items,
  c.in-Ok-drawn_text.shown.verdict,
  c.as_bytes.result.now,
  (c.in-Ok.ensures.entries, record { within = search rules; is_right = search rules; text_is = search rules }, search rules),
)
