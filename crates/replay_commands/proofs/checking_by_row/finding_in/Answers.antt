use Rattle.std.proofs.Common.{◌∙◌, ℕ, ap, sym}
use Rattle.lock_trace.specs.ReadHistories.{history_of}
use Rattle.replay_commands.proofs.WrongReplies.{found_for}
use Rattle.replay_commands.proofs.checking_by_row.finding_in.Goals as goal

pub returns-in-Ok-End : goal.returns-in-Ok-End
returns-in-Ok-End g c = record {
  finds = λ bytes reading.
      let known = rw (c.in-Ok-End.is, c.in-Ok-End.field-0-is) at (c.judge_rows.ensures.known bytes reading) in
      let legal = rw (c.in-Ok-End.is, c.in-Ok-End.field-0-is) at c.judge_rows.ensures.stop in
      (c.judge_rows.new.book.history, (ap (λ (n : ℕ). history_of n bytes) (sym c.requires.sessions) ∙ known, (c.served.ensures.count, legal)));
}

pub returns-in-Ok-Wrong : goal.returns-in-Ok-Wrong
returns-in-Ok-Wrong g c = record {
  finds = λ bytes reading.
      let known = rw (c.in-Ok-Wrong.is, c.in-Ok-Wrong.field-0-is) at (c.judge_rows.ensures.known bytes reading) in
      let stop = rw (c.in-Ok-Wrong.is, c.in-Ok-Wrong.field-0-is) at c.judge_rows.ensures.stop in
      found_for _ _ bytes _ (stop.1 ∙ c.requires.sessions) (c.found_behind-in-Ok-Wrong.ensures.finds bytes known);
}

pub returns-in-Ok-Starved : goal.returns-in-Ok-Starved
returns-in-Ok-Starved g c = record {
  finds = λ bytes reading.
      let known = rw (c.in-Ok-Starved.is, c.in-Ok-Starved.field-0-is) at (c.judge_rows.ensures.known bytes reading) in
      let stop = rw (c.in-Ok-Starved.is, c.in-Ok-Starved.field-0-is) at c.judge_rows.ensures.stop in
      found_for _ _ bytes _ (stop.1 ∙ c.requires.sessions) (c.found_behind-in-Ok-Starved.ensures.finds bytes known);
}
