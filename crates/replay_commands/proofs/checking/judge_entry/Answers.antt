use Rattle.std.proofs.Common.{sym, ◌∙◌, true≢false}
use Rattle.lock_rules.proofs.Histories.{legal-push}
use Rattle.replay_commands.proofs.WrongReplies.{wrong_here}
use Rattle.replay_commands.proofs.checking.judge_entry.Goals as goal

pub returns-then-is_same-clause-legal : goal.returns-then-is_same-clause-legal
returns-then-is_same-clause-legal c =
    legal-push c.args.book.now.history c.args.entry.now c.requires.legal (sym (c.is_same.ensures.0 c.if-is_same.true) ∙ c.in_ok-given.ensures.reply)

pub returns-clause-wrong : goal.returns-clause-wrong
returns-clause-wrong c =
    wrong_here c.args.book.now.history c.args.entry.now c.in_ok-given.given c.served-place.result c.served-place.ensures.count c.requires.legal
    c.in_ok-given.ensures.reply (λ same. true≢false (sym (c.is_same.ensures.1 same) ∙ c.if-is_same.false))
