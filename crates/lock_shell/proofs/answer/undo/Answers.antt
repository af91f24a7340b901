use Rattle.std.proofs.Common.{◌∙◌, ap, min}
use Rattle.lock_shell.proofs.Served.{undone}
use Rattle.lock_shell.proofs.answer.undo.Goals as goal

pub returns-clause-undone : goal.returns-clause-undone
returns-clause-undone c =
    undone c.args.desk.now.after c.in_ok-again.again.after c.args.marks.now.items c.pop.new.self.items c.in-Some.mark c.min-kept.result
    c.in-Some.ensures.items (c.min-kept.ensures ∙ ap (min c.in-Some.mark) c.served.ensures.count) c.in_ok-again.ensures.served
