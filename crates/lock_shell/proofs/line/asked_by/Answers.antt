use Rattle.lock_shell.proofs.line.asked_by.Goals as goal

pub returns-in-len1 : goal.returns-in-len1
returns-in-len1 c = c.word_asked.ensures c.args.sessions
