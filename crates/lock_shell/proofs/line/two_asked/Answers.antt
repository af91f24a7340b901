use Rattle.lock_shell.proofs.line.two_asked.Goals as goal

pub returns-then-is_word-2 : goal.returns-then-is_word-2
returns-then-is_word-2 c = c.file_asked.ensures c.args.sessions
