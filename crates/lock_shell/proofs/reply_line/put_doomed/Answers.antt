use Rattle.std.proofs.Common.{◌≡◌, ◌++◌, List, ℕ, codes, decimal, string_bytes}
use Rattle.std.proofs.lemmas.Result.{on_ok_weaker}
use Rattle.lock_report.proofs.Pieces.{next_part}
use Rattle.lock_shell.specs.Replies.{line_of_doomed, words_of_fate}
use Rattle.lock_shell.proofs.reply_line.put_doomed.Goals as goal

-- the two parts of the line
two_parts : (s : ℕ) (old mid new : List ℕ) → mid ≡ old ++ (codes "  deadlock: " ++ codes "session " ++ decimal s) → new ≡ mid ++ words_of_fate s → new ≡ old ++ line_of_doomed s
two_parts s old mid new one two = next_part old (codes "  deadlock: " ++ codes "session " ++ decimal s) (words_of_fate s) mid new one two

pub returns : goal.returns
returns c = on_ok_weaker c.put_fate.result (λ told. two_parts c.args.session (string_bytes c.args.out.now) (string_bytes c.put_session.new.out) (string_bytes c.put_fate.new.out) c.in_ok-put_session.ensures told) c.put_fate.ensures
