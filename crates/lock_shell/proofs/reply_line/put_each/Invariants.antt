use Rattle.std.proofs.Common.{◌≡◌, ◌++◌, take, string_bytes}
use Rattle.std.specs.List.{flat_map}
use Rattle.lock_shell.specs.Replies.{words_of_blocker}
use Rattle.lock_shell.proofs.reply_line.put_each.Given as goal

-- the words of the sessions before this one are written
abbrev pub invariant-loop-blocker : goal.invariant-loop-blocker
invariant-loop-blocker l = string_bytes l.out ≡ string_bytes l.fn.out ++ flat_map (words_of_blocker l.start) (take l.blocker-index l.blockers)
