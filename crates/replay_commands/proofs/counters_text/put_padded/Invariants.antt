use Rattle.std.proofs.Common.{◌≡◌, ◌++◌, replicate, string_bytes}
use Rattle.replay_commands.proofs.counters_text.put_padded.Given as goal

-- the word is written, and so many spaces
abbrev pub invariant-loop-space : goal.invariant-loop-space
invariant-loop-space l = string_bytes l.out ≡ string_bytes l.fn.out ++ l.word ++ replicate l._space 32
