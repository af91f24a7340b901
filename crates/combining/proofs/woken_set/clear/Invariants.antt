use Rattle.std.proofs.Common.{◌≡◌, ◌++◌, drop, replicate, vec_len}
use Rattle.combining.proofs.woken_set.clear.Given as goal

-- The first k words are 0.
abbrev pub invariant-loop-k : goal.invariant-loop-k
invariant-loop-k l = record {
  items : l.words.items ≡ replicate l.k 0 ++ drop l.k l.fn.words.items;
  len : vec_len l.words ≡ vec_len l.fn.words;
}
