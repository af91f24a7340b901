use Rattle.std.proofs.Common.{◌≡◌, ℕ, vec_len, get_or}
use Rattle.lock_table.proofs.wait_graph.new_waits.Given as goal

abbrev pub invariant-loop-session : goal.invariant-loop-session
invariant-loop-session l = record {
  numbers : vec_len l.numbers ≡ l._session;
  none : (a : ℕ) → get_or l.numbers.items a 0 ≡ 0;
}
