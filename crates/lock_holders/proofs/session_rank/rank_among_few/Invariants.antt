use Rattle.lock_holders.specs.inner.Columns.{AreBelow}
use Rattle.lock_holders.proofs.session_rank.rank_among_few.Given as goal

abbrev pub invariant-loop-index : goal.invariant-loop-index
invariant-loop-index l = AreBelow l.session l.index l.sessions
