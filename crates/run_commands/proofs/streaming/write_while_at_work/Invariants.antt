use Rattle.std.proofs.Common.{◌≡◌}
use Rattle.lock_office.specs.ProgramBoards.{flat_history}
use Rattle.lock_office.specs.Sessions.{IsSessionOf}
use Rattle.run_commands.specs.Streams.{IsWrittenUpTo, bare}
use Rattle.run_commands.proofs.streaming.write_while_at_work.Given as goal

-- the first `next` entries of the history that the taker knows are written, and the taker did nothing else
abbrev pub invariant-loop : goal.invariant-loop
invariant-loop g l = record {
  ours : IsSessionOf l.run.office.now l.taker;
  same : bare l.taker ≡ bare l.initial.taker;
  way : IsWrittenUpTo l.next (flat_history l.taker.front) (g.W.Write.contents l.initial.output) (g.W.Write.contents l.output);
}
