use Rattle.std.proofs.Common.{◌∙◌, ℕ, List, Ok, Result, ap, sym}
use Rattle.lock_rules.specs.Entries.{Entry}
use Rattle.lock_trace.specs.declared.faults.TraceFault.{TraceFault}
use Rattle.lock_trace.specs.ReadHistories.{history_of}
use Rattle.replay_commands.proofs.checking_by_row.read_rest.Goals as goal

-- an `Ok` of entries, with the fault type fixed
abbrev read : List Entry → Result (List Entry) TraceFault
read entries = Ok entries

pub returns-in-Ok-None : goal.returns-in-Ok-None
returns-in-Ok-None g c = record {
  rest = λ bytes reading.
      let told = rw (c.in-Ok-None.is, c.in-Ok-None.field-0-is) at (c.next.ensures.reads bytes (c.loop-turn.invariant.reading bytes reading)) in
      let (rest, more, long) = c.loop-turn.invariant.more in
      (rest, ap (λ (n : ℕ). history_of n bytes) (sym c.loop-turn.invariant.sessions) ∙ told ∙ ap read more);
}
