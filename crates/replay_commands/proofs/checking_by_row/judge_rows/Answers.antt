use Rattle.std.proofs.Common.{◌∙◌, ℕ, List, Ok, Result, ap, sym}
use Rattle.lock_rules.specs.Entries.{Entry}
use Rattle.lock_trace.specs.declared.faults.TraceFault.{TraceFault}
use Rattle.lock_trace.specs.ReadHistories.{history_of}
use Rattle.replay_commands.proofs.checking_by_row.judge_rows.Goals as goal

-- an `Ok` of entries, with the fault type fixed
abbrev read : List Entry → Result (List Entry) TraceFault
read entries = Ok entries

pub returns-in-Ok-None-clause-known : goal.returns-in-Ok-None-clause-known
returns-in-Ok-None-clause-known g c bytes reading =
    let told = rw (c.in-Ok-None.is, c.in-Ok-None.field-0-is) at (c.next.ensures.reads bytes (c.loop-turn.invariant.reading bytes reading)) in
    ap (λ (n : ℕ). history_of n bytes) (sym c.loop-turn.invariant.sessions) ∙ told ∙ ap read (sym c.loop-turn.invariant.entries)
