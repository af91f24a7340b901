use Rattle.std.proofs.Common.{rules, subst, ◌≤◌, ◌+◌, ℕ, List, take, take_all}
use Rattle.std.specs.List.{All}
use Rattle.lock_trace.specs.declared.trace_row.TraceRow.{TraceRow}
use Rattle.run_commands.proofs.AreRows.{rows_below, rows_within}
use Rattle.run_commands.proofs.running.greatest_session.Goals as goal

pub loop-row-preserved : goal.loop-row-preserved
loop-row-preserved c =
    let at = c.loop-row.row-index in let rows = c.args.rows.now in
    record {
      some = search rules;
      few = search rules;
      within = subst (λ (g : ℕ). All (λ (r : TraceRow). r.session ≤ g) (take (at + 1) rows)) (search rules)
          (rows_below c.loop-row.greatest rows at c.row-item.result (search rules) c.loop-row.invariant.within);
    }

pub returns-clause-within : goal.returns-clause-within
returns-clause-within c =
    rows_within c.args.sessions c.loop-row.greatest c.args.rows.now c.requires.within
    (subst (λ (rows : List TraceRow). All (λ (r : TraceRow). r.session ≤ c.loop-row.greatest) rows)
    (take_all c.loop-row.row-index c.args.rows.now c.loop-row-test.false) c.loop-row.invariant.within)
