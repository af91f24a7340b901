use Rattle.std.proofs.Common.{◌∷◌, [], ℕ, List, take, take_all, arith, refl, subst, sym}
use Rattle.lock_trace.specs.Rows.{IsRow}
use Rattle.lock_trace.specs.declared.trace_row.TraceRow.{TraceRow}
use Rattle.lock_shell.specs.Turns.{HasServed, HasServedRows}
use Rattle.lock_shell.specs.inner.Desks.{AreAlike}
use Rattle.lock_shell.proofs.Served.{entry_of, no_rows, rows_more, take_next}
use Rattle.lock_shell.proofs.desk.serve_rows.Goals as goal

pub loop-row-init : goal.loop-row-init
loop-row-init c = record { alike = c.requires.alike; served = no_rows c.args.after.now.sessions c.args.after.now.history c.args.text.now.items }

pub serve_told-requires : goal.serve_told-requires
serve_told-requires c =
    let so_far = c.loop-row.invariant in
    let is : IsRow c.args.after.now.sessions c.row-item.result = subst (IsRow c.args.after.now.sessions) (sym c.row-item.is) (c.requires.within c.loop-row.row-index c.row-item.result c.loop-row-test.true) in
    record { some = omega (arith, is.first); within = omega (arith, is.last, so_far.alike.others); alike = subst (λ (n : ℕ). AreAlike n c.loop-row.before c.loop-row.after) (sym so_far.alike.others) so_far.alike }

pub loop-row-preserved : goal.loop-row-preserved
loop-row-preserved c =
    let so_far = c.loop-row.invariant in
    let row = c.row-item.result in
    let e = entry_of row.session row.call c.in_ok-serve_told.field-0 in
    let told = subst (λ (n : ℕ). HasServed n c.loop-row.after.history c.serve_told.new.after.history (e ∷ []) c.loop-row.text.items c.serve_told.new.text.items)
    so_far.alike.others c.in_ok-serve_told.ensures.served in
    record {
      alike = subst (λ (n : ℕ). AreAlike n c.serve_told.new.before c.serve_told.new.after) so_far.alike.others c.in_ok-serve_told.ensures.alike;
      served = subst (λ (rows : List TraceRow). HasServedRows c.args.after.now.sessions rows c.args.after.now.history c.serve_told.new.after.history c.args.text.now.items c.serve_told.new.text.items)
          (sym (take_next c.args.rows.now c.loop-row.row-index row c.loop-row-test.true c.row-item.is))
          (rows_more c.args.after.now.sessions (take c.loop-row.row-index c.args.rows.now) row c.args.after.now.history c.loop-row.after.history _ e _ _ _ so_far.served told refl);
    }

pub returns : goal.returns
returns c = record {
  alike = c.loop-row.invariant.alike;
  served = subst (λ (rows : List TraceRow). HasServedRows c.args.after.now.sessions rows c.args.after.now.history c.loop-row.after.history c.args.text.now.items c.loop-row.text.items)
      (take_all c.loop-row.row-index c.args.rows.now c.loop-row-test.false) c.loop-row.invariant.served;
}
