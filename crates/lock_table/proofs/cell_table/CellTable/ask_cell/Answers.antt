use Rattle.std.proofs.Common.{◌∙◌, sym, ap, arith, subst, Option}
use Rattle.lock_table.specs.declared.cells.Cell.{Cell}
use Rattle.lock_table.specs.inner.Cells.{View, Table, view_in, cell_view, view_after_asking, can_grant, CellsBecame}
use Rattle.lock_holders.specs.SessionModes.{has_session}
use Rattle.lock_table.specs.inner.Blocking.{IsOfSessions, DoFollow}
use Rattle.lock_table.proofs.Results.{on-err-from}
use Rattle.lock_table.proofs.SessionsInRange.{numbered-asked}
use Rattle.lock_table.proofs.CellTable.{became-same, kept-at}
use Rattle.lock_table.proofs.Places.{cell-within, resource-within, long-still, idle-still, there, wrote-kept}
use Rattle.lock_table.proofs.cell_table.CellTable.ask_cell.Goals as goal

pub index_mut-cell-requires : goal.index_mut-cell-requires
index_mut-cell-requires c =
    omega (arith, cell-within c.self.invariant c.self.view_is c.args.resource c.in-Some.is c.requires.place, c.self.inside.cells.ok.0)

pub ask-requires-clause-kept : goal.ask-requires-clause-kept
ask-requires-clause-kept c =
    let cs = c.args.self.now.entries in
    let r = c.args.resource in
    let x = c.index_mut-cell.result.now in
    kept-at r cs x c.requires.kept (there c.self.invariant c.self.view_is c.args.resource c.in-Some.is c.requires.place c.index_mut-cell.ensures.value)

pub ask-requires-clause-idle : goal.ask-requires-clause-idle
ask-requires-clause-idle c =
    ap (λ (o : Option Cell). has_session c.args.asker.session (view_in o).waiting) (there c.self.invariant c.self.view_is c.args.resource c.in-Some.is c.requires.place c.index_mut-cell.ensures.value) ∙ c.requires.idle

pub invariant_of-self : goal.invariant_of-self
invariant_of-self c = record {
  long = long-still _ _ c.in-Some.place c.ask.new.self c.self.invariant.long;
  idle = idle-still _ _ c.in-Some.place c.ask.new.self (resource-within c.self.invariant c.self.view_is c.args.resource c.in-Some.is c.requires.place) c.self.invariant.idle;
}

pub invariant_of-self-in-Some : goal.invariant_of-self-in-Some
invariant_of-self-in-Some c = record {
  long = long-still _ _ c.in-Some.place c.ask.new.self c.self.invariant.long;
  idle = idle-still _ _ c.in-Some.place c.ask.new.self (resource-within c.self.invariant c.self.view_is c.args.resource c.in-Some.is c.requires.place) c.self.invariant.idle;
}

pub update_rows-requires-clause-within : goal.update_rows-requires-clause-within
update_rows-requires-clause-within c =
    let t = there c.self.invariant c.self.view_is c.args.resource c.in-Some.is c.requires.place c.index_mut-cell.ensures.value in
    subst (IsOfSessions c.args.waits.now.rows.sessions) (sym (c.in_ok-status-in-Some.ensures.view ∙ ap (λ (o : Option Cell). view_after_asking c.args.asker (view_in o)) t)) (numbered-asked c.args.waits.now.rows.sessions c.args.asker _ c.requires.some c.requires.within c.requires.written.within)

pub returns-in_ok-status-in-Some-clause-granted : goal.returns-in_ok-status-in-Some-clause-granted
returns-in_ok-status-in-Some-clause-granted c =
    let t = there c.self.invariant c.self.view_is c.args.resource c.in-Some.is c.requires.place c.index_mut-cell.ensures.value in
    c.in_ok-status-in-Some.ensures.granted ∙ ap (λ (o : Option Cell). can_grant c.args.asker (view_in o)) t

pub returns-in_ok-status-in-Some-clause-ok : goal.returns-in_ok-status-in-Some-clause-ok
returns-in_ok-status-in-Some-clause-ok c =
    let r = c.args.resource in
    let t = there c.self.invariant c.self.view_is c.args.resource c.in-Some.is c.requires.place c.index_mut-cell.ensures.value in
    wrote-kept c.self.invariant c.self.view_is r c.in-Some.is c.requires.place c.ask.new.self _ c.requires.kept c.ask.ensures.kept (c.in_ok-status-in-Some.ensures.view ∙ ap (λ (o : Option Cell). view_after_asking c.args.asker (view_in o)) t)

pub update_rows-requires-clause-asked : goal.update_rows-requires-clause-asked
update_rows-requires-clause-asked c =
    let cs = c.args.self.now.entries in
    let r = c.args.resource in
    let t = there c.self.invariant c.self.view_is c.args.resource c.in-Some.is c.requires.place c.index_mut-cell.ensures.value in
    record {
      before = cell_view r cs;
      written = c.requires.written;
      idle = c.requires.idle;
      granted_is = c.in_ok-status-in-Some.ensures.granted ∙ ap (λ (o : Option Cell). can_grant c.args.asker (view_in o)) t;
      after = c.in_ok-status-in-Some.ensures.view ∙ ap (λ (o : Option Cell). view_after_asking c.args.asker (view_in o)) t;
    }

pub returns-in_ok-status-in-Some-clause-rows : goal.returns-in_ok-status-in-Some-clause-rows
returns-in_ok-status-in-Some-clause-rows c =
    let cs = c.args.self.now.entries in
    let r = c.args.resource in
    let t = there c.self.invariant c.self.view_is c.args.resource c.in-Some.is c.requires.place c.index_mut-cell.ensures.value in
    let asked = c.in_ok-status-in-Some.ensures.view ∙ ap (λ (o : Option Cell). view_after_asking c.args.asker (view_in o)) t in
    let granted = c.in_ok-status-in-Some.ensures.granted ∙ ap (λ (o : Option Cell). can_grant c.args.asker (view_in o)) t in
    subst (λ (v : View). DoFollow (cell_view r cs) v c.args.waits.now c.update_rows.new.waits) asked (c.update_rows.ensures (record { before = cell_view r cs; written = c.requires.written; idle = c.requires.idle; granted_is = granted; after = asked }))

pub returns-in_err-status-in-Some-clause-err : goal.returns-in_err-status-in-Some-clause-err
returns-in_err-status-in-Some-clause-err c =
    let r = c.args.resource in
    let t = there c.self.invariant c.self.view_is c.args.resource c.in-Some.is c.requires.place c.index_mut-cell.ensures.value in
    on-err-from c.from_residual.result (wrote-kept c.self.invariant c.self.view_is r c.in-Some.is c.requires.place c.ask.new.self _ c.requires.kept c.ask.ensures.kept (c.in_err-status-in-Some.ensures.err ∙ ap view_in t))

pub returns-in_err-add_cell-in-None-clause-err : goal.returns-in_err-add_cell-in-None-clause-err
returns-in_err-add_cell-in-None-clause-err c =
    let cs = c.args.self.now.entries in
    let r = c.args.resource in
    on-err-from c.from_residual-in_err-add_cell-in-None.result (subst (λ (t : Table). CellsBecame r (cell_view r cs) cs t.entries) (sym c.in_err-add_cell-in-None.ensures.err) (became-same r cs c.requires.kept))
