use Rattle.std.proofs.Common.{◌∙◌, ap, arith, sym, subst, Option}
use Rattle.std.proofs.lemmas.Bool.{not-true, not-false}
use Rattle.std.proofs.lemmas.Option.{slice_get_within}
use Rattle.lock_table.specs.declared.cells.Cell.{Cell}
use Rattle.lock_table.specs.inner.Cells.{View, view_of, view_in, cell_view, view_after_giving_up, view_after_freeing, is_busy, IsPlace}
use Rattle.lock_holders.specs.SessionModes.{has_session}
use Rattle.lock_table.specs.inner.Blocking.{IsOfSessions, AreWritten}
use Rattle.lock_table.specs.inner.Lockers.{standings_of, DoAgree}
use Rattle.lock_table.proofs.CellTable.{became-same, became-view, kept-at, idle-view}
use Rattle.lock_table.proofs.CellGivesUp.{freed-nothing, view-left, view-promoted, once-there, free-kept, free-idle, agree-there}
use Rattle.lock_table.proofs.Places.{cell-within, resource-within, long-still, idle-still, there, written-cell, written-entry, wrote}
use Rattle.lock_table.proofs.NarrowingWaits.{still-waits, written-mid, follows-freeing}
use Rattle.lock_table.proofs.cell_table.CellTable.free_at.Goals as goal

pub index_mut-cell-requires : goal.index_mut-cell-requires
index_mut-cell-requires c =
    omega (arith, cell-within c.self.invariant c.self.view_is c.args.given.resource c.in-Some.is c.requires.place, c.self.inside.cells.ok.0)

pub give_up-requires-clause-rising : goal.give_up-requires-clause-rising
give_up-requires-clause-rising c =
    let cs = c.args.self.now.entries in
    let r = c.args.given.resource in
    let x = c.index_mut-cell.result.now in
    let t = there c.self.invariant c.self.view_is c.args.given.resource c.in-Some.is c.requires.place c.index_mut-cell.ensures.value in
    (kept-at r cs x c.requires.cells t).once.rising

pub give_up-requires-clause-room : goal.give_up-requires-clause-room
give_up-requires-clause-room c =
    let cs = c.args.self.now.entries in
    let r = c.args.given.resource in
    let x = c.index_mut-cell.result.now in
    let t = there c.self.invariant c.self.view_is c.args.given.resource c.in-Some.is c.requires.place c.index_mut-cell.ensures.value in
    (kept-at r cs x c.requires.cells t).room

pub promote-requires-clause-once : goal.promote-requires-clause-once
promote-requires-clause-once c =
    let cs = c.args.self.now.entries in
    let r = c.args.given.resource in
    let x = c.index_mut-cell.result.now in
    let t = there c.self.invariant c.self.view_is c.args.given.resource c.in-Some.is c.requires.place c.index_mut-cell.ensures.value in
    once-there c.args.given.claim r c.args.given.session cs x c.give_up.new.self t c.give_up.ensures.view (kept-at r cs x c.requires.cells t).once

pub promote-requires-clause-agree : goal.promote-requires-clause-agree
promote-requires-clause-agree c =
    let cs = c.args.self.now.entries in
    let r = c.args.given.resource in
    let x = c.index_mut-cell.result.now in
    let t = there c.self.invariant c.self.view_is c.args.given.resource c.in-Some.is c.requires.place c.index_mut-cell.ensures.value in
    let v = view-left c.args.given.claim r c.args.given.session cs x c.give_up.new.self t c.give_up.ensures.view in
    subst (λ (w : View). DoAgree r w (standings_of c.args.lockers.now.items)) (sym v) c.requires.agree

pub invariant_of-self-else-is_idle : goal.invariant_of-self-else-is_idle
invariant_of-self-else-is_idle c = record {
  long = long-still _ _ c.in-Some.place c.promote.new.cell c.self.invariant.long;
  idle = idle-still _ _ c.in-Some.place c.promote.new.cell (resource-within c.self.invariant c.self.view_is c.args.given.resource c.in-Some.is c.requires.place) c.self.invariant.idle;
}

pub vacate-requires-clause-within : goal.vacate-requires-clause-within
vacate-requires-clause-within c =
    slice_get_within _ c.in-Some.place _ (written-entry c.self.invariant c.self.view_is c.args.given.resource c.in-Some.is c.requires.place c.promote.new.cell)

pub vacate-requires-clause-idle : goal.vacate-requires-clause-idle
vacate-requires-clause-idle c = λ q y h.
    let r = c.args.given.resource in
    let new = c.promote.new.cell in
    ap view_of (sym (written-cell c.self.invariant c.self.view_is r c.in-Some.is c.requires.place new q y h)) ∙ idle-view (view_of new) (not-true (is_busy (view_of new)) (sym c.is_idle.ensures ∙ c.if-is_idle.true))

pub returns-then-is_idle-clause-cells : goal.returns-then-is_idle-clause-cells
returns-then-is_idle-clause-cells c =
    let cs = c.args.self.now.entries in
    let r = c.args.given.resource in
    let x = c.index_mut-cell.result.now in
    let t = there c.self.invariant c.self.view_is c.args.given.resource c.in-Some.is c.requires.place c.index_mut-cell.ensures.value in
    let new = c.promote.new.cell in
    free-idle c.args.given.claim r c.args.given.session cs x c.give_up.new.self t c.give_up.ensures.view
    new c.promote.ensures.view c.requires.cells c.vacate.new.self.entries _ (not-true (is_busy (view_of new)) (sym c.is_idle.ensures ∙ c.if-is_idle.true))
    (wrote c.self.invariant c.self.view_is r c.in-Some.is c.requires.place new) (c.vacate.ensures.gone r new (written-entry c.self.invariant c.self.view_is r c.in-Some.is c.requires.place new))

pub returns-then-is_idle-clause-agree : goal.returns-then-is_idle-clause-agree
returns-then-is_idle-clause-agree c =
    let cs = c.args.self.now.entries in
    let r = c.args.given.resource in
    let x = c.index_mut-cell.result.now in
    let t = there c.self.invariant c.self.view_is c.args.given.resource c.in-Some.is c.requires.place c.index_mut-cell.ensures.value in
    agree-there c.args.given.claim r c.args.given.session cs x c.give_up.new.self t c.give_up.ensures.view c.promote.new.cell c.promote.ensures.view _ c.promote.ensures.agree

pub returns-else-is_idle-clause-cells : goal.returns-else-is_idle-clause-cells
returns-else-is_idle-clause-cells c =
    let cs = c.args.self.now.entries in
    let r = c.args.given.resource in
    let x = c.index_mut-cell.result.now in
    let t = there c.self.invariant c.self.view_is c.args.given.resource c.in-Some.is c.requires.place c.index_mut-cell.ensures.value in
    let new = c.promote.new.cell in
    free-kept c.args.given.claim r c.args.given.session cs x c.give_up.new.self t c.give_up.ensures.view
    new c.promote.ensures.view c.requires.cells _ c.promote.ensures.room c.promote.ensures.once (not-false (is_busy (view_of new)) (sym c.is_idle.ensures ∙ c.if-is_idle.false))
    (wrote c.self.invariant c.self.view_is r c.in-Some.is c.requires.place new)

pub returns-else-is_idle-clause-agree : goal.returns-else-is_idle-clause-agree
returns-else-is_idle-clause-agree c =
    let cs = c.args.self.now.entries in
    let r = c.args.given.resource in
    let x = c.index_mut-cell.result.now in
    let t = there c.self.invariant c.self.view_is c.args.given.resource c.in-Some.is c.requires.place c.index_mut-cell.ensures.value in
    agree-there c.args.given.claim r c.args.given.session cs x c.give_up.new.self t c.give_up.ensures.view c.promote.new.cell c.promote.ensures.view _ c.promote.ensures.agree

pub follow_give_up-requires-clause-within : goal.follow_give_up-requires-clause-within
follow_give_up-requires-clause-within c =
    let t = there c.self.invariant c.self.view_is c.args.given.resource c.in-Some.is c.requires.place c.index_mut-cell.ensures.value in
    (subst (IsOfSessions c.args.waits.now.rows.sessions) (sym (ap view_in t)) c.requires.within).waiting

pub follow_give_up-requires-clause-once : goal.follow_give_up-requires-clause-once
follow_give_up-requires-clause-once c =
    let cs = c.args.self.now.entries in
    let r = c.args.given.resource in
    let x = c.index_mut-cell.result.now in
    let t = there c.self.invariant c.self.view_is c.args.given.resource c.in-Some.is c.requires.place c.index_mut-cell.ensures.value in
    (kept-at r cs x c.requires.cells t).once

pub follow_give_up-requires-clause-claimed : goal.follow_give_up-requires-clause-claimed
follow_give_up-requires-clause-claimed c =
    let t = there c.self.invariant c.self.view_is c.args.given.resource c.in-Some.is c.requires.place c.index_mut-cell.ensures.value in
    ap (λ (o : Option Cell). has_session c.args.given.session (view_in o).waiting) t ∙ c.requires.claimed

pub follow_give_up-requires-clause-written : goal.follow_give_up-requires-clause-written
follow_give_up-requires-clause-written c =
    let t = there c.self.invariant c.self.view_is c.args.given.resource c.in-Some.is c.requires.place c.index_mut-cell.ensures.value in
    subst (λ (v : View). AreWritten v c.args.waits.now) (sym (ap view_in t)) c.requires.written

pub promote-requires-clause-written : goal.promote-requires-clause-written
promote-requires-clause-written c =
    let v = view_of c.index_mut-cell.result.now in
    let left = view_after_giving_up c.args.given.claim c.args.given.session v in
    let mid = c.follow_give_up.new.waits in
    subst (λ (y : View). AreWritten y mid) (sym c.give_up.ensures.view) (written-mid v left c.args.waits.now mid c.follow_give_up.ensures (λ s. still-waits c.args.given.claim c.args.given.session s v))

pub returns-then-is_idle-clause-rows : goal.returns-then-is_idle-clause-rows
returns-then-is_idle-clause-rows c =
    let cs = c.args.self.now.entries in
    let r = c.args.given.resource in
    let x = c.index_mut-cell.result.now in
    let t = there c.self.invariant c.self.view_is c.args.given.resource c.in-Some.is c.requires.place c.index_mut-cell.ensures.value in
    follows-freeing c.args.given.claim c.args.given.session (view_of x) (view_of c.give_up.new.self) (view_of c.promote.new.cell) _ _ c.args.waits.now c.follow_give_up.new.waits c.promote.new.waits c.follow_give_up.ensures c.give_up.ensures.view c.promote.ensures.rows
    (ap view_in t) (view-promoted c.args.given.claim r c.args.given.session cs x c.give_up.new.self t c.give_up.ensures.view c.promote.new.cell c.promote.ensures.view)

pub returns-else-is_idle-clause-rows : goal.returns-else-is_idle-clause-rows
returns-else-is_idle-clause-rows c =
    let cs = c.args.self.now.entries in
    let r = c.args.given.resource in
    let x = c.index_mut-cell.result.now in
    let t = there c.self.invariant c.self.view_is c.args.given.resource c.in-Some.is c.requires.place c.index_mut-cell.ensures.value in
    follows-freeing c.args.given.claim c.args.given.session (view_of x) (view_of c.give_up.new.self) (view_of c.promote.new.cell) _ _ c.args.waits.now c.follow_give_up.new.waits c.promote.new.waits c.follow_give_up.ensures c.give_up.ensures.view c.promote.ensures.rows
    (ap view_in t) (view-promoted c.args.given.claim r c.args.given.session cs x c.give_up.new.self t c.give_up.ensures.view c.promote.new.cell c.promote.ensures.view)

pub returns-in_default-clause-cells : goal.returns-in_default-clause-cells
returns-in_default-clause-cells c =
    let cs = c.args.self.now.entries in
    let r = c.args.given.resource in
    let none = ap view_in (subst (IsPlace r cs) c.in_default.is c.requires.place) in
    became-view r (cell_view r cs) _ cs cs (none ∙ sym (ap (view_after_freeing c.args.given.claim c.args.given.session) none ∙ freed-nothing c.args.given.claim c.args.given.session)) (became-same r cs c.requires.cells)
