use Rattle.std.proofs.Common.{rules, ◌≡◌, ◌<◌, ◌++◌, length, vec_len, vec_capacity, ◌∷◌, get_or, ℕ, List, Some, None, set, take, drop, sym, ap, ◌∙◌, subst, arith}
use Rattle.sequential.specs.declared.entry.Item.{Item}
use Rattle.sequential.specs.Batches.{IsItemWithin}
use Rattle.publication.specs.Views.{TicketView}
use Rattle.publication.specs.Boards.{opened_at}
use Rattle.combining.specs.inner.Passes.{AreOpened}
use Rattle.combining.proofs.OpenedRow.{Calls, opened-insert, opened-in_range}
use Rattle.combining.proofs.OpenedCount.{row-room}
use Rattle.combining.proofs.pass.open_posted.Goals as goal

module _ {C R : Type 0} where
  -- The row with the opened record's item, wherever it was inserted.
  row-after : (n : ℕ) (t u : TicketView C R) (row : List (Item C R)) (place : ℕ) (i : Item C R) → IsItemWithin n i → opened_at t i.session ≡ None → AreOpened n t.opened row
      → u.opened ≡ set t.opened i.session (Some i.call) → opened_at u i.session ≡ Some i.call → (after : List (Item C R)) → after ≡ take place row ++ i ∷ drop place row → AreOpened n u.opened after
  row-after n t u row place i within none all is shown after put =
      let few = opened-in_range t.opened i.session i.call (ap (λ (l : Calls C). get_or l i.session None) (sym is) ∙ shown) in
      subst (λ (l : Calls C). AreOpened n l after) (sym is)
      (subst (λ (r : List (Item C R)). AreOpened n (set t.opened i.session (Some i.call)) r) (sym put) (opened-insert n t.opened row place i within none few all))

pub returns-clause-row : goal.returns-clause-row
returns-clause-row g c = let s = c.in-Some.ensures in
    row-after c.args.board.now.sessions c.args.session.now c.open.new.ticket c.args.row.now.items c.if-gives.place (record { session = c.args.whose; call = c.in-Some.call; reply = None })
    (record { some = omega arith; within = omega (arith, c.requires.whose.few) }) s.lacked c.requires.row (ap (λ (t : TicketView _ _). t.opened) s.ticket) s.opened c.insert_item.new.row.items (search rules)

pub insert_item-requires-clause-room : goal.insert_item-requires-clause-room
insert_item-requires-clause-room g c =
    let fewer = row-room c.args.board.now.sessions c.args.session.now.opened c.args.row.now.items c.args.whose c.requires.row c.in-Some.ensures.lacked c.requires.whose.some c.requires.whose.few in
    let len : vec_len c.args.row.now ≡ length c.args.row.now.items = search rules in
    let room : vec_len c.args.row.now < vec_capacity c.args.row.now = omega (arith, fewer, len, c.requires.room.0) in search rules
