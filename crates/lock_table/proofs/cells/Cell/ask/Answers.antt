use Rattle.std.proofs.Common.{Bool, cond, List, sym, ◌∙◌, ap, arith}
use Rattle.lock_holders.specs.declared.session_mode.SessionMode.{SessionMode}
use Rattle.lock_table.specs.inner.Cells.{view_of, queue_with, can_grant}
use Rattle.lock_holders.specs.SessionModes.{with_holder}
use Rattle.lock_holders.specs.Holders.{HolderList}
use Rattle.lock_table.proofs.ResourceViews.{both, kept-view, once-put, once-queued, busy-put, busy-queued}
use Rattle.lock_table.proofs.cells.Cell.ask.Goals as goal

pub returns-then-convert_if_single-clause-kept : goal.returns-then-convert_if_single-clause-kept
returns-then-convert_if_single-clause-kept c =
    let v = view_of c.args.self.now in
    let done = c.if-convert_if_single.true in
    kept-view _ (both (with_holder c.args.asker v.holders) v.waiting) (λ i. both (c.convert_if_single.ensures.items done i) v.waiting)
    (omega (arith, c.convert_if_single.ensures.len done, c.convert_if_single.ensures.capacity done, c.requires.kept.room))
    (once-put c.args.asker v c.requires.some c.requires.kept.once) (busy-put c.args.asker v)

pub returns-then-can_grant-clause-granted : goal.returns-then-can_grant-clause-granted
returns-then-can_grant-clause-granted c =
    sym c.if-can_grant.true ∙ (c.can_grant.ensures ∙ ap (λ (hs : List SessionMode). can_grant c.args.asker (both hs c.args.self.now.waiting.items)) (c.in_ok-reserve.ensures.items ∙ ap (λ (l : HolderList). l.items) (c.convert_if_single.ensures.same c.if-convert_if_single.false)))

pub returns-then-can_grant-clause-view : goal.returns-then-can_grant-clause-view
returns-then-can_grant-clause-view c =
    let q = c.args.asker in
    let v = view_of c.args.self.now in
    let hs = c.put.ensures.items ∙ ap (with_holder q) (c.in_ok-reserve.ensures.items ∙ ap (λ (l : HolderList). l.items) (c.convert_if_single.ensures.same c.if-convert_if_single.false)) in
    let granted = sym c.if-can_grant.true ∙ (c.can_grant.ensures ∙ ap (λ (xs : List SessionMode). can_grant q (both xs v.waiting)) (c.in_ok-reserve.ensures.items ∙ ap (λ (l : HolderList). l.items) (c.convert_if_single.ensures.same c.if-convert_if_single.false))) in
    (λ i. both (hs i) v.waiting) ∙ ap (λ (b : Bool). cond b (both (with_holder q v.holders) v.waiting) (both v.holders (queue_with q v.holders v.waiting))) granted

pub returns-then-can_grant-clause-kept : goal.returns-then-can_grant-clause-kept
returns-then-can_grant-clause-kept c =
    let v = view_of c.args.self.now in
    let hs = c.put.ensures.items ∙ ap (with_holder c.args.asker) (c.in_ok-reserve.ensures.items ∙ ap (λ (l : HolderList). l.items) (c.convert_if_single.ensures.same c.if-convert_if_single.false)) in
    kept-view _ (both (with_holder c.args.asker v.holders) v.waiting) (λ i. both (hs i) v.waiting)
    (omega (arith, c.put.ensures.len, c.put.ensures.capacity, c.in_ok-reserve.ensures.ok, c.len-waiting.ensures))
    (once-put c.args.asker v c.requires.some c.requires.kept.once) (busy-put c.args.asker v)

pub returns-in_ok-reserve-2-clause-granted : goal.returns-in_ok-reserve-2-clause-granted
returns-in_ok-reserve-2-clause-granted c =
    sym c.if-can_grant.false ∙ (c.can_grant.ensures ∙ ap (λ (hs : List SessionMode). can_grant c.args.asker (both hs c.args.self.now.waiting.items)) (c.in_ok-reserve.ensures.items ∙ ap (λ (l : HolderList). l.items) (c.convert_if_single.ensures.same c.if-convert_if_single.false)))

pub returns-in_ok-reserve-2-clause-view : goal.returns-in_ok-reserve-2-clause-view
returns-in_ok-reserve-2-clause-view c =
    let q = c.args.asker in
    let v = view_of c.args.self.now in
    let hs = (c.in_ok-reserve.ensures.items ∙ ap (λ (l : HolderList). l.items) (c.convert_if_single.ensures.same c.if-convert_if_single.false)) in
    let ws = c.in_ok-reserve-2.ensures.items in
    let waits = sym c.if-can_grant.false ∙ (c.can_grant.ensures ∙ ap (λ (xs : List SessionMode). can_grant q (both xs v.waiting)) hs) in
    c.enqueue.ensures.view ∙ ((λ i. both (hs i) (queue_with q (hs i) (ws i)))
    ∙ ap (λ (b : Bool). cond b (both (with_holder q v.holders) v.waiting) (both v.holders (queue_with q v.holders v.waiting))) waits)

pub returns-in_ok-reserve-2-clause-kept : goal.returns-in_ok-reserve-2-clause-kept
returns-in_ok-reserve-2-clause-kept c =
    let v = view_of c.args.self.now in
    let hs = (c.in_ok-reserve.ensures.items ∙ ap (λ (l : HolderList). l.items) (c.convert_if_single.ensures.same c.if-convert_if_single.false)) in
    let ws = c.in_ok-reserve-2.ensures.items in
    let e = c.enqueue.ensures.view ∙ (λ i. both (hs i) (queue_with c.args.asker (hs i) (ws i))) in
    kept-view _ (both v.holders (queue_with c.args.asker v.holders v.waiting)) e c.enqueue.ensures.room
    (once-queued c.args.asker v c.requires.some c.requires.idle c.requires.kept.once) (busy-queued c.args.asker v)
