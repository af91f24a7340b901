use Rattle.std.proofs.Common.{◌+◌, ◌&&◌, not, take, drop, List, ap, sym, ◌∙◌, subst, ◌≤◌}
use Rattle.waits_for.specs.Pairs.{pairs_of}
use Rattle.lock_holders.specs.declared.session_mode.SessionMode.{SessionMode}
use Rattle.lock_table.specs.inner.Cells.{view_of}
use Rattle.lock_holders.specs.SessionModes.{times, has_session}
use Rattle.lock_table.specs.inner.Blocking.{has_fitting_beside}
use Rattle.lock_table.proofs.GrantedWaits.{follows-granted}
use Rattle.lock_table.proofs.QueuedSessions.{all-behind, emptied-behind, times-behind}
use Rattle.lock_table.proofs.promotion.dequeue_granted.Goals as goal

pub write_queue_rows-requires-clause-once : goal.write_queue_rows-requires-clause-once
write_queue_rows-requires-clause-once c = λ s. subst (λ (ws : List SessionMode). times s ws ≤ 1) (sym c.dequeue.ensures.waiting) (times-behind s c.args.cell.now.waiting.items c.args.granted (c.requires.once s))

pub write_queue_rows-requires-clause-empty : goal.write_queue_rows-requires-clause-empty
write_queue_rows-requires-clause-empty c = λ a b h. emptied-behind (a + 1) c.args.cell.now.waiting.items c.args.granted (pairs_of c.args.waits.now.rows a b) (c.clear_queue_rows.ensures.pairs a b) (ap (has_session (a + 1)) (sym c.dequeue.ensures.waiting) ∙ h)

pub returns-clause-rows : goal.returns-clause-rows
returns-clause-rows c = λ h.
    let old = pairs_of c.args.waits.now.rows in
    let n = c.args.granted in
    follows-granted n (view_of c.args.cell.now) (view_of c.dequeue-2.new.self) c.args.waits.now c.follow_grants.new.waits h c.requires.once (ap (λ hs. hs.items) c.dequeue-2.ensures.holders) c.dequeue-2.ensures.waiting
    (λ a b. c.follow_grants.ensures.pairs a b
    ∙ (ap (λ (ws : List SessionMode). (old a b && not (has_session (a + 1) (take n c.queue-queue.result.now))) && not (has_fitting_beside (a + 1) (b + 1) (take n c.queue-queue.result.now) ws)) (all-behind c.queue-queue.result.now n)
    ∙ ap (λ (ws : List SessionMode). (old a b && not (has_session (a + 1) (take n ws))) && not (has_fitting_beside (a + 1) (b + 1) (take n ws) (drop n ws))) c.queue-queue.ensures))
    c.follow_grants.ensures.sessions c.follow_grants.ensures.numbers
