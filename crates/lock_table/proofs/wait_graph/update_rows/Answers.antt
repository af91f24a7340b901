use Rattle.std.proofs.Common.{◌≡◌, suc, ◌+◌, ◌<◌, ◌&&◌, ◌||◌, not, eqb, List, Some, get_or, length, drop, refl, sym, ◌∙◌, ap, arith, subst}
use Rattle.waits_for.specs.Pairs.{pairs_of}
use Rattle.lock_modes.specs.declared.Mode.TheVariants.{NL}
use Rattle.lock_holders.specs.declared.session_mode.SessionMode.{SessionMode}
use Rattle.lock_table.specs.inner.Cells.{view_of, is_granted}
use Rattle.lock_holders.specs.SessionModes.{has_session}
use Rattle.lock_table.specs.inner.Blocking.{has_fitting, has_conflicting}
use Rattle.lock_table.proofs.RowsAfterAsking.{asker-queued, written-ahead, follows-granted_request, follows-waiting}
use Rattle.lock_table.proofs.QueuedSessions.{all-behind}
use Rattle.lock_table.proofs.wait_graph.update_rows.Goals as goal

pub index_in-index-requires : goal.index_in-index-requires
index_in-index-requires c =
    let h = c.requires.asked in
    let old = c.args.waits.now in
    ap (has_session c.args.asker.session) c.queue-queue.ensures
    ∙ asker-queued c.args.asker h.before old old h.written h.idle (view_of c.args.cell.now) h.after c.requires.once (sym h.granted_is ∙ ap is_granted c.in-Waiting.is)

pub write_row-requires-clause-written : goal.write_row-requires-clause-written
write_row-requires-clause-written c =
    let h = c.requires.asked in
    let old = c.args.waits.now in
    let none : SessionMode = record { session = 0; mode = NL } in
    let i = c.index_in-index.result in
    let q = c.queue-queue.ensures in
    written-ahead c.args.asker h.before old old h.written h.idle (view_of c.args.cell.now) h.after c.requires.once (sym h.granted_is ∙ ap is_granted c.in-Waiting.is) i none
    (subst (λ (ws : List SessionMode). i < length ws) q c.index_in-index.ensures.within) (ap (λ (ws : List SessionMode). (get_or ws i none).session) (sym q) ∙ c.index_in-index.ensures.here none)

pub returns-in-Granted : goal.returns-in-Granted
returns-in-Granted c = λ h.
    let old = c.args.waits.now in
    let s = c.args.asker.session in
    let m = c.args.asker.mode in
    let q = c.queue-queue.ensures in
    follows-granted_request c.args.asker h.before old _ h.written h.idle (view_of c.args.cell.now) h.after c.requires.once (sym h.granted_is ∙ ap is_granted c.in-Granted.is)
    (c.add_conflicts.ensures.sessions ∙ c.remove_edges.ensures.sessions) refl
    (λ a b. c.add_conflicts.ensures.pairs a b
    ∙ (ap (λ o. o || (eqb (b + 1) s && has_conflicting (a + 1) m c.queue-queue.result.now)) (c.remove_edges.ensures.pairs a b)
    ∙ (λ i. (pairs_of old.rows a b && not (eqb (b + 1) s && has_fitting (a + 1) (Some m) (q i))) || (eqb (b + 1) s && has_conflicting (a + 1) m (q i)))))

pub returns-in-Waiting : goal.returns-in-Waiting
returns-in-Waiting c = λ h.
    let old = c.args.waits.now in
    let s = c.args.asker.session in
    let none : SessionMode = record { session = 0; mode = NL } in
    let i = c.index_in-index.result in
    let q = c.queue-queue.ensures in
    let next : i + 1 ≡ suc i = omega arith in
    let mid = pairs_of c.write_row.new.rows in
    follows-waiting c.args.asker h.before old _ h.written h.idle (view_of c.args.cell.now) h.after c.requires.once (sym h.granted_is ∙ ap is_granted c.in-Waiting.is) i none
    (subst (λ (ws : List SessionMode). i < length ws) q c.index_in-index.ensures.within) (ap (λ (ws : List SessionMode). (get_or ws i none).session) (sym q) ∙ c.index_in-index.ensures.here none)
    mid (c.add_edges_behind.ensures.sessions ∙ c.write_row.ensures.sessions) refl (λ a b. c.write_row.ensures.pairs a b none)
    (λ a b. c.add_edges_behind.ensures.pairs a b
    ∙ (ap (λ (ws : List SessionMode). mid a b || (eqb (b + 1) s && has_session (a + 1) ws)) (all-behind c.queue-queue.result.now (i + 1))
    ∙ (λ j. mid a b || (eqb (b + 1) s && has_session (a + 1) (drop (next j) (q j))))))
