use Rattle.std.proofs.Common.{◌+◌, ◌<◌, ◌&&◌, not, eqb, List, None, length, get_or, drop, ap, refl, sym, ◌∙◌, arith, subst}
use Rattle.waits_for.specs.Pairs.{pairs_of}
use Rattle.lock_holders.specs.declared.session_mode.SessionMode.{SessionMode}
use Rattle.lock_modes.specs.declared.Mode.TheVariants.{NL}
use Rattle.lock_table.specs.inner.Cells.{view_of, is_request}
use Rattle.lock_holders.specs.SessionModes.{has_session}
use Rattle.lock_table.specs.inner.Blocking.{has_fitting}
use Rattle.lock_table.proofs.NarrowingWaits.{follows-lock, follows-request}
use Rattle.lock_table.proofs.QueuedSessions.{all-behind}
use Rattle.lock_table.proofs.wait_graph.follow_give_up.Goals as goal

pub returns-in-Lock : goal.returns-in-Lock
returns-in-Lock c =
    let g = c.args.session in
    let old = c.args.waits.now in
    follows-lock c.args.claim g (view_of c.args.cell.now) old _ c.requires.claimed c.requires.written c.requires.once c.remove_edges.ensures.sessions refl c.in-Lock.is
    (λ a b. c.remove_edges.ensures.pairs a b ∙ ap (λ (ws : List SessionMode). pairs_of old.rows a b && not (eqb (b + 1) g && has_fitting (a + 1) None ws)) c.queue-queue.ensures)

pub index_in-index-requires : goal.index_in-index-requires
index_in-index-requires c = ap (has_session c.args.session) c.queue-queue.ensures ∙ (c.requires.claimed ∙ ap is_request c.in-Request.is)

pub returns-in-Request : goal.returns-in-Request
returns-in-Request c =
    let g = c.args.session in
    let old = c.args.waits.now in
    let removed = c.remove_edges-in-Request.ensures in
    let none : SessionMode = record { session = 0; mode = NL } in
    let n = c.index_in-index.result in
    let q = c.queue-queue.ensures in
    follows-request c.args.claim g (view_of c.args.cell.now) old _ c.requires.claimed c.requires.written c.requires.once (c.clear_row.ensures.sessions ∙ removed.sessions) refl c.in-Request.is
    (pairs_of c.remove_edges-in-Request.new.rows) c.position_of.result (omega (arith, c.requires.some, c.position_of.ensures))
    n none (subst (λ (ws : List SessionMode). n < length ws) q c.index_in-index.ensures.within) (ap (λ (ws : List SessionMode). (get_or ws n none).session) (sym q) ∙ c.index_in-index.ensures.here none)
    (λ a b. removed.pairs a b
    ∙ (ap (λ (ws : List SessionMode). pairs_of old.rows a b && not (eqb (b + 1) g && has_fitting (a + 1) c.mode_held-held.result ws)) (all-behind c.queue-queue.result.now n)
    ∙ (λ i. pairs_of old.rows a b && not (eqb (b + 1) g && has_fitting (a + 1) (c.mode_held-held.ensures i) (drop n (q i)))))) c.clear_row.ensures.pairs
