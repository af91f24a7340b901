use Rattle.std.proofs.Common.{◌+◌, ◌||◌, ◌&&◌, eqb, List, get_or, take, ◌∙◌, ap}
use Rattle.waits_for.specs.Pairs.{pairs_of}
use Rattle.lock_modes.specs.declared.Mode.TheVariants.{NL}
use Rattle.lock_holders.specs.declared.session_mode.SessionMode.{SessionMode}
use Rattle.lock_table.specs.inner.Cells.{view_of}
use Rattle.lock_holders.specs.SessionModes.{has_session, holder_blocks}
use Rattle.lock_table.proofs.RequestsAlike.{seen-written}
use Rattle.lock_table.proofs.wait_graph.write_full_row.Goals as goal

pub returns-clause-pairs : goal.returns-clause-pairs
returns-clause-pairs c = λ a b d.
    let v = view_of c.args.cell.now in
    let i = c.args.index in
    let none : SessionMode = record { session = 0; mode = NL } in
    let is = c.queue-queue.ensures in
    let old = pairs_of c.args.rows.now in
    let mid = pairs_of c.write_holder_edges.new.rows in
    seen-written v c.requires.once i none d c.requires.index old mid (pairs_of c.write_edges_ahead.new.rows)
    (λ x y. c.write_holder_edges.ensures.pairs x y ∙ ap (λ (ws : List SessionMode). old x y || (eqb (x + 1) (get_or ws i none).session && holder_blocks (get_or ws i none).session (get_or ws i none).mode (y + 1) v.holders)) is)
    (λ x y. c.write_edges_ahead.ensures.pairs x y ∙ ap (λ (ws : List SessionMode). mid x y || (eqb (x + 1) (get_or ws i none).session && has_session (y + 1) (take i ws))) is) a b
