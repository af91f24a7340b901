use Rattle.std.proofs.Common.{◌<◌, ◌∙◌, ap, Bool, false, List, ◌+◌, ◌&&◌, ◌||◌, eqb, get_or, length, take, refl, sym}
use Rattle.std.proofs.Math.Bool.{or-false}
use Rattle.std.proofs.lemmas.List.{take_all}
use Rattle.waits_for.specs.Pairs.{pairs_of}
use Rattle.lock_modes.specs.declared.Mode.TheVariants.{NL}
use Rattle.lock_holders.specs.declared.session_mode.SessionMode.{SessionMode}
use Rattle.lock_holders.specs.SessionModes.{has_session}
use Rattle.lock_table.specs.inner.Cells.{view_of}
use Rattle.lock_table.specs.inner.Blocking.{cell_blocks}
use Rattle.lock_table.proofs.WritingWaits.{blocks-waiting}
use Rattle.lock_table.proofs.RequestsAlike.{has-take, written-next}
use Rattle.lock_table.proofs.wait_graph.write_rows.Goals as goal

pub write_row-requires-clause-written : goal.write_row-requires-clause-written
write_row-requires-clause-written c = λ a b h.
    let v = view_of c.args.cell.now in
    let blocks = cell_blocks (a + 1) (b + 1) c.args.cell.now in
    c.loop-index.invariant.pairs a b
    ∙ (ap (λ (o : Bool). o || (has_session (a + 1) (take c.loop-index.index v.waiting) && blocks)) (c.requires.empty a b (has-take (a + 1) v.waiting c.loop-index.index h)) ∙ ap (λ (o : Bool). false || (o && blocks)) h)

pub loop-index-preserved : goal.loop-index-preserved
loop-index-preserved c =
    let k = c.loop-index.invariant in
    let v = view_of c.args.cell.now in
    let i = c.loop-index.index in
    let none : SessionMode = record { session = 0; mode = NL } in
    let lt : i < length v.waiting = rw c.queue-queue.ensures at c.loop-index-test.true in
    record {
      sessions = c.write_row.ensures.sessions ∙ k.sessions;
      pairs = λ a b.
          c.write_row.ensures.pairs a b none
          ∙ (ap (λ (o : Bool). o || (eqb (a + 1) (get_or v.waiting i none).session && cell_blocks (a + 1) (b + 1) c.args.cell.now)) (k.pairs a b)
          ∙ written-next (a + 1) v.waiting i none lt (pairs_of c.args.waits.now.rows a b) (cell_blocks (a + 1) (b + 1) c.args.cell.now));
      numbers = k.numbers;
    }

pub returns-clause-pairs : goal.returns-clause-pairs
returns-clause-pairs c = λ a b.
    let cell = c.args.cell.now in
    c.loop-index.invariant.pairs a b
    ∙ ap (λ (o : Bool). pairs_of c.args.waits.now.rows a b || o)
    (ap (λ (ws : List SessionMode). has_session (a + 1) ws && cell_blocks (a + 1) (b + 1) cell) (take_all c.loop-index.index (view_of cell).waiting (rw c.queue-queue.ensures at c.loop-index-test.false)) ∙ blocks-waiting (a + 1) (b + 1) (view_of cell))

pub loop-index-init : goal.loop-index-init
loop-index-init c = record { sessions = refl; pairs = λ a b. sym (or-false (pairs_of c.args.waits.now.rows a b)); numbers = refl }
