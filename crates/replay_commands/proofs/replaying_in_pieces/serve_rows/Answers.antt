use Rattle.std.proofs.Common.{◌+◌, List, length, take, drop, ap, refl, sym, subst, take-append-drop, take_all, rules, arith}
use Rattle.std.proofs.lemmas.Result.{IfErr-weaker, on_ok_weaker}
use Rattle.lock_trace.specs.Rows.{IsRow}
use Rattle.lock_trace.specs.declared.trace_row.TraceRow.{TraceRow}
use Rattle.replay_commands.specs.Pieces.{IsFaultOfPieces}
use Rattle.replay_commands.proofs.UnderWay.{IsUnderWay, begun, fault_on_the_way, few_are_kept, front_written, last_written, none_are_kept, piece_written, row_served}
use Rattle.replay_commands.proofs.replaying_in_pieces.serve_rows.Goals as goal
use Rattle.replay_commands.proofs.replaying_in_pieces.serve_rows.Goals.{then-served-first_kept-ge-PIECE_ENTRIES+in_ok-write_kept, else-served-first_kept-ge-PIECE_ENTRIES}

pub loop-row-init : goal.loop-row-init
loop-row-init g c = record {
  way = begun c.args.book.now.sessions c.args.book.now (g.W.Write.contents c.args.output.now) refl c.requires.empty c.requires.all c.requires.unbounded;
  few = omega (arith, c.requires.all, ap length c.requires.empty);
}

pub serve-requires-clause-within : goal.serve-requires-clause-within
serve-requires-clause-within g c =
    let is : IsRow c.args.book.now.sessions c.row-item.result = subst (IsRow c.args.book.now.sessions) (sym c.row-item.is) (c.requires.within c.loop-row.row-index c.row-item.result c.loop-row-test.true) in
    omega (arith, is.last, c.loop-row.invariant.way.sessions)

pub returns-in_default-clause-fault : goal.returns-in_default-clause-fault
returns-in_default-clause-fault g c =
    front_written c.args.book.now.sessions (take c.loop-row.row-index c.args.rows.now) (drop c.loop-row.row-index c.args.rows.now) c.args.rows.now c.loop-row.book _ _
    c.loop-row.invariant.way (sym (take-append-drop c.loop-row.row-index c.args.rows.now))

pub write_kept-requires-clause-unbounded : goal.write_kept-requires-clause-unbounded
write_kept-requires-clause-unbounded g c =
    let way = row_served c.args.book.now.sessions c.args.rows.now c.loop-row.row-index c.row-item.result c.in-Ok._reply c.loop-row.book c.serve.new.self _ _
    c.loop-row-test.true c.row-item.is c.loop-row.invariant.way c.in-Ok.ensures.reply c.in-Ok.ensures.entry in
    way.unbounded

pub returns-in_err-write_kept-clause-fault : goal.returns-in_err-write_kept-clause-fault
returns-in_err-write_kept-clause-fault g c =
    let i = c.loop-row.row-index in
    let way = row_served c.args.book.now.sessions c.args.rows.now i c.row-item.result c.in-Ok._reply c.loop-row.book c.serve.new.self _ _
    c.loop-row-test.true c.row-item.is c.loop-row.invariant.way c.in-Ok.ensures.reply c.in-Ok.ensures.entry in
    let fault : IsFaultOfPieces c.args.rows.now (g.W.Write.contents c.args.output.now) (g.W.Write.contents c.write_kept.new.output) c.in_err-write_kept.field-0.0 =
    fault_on_the_way c.args.book.now.sessions (take (i + 1) c.args.rows.now) (drop (i + 1) c.args.rows.now) c.args.rows.now c.serve.new.self _ _ _ c.in_err-write_kept.field-0.0
    way (sym (take-append-drop (i + 1) c.args.rows.now)) c.in_err-write_kept.ensures.fault in
    search rules

pub loop-row-preserved : goal.loop-row-preserved
loop-row-preserved g c =
    let way = row_served c.args.book.now.sessions c.args.rows.now c.loop-row.row-index c.row-item.result c.in-Ok._reply c.loop-row.book c.serve.new.self _ _
    c.loop-row-test.true c.row-item.is c.loop-row.invariant.way c.in-Ok.ensures.reply c.in-Ok.ensures.entry in
    elim c.if-served-first_kept-ge-PIECE_ENTRIES.branch [
      | then-served-first_kept-ge-PIECE_ENTRIES+in_ok-write_kept w ↦ rw (w.book-is, w.output-is) (record {
        way = piece_written _ _ c.serve.new.self _ _ _ _ way w.in_ok-write_kept.ensures.written w.in_ok-write_kept.ensures.gone;
        few = none_are_kept c.serve.new.self _ w.in_ok-write_kept.ensures.gone;
      })
      | else-served-first_kept-ge-PIECE_ENTRIES w ↦ rw (w.book-is, w.output-is) (record {
        way = way;
        few = few_are_kept _ _ c.serve.new.self _ _ c.served.result c.first_kept.result way c.served.ensures.count c.served.type_inv c.first_kept.ensures.place w.if-served-first_kept-ge-PIECE_ENTRIES.false;
      })
    ]

pub write_kept-requires-2-clause-unbounded : goal.write_kept-requires-2-clause-unbounded
write_kept-requires-2-clause-unbounded g c = c.loop-row.invariant.way.unbounded

pub write_kept-requires-2-clause-within : goal.write_kept-requires-2-clause-within
write_kept-requires-2-clause-within g c = c.loop-row.invariant.way.within

pub returns-clause-replayed : goal.returns-clause-replayed
returns-clause-replayed g c =
    let way : IsUnderWay c.args.book.now.sessions c.args.rows.now c.loop-row.book (g.W.Write.contents c.args.output.now) (g.W.Write.contents c.loop-row.output) =
    subst (λ (rows : List TraceRow). IsUnderWay c.args.book.now.sessions rows c.loop-row.book (g.W.Write.contents c.args.output.now) (g.W.Write.contents c.loop-row.output))
    (take_all c.loop-row.row-index c.args.rows.now c.loop-row-test.false) c.loop-row.invariant.way in
    on_ok_weaker c.write_kept-2.result (λ piece. last_written _ c.args.rows.now c.loop-row.book _ _ _ way piece) c.write_kept-2.ensures.written

pub returns-clause-fault : goal.returns-clause-fault
returns-clause-fault g c =
    IfErr-weaker c.write_kept-2.result _ _
    (λ fault is. fault_on_the_way c.args.book.now.sessions (take c.loop-row.row-index c.args.rows.now) (drop c.loop-row.row-index c.args.rows.now) c.args.rows.now c.loop-row.book _ _ _ fault
    c.loop-row.invariant.way (sym (take-append-drop c.loop-row.row-index c.args.rows.now)) is)
    c.write_kept-2.ensures.fault
