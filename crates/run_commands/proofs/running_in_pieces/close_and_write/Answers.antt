use Rattle.std.proofs.Common.{◌≤◌, drop, length}
use Rattle.std.specs.Prelude.{Result, Ok, Err, OnOk}
use Rattle.std.specs.Io.KnownBytes.{Appends}
use Rattle.std.proofs.lemmas.Result.{on_ok_weaker}
use Rattle.lock_trace.specs.Histories.{text_of_piece}
use Rattle.run_commands.proofs.running_in_pieces.close_and_write.Goals as goal

-- what holds where there is no fault, together
both : {T E : Type 0} (P Q : Type 0) (r : Result T E) → OnOk r P → OnOk r Q → OnOk r (P × Q)
both P Q (Ok x) p q = (p, q)
both P Q (Err e) p q = tt

pub returns-clause-written : goal.returns-clause-written
returns-clause-written g c =
    let book = c.in-Some.book in
    let next = c.args.next in
    let old = g.W.Write.contents c.args.output.now in
    let new = g.W.Write.contents c.write_rest.new.output in
    let rest = both (next ≤ length book.history) (Appends old new (text_of_piece next (drop next book.history))) c.write_rest.result c.write_rest.ensures.within c.write_rest.ensures.written in
    on_ok_weaker c.write_rest.result (λ is. (book, (c.in-Some.ensures, is.0, is.1))) rest
