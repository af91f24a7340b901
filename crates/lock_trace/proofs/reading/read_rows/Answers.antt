use Rattle.std.proofs.Common.{◌≡◌, ℕ, List, ◌++◌, rules, true, [], length, arith, sym, ap}
use Rattle.std.specs.Result.{is_ok}
use Rattle.std.proofs.lemmas.List.Elements.{All-nil, All-push}
use Rattle.lock_trace.specs.Records.{records_on, records_of}
use Rattle.lock_trace.proofs.FileSteps.{one_more_row, all_rows, tells}
use Rattle.lock_trace.proofs.reading.read_rows.Goals as goal

pub returns-in_default-clause-answer : goal.returns-in_default-clause-answer
returns-in_default-clause-answer g c bytes known = record {
  text = λ not. absurd cc;
  machine = λ is. (
    records_of bytes,
    record {
      front = [];
      are_rows = All-nil (g.T.Row.is c.args.sessions);
      records_are = sym (ap (λ (rs : List (List (List ℕ))). rs ++ records_of bytes) (c.requires.format.records []));
      number = omega arith;
    },
  );
}

pub returns-in-Ok-None-clause-answer : goal.returns-in-Ok-None-clause-answer
returns-in-Ok-None-clause-answer g c bytes known =
    let (left, at_left, so_far) = c.loop.invariant.so_far bytes known in
    let next = rw (c.in-Ok-None.is, c.in-Ok-None.field-0-is) at (c.next_row.ensures.next left at_left) in
    all_rows c.requires.format (records_of bytes) (records_on c.loop.reader.state [] [] left) c.loop.rows.items c.loop.invariant.rows so_far next

pub returns-in-Err-clause-answer : goal.returns-in-Err-clause-answer
returns-in-Err-clause-answer g c bytes known =
    let (left, at_left, so_far) = c.loop.invariant.so_far bytes known in
    let next = c.in-Err.ensures.next left at_left in
    tells c.requires.format g.R.Read.remaining (records_of bytes) (records_on c.loop.reader.state [] [] left) c.loop.rows.items c.len-place.result c.next_row.new.reader c.in-Err.kind
    c.loop.invariant.rows so_far (search rules) next

pub returns-in-Err-clause-from_one : goal.returns-in-Err-clause-from_one
returns-in-Err-clause-from_one g c = omega arith

pub returns-then-is_err-clause-from_one : goal.returns-then-is_err-clause-from_one
returns-then-is_err-clause-from_one g c = omega arith

pub returns-then-is_err-clause-answer : goal.returns-then-is_err-clause-answer
returns-then-is_err-clause-answer g c bytes known =
    let (left, at_left, so_far) = c.loop.invariant.so_far bytes known in
    let len : c.len-place.result ≡ length c.loop.rows.items = search rules in
    record {
      text = λ not. absurd cc;
      machine = λ is. (records_on c.loop.reader.state [] [] left, record { front = c.loop.rows.items; are_rows = c.loop.invariant.rows; records_are = so_far; number = omega (arith, len) });
    }

pub loop-preserved : goal.loop-preserved
loop-preserved g c =
    let good : is_ok c.push.result ≡ true = search rules in
    let items = rw good at c.push.ensures.items in
    let row = rw c.in-Ok-Some.field-0-is at c.in-Ok-Some.ensures.row in
    record {
      reading = (rw c.in-Ok-Some.field-0-is at c.in-Ok-Some.ensures.reading) (search rules);
      rows = rw items (All-push (g.T.Row.is c.args.sessions) c.loop.rows.items c.in-Ok-Some.found c.loop.invariant.rows row);
      so_far = λ bytes known.
          let (left, at_left, so_far) = c.loop.invariant.so_far bytes known in
          let past = rw (c.in-Ok-Some.is, c.in-Ok-Some.field-0-is) at (c.next_row.ensures.next left at_left) in
          let rest = records_on c.next_row.new.reader.state [] [] past.bytes in
          let more = one_more_row c.requires.format (records_of bytes) rest (records_on c.loop.reader.state [] [] left) c.loop.rows.items c.in-Ok-Some.found c.len-place.result (search rules) so_far past.all_are in
          (past.bytes, past.source, rw items more);
    }
