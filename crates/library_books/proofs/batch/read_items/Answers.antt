use Rattle.std.proofs.Common.{◌≡◌, ◌+◌, suc, List, take, sym, subst, arith}
use Rattle.lock_desk.specs.Batches.{Item as ItemValue}
use Rattle.library_books.specs.Batches.{AreItems}
use Rattle.library_books.proofs.Batches.{next_item, first_fault}
use Rattle.library_books.proofs.batch.read_items.Goals as goal

pub returns-in-Err-clause-err : goal.returns-in-Err-clause-err
returns-in-Err-clause-err c = λ other.
    first_fault c.args.book.now c.loop-k.k c.args.numbers.now c.loop-k.items.items _ c.in-Err.fault (omega (arith, c.loop-k-test.true)) c.loop-k.invariant (c.in-Err.ensures.err other)

pub loop-k-preserved : goal.loop-k-preserved
loop-k-preserved c =
    let one = c.in_default.ensures.ok in
    let items = c.loop-k.items.items in
    let suc_is : suc c.loop-k.k ≡ c.loop-k.k + 1 = omega arith in
    let next = next_item c.args.book.now c.loop-k.k c.args.numbers.now items _ one.0 (omega (arith, c.loop-k-test.true)) c.loop-k.invariant one.1 in
    let grown = subst (λ (is : List ItemValue). AreItems c.args.book.now (take (suc c.loop-k.k) c.args.numbers.now) is) (sym one.2) next in
    subst (λ j. AreItems c.args.book.now (take j c.args.numbers.now) c.push_item.new.items.items) suc_is grown
