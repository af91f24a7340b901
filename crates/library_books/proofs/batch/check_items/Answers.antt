use Rattle.std.proofs.Common.{◌≡◌, ◌+◌, ◌++◌, ◌∷◌, [], suc, take, subst, arith}
use Rattle.library_books.specs.Batches.{AreItems}
use Rattle.library_books.proofs.Batches.{next_item, first_fault}
use Rattle.library_books.proofs.batch.check_items.Goals as goal

pub returns-in-Err-clause-err : goal.returns-in-Err-clause-err
returns-in-Err-clause-err c =
    first_fault c.args.book.now c.loop-k.k c.args.numbers.now c.loop-k.invariant.0 _ c.in-Err.fault (omega (arith, c.loop-k-test.true)) c.loop-k.invariant.1 c.in-Err.ensures.err

pub loop-k-preserved : goal.loop-k-preserved
loop-k-preserved c =
    let one = c.in_default.ensures.ok in
    let items = c.loop-k.invariant.0 in
    let suc_is : suc c.loop-k.k ≡ c.loop-k.k + 1 = omega arith in
    let next = next_item c.args.book.now c.loop-k.k c.args.numbers.now items _ one.0 (omega (arith, c.loop-k-test.true)) c.loop-k.invariant.1 one.1 in
    (items ++ one.0 ∷ [], subst (λ j. AreItems c.args.book.now (take j c.args.numbers.now) (items ++ one.0 ∷ [])) suc_is next)
