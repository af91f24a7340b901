use Rattle.std.proofs.Common.{rules, ◌≡◌, suc, ◌+◌, get_or, set, ap, ◌∙◌, arith}
use Rattle.lock_desk.specs.Batches.{Item}
use Rattle.library_books.specs.Calls.{written}
use Rattle.library_books.specs.inner.Items.{numbers_of_item}
use Rattle.library_books.proofs.Writing.{next_written}
use Rattle.library_books.proofs.batch.write_items.Goals as goal

pub loop-k-preserved : goal.loop-k-preserved
loop-k-preserved c =
    let inv = c.loop-k.invariant in
    let k = c.loop-k.k in
    let items = c.args.items.now in
    let places = c.args.places.now in
    let d : Item = c.index-items-k.result in
    let value : c.item_numbers.result ≡ numbers_of_item (get_or items k d) = search rules in
    let next = next_written numbers_of_item k items places d (omega (arith, c.loop-k-test.true, inv.1)) (omega (arith, c.loop-k-test.true, inv.2)) in
    let suc_is : suc k ≡ k + 1 = omega arith in
    (ap (λ ys. set ys k c.item_numbers.result) inv.0 ∙ (ap (λ v. set (written numbers_of_item k items places) k v) value ∙ (next ∙ ap (λ j. written numbers_of_item j items places) suc_is)), inv.1, inv.2)
